use Rattle.std.proofs.Common.{◌+◌, ◌-◌, ◌*◌, ◌^◌, ◌<◌}
use Rattle.root.proofs.nearest_root.Given as goal

abbrev pub invariant-down : goal.invariant-down
invariant-down l = l.r < 2 ^ 32

abbrev pub decreases-down : goal.decreases-down
decreases-down l = l.r

abbrev pub invariant-up : goal.invariant-up
invariant-up l = (l.r < 2 ^ 32) × (l.r * l.r < l.n + l.r)

abbrev pub decreases-up : goal.decreases-up
decreases-up l = l.n - l.r
