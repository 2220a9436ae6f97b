use Rattle.std.proofs.Common.{◌≡◌, ◌*◌, ◌^◌, ◌<◌, ◌≤◌}
use Rattle.root.proofs.lengthened.Given as goal

abbrev pub invariant-loop-m : goal.invariant-loop-m
invariant-loop-m l = (l.m * 2 ^ l.t ≡ l.b * 2 ^ 149) × (1 ≤ l.b) × (l.m < 2 ^ 24) × (l.t ≤ 149)

abbrev pub decreases-loop-m : goal.decreases-loop-m
decreases-loop-m l = l.t
