use Prim.Native.Nat.{◌-◌, ◌≤◌}
use lib.ListN.{length}
use Rattle.tokens.specs.Inner.{Light}
use Rattle.tokens.proofs.light.Given as goal

abbrev pub invariant-loop-a : goal.invariant-loop-a
invariant-loop-a l = (l.i ≤ length l.text) × (l.rate ≤ 3) × (l.w ≤ l.most) × (Light l.text l.i l.rate l.w l.most → Light l.text 0 3 0 l.most)

abbrev pub decreases-loop-a : goal.decreases-loop-a
decreases-loop-a l = length l.text - l.i
