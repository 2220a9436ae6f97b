use mathlib.Core.Path.{◌≡◌}
use Prim.Native.Nat.{◌≤◌}
use Rattle.power.specs.Power.{roots}
use Rattle.power.proofs.fraction.Given as goal

abbrev pub invariant-loop-d : goal.invariant-loop-d
invariant-loop-d l = (roots l.d l.v l.r l.p ≡ roots 8 l.v l.x l.whole) × (l.d ≤ 8)

abbrev pub decreases-loop-d : goal.decreases-loop-d
decreases-loop-d l = l.d
