use mathlib.Core.Path.{◌≡◌}
use Prim.Native.Nat.{◌≤◌}
use Rattle.root.specs.Inner.{part}
use Rattle.power.specs.Power.{roots}
use Rattle.power.proofs.near_one.Given as goal

abbrev pub invariant-loop-i : goal.invariant-loop-i
invariant-loop-i l = (roots l.i l.v (part l.r.digits) l.p ≡ roots l.d l.v (part l.fn.m.digits) l.whole) × (l.i ≤ 8)

abbrev pub decreases-loop-i : goal.decreases-loop-i
decreases-loop-i l = l.i
