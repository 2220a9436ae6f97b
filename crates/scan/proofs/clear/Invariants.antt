use Prim.Native.Nat.{ℕ, ◌-◌}
use mathlib.Core.Bool.{Bool}
use lib.Dec.{ltb}
use Rattle.scan.specs.Inner.{Passed}
use Rattle.scan.proofs.clear.Given as goal

abbrev test : ℕ → ℕ → Bool
test x b = ltb x b

abbrev pub invariant-loop-i : goal.invariant-loop-i
invariant-loop-i l = Passed (test l.x) l.text l.from l.to l.i

abbrev pub decreases-loop-i : goal.decreases-loop-i
decreases-loop-i l = l.to - l.i
