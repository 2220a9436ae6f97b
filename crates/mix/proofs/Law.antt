-- std's tests of a float, in the words of the factor.
use mathlib.Core.Path.{◌≡◌, refl}
use mathlib.Core.Bool.{true, false}
use Prim.Native.Nat.{ℕ, ◌+◌}
use native.Mathlib.Omega.{arith}
use lib.Dec.{ltb}
use lib.Ieee.{Float, nan, inf, fin, lt, neg, of_bits}
use Rattle.std.proofs.lemmas.Bool.Decides.{nat_tests}
use Rattle.std.specs.Float.{float_is_finite, float_with_sign}
use Rattle.scan.specs.Scan.{pick}
use Rattle.state.specs.Mix.{finite, epsilon, near_zero}

pub finite_is : (x : Float) → float_is_finite x ≡ finite x
unfolding float_is_finite
finite_is nan = refl
finite_is (inf s) = refl
finite_is (fin s m e) = refl

over : (a b : ℕ) → ltb a b ≡ pick (ltb 0 (b + a)) (ltb a b) false
over a b = grind (arith, nat_tests)

under : (a b : ℕ) → ltb a b ≡ pick (ltb a b) (ltb 0 (a + b)) false
under a b = grind (arith, nat_tests)

pub near_is : (a : Float) → lt (float_with_sign false a) epsilon ≡ near_zero a
unfolding lt neg of_bits float_with_sign near_zero
near_is nan = refl
near_is (inf true) = refl
near_is (inf false) = refl
near_is (fin false m e) = over _ _
near_is (fin true m e) = under _ _
