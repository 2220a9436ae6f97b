-- 256 times a: below 64 the product of floats is exact, and its cut is that of the number.
use Rattle.std.proofs.Common.{◌≡◌, ℕ, suc, ◌+◌, ◌-◌, ◌*◌, ◌/◌, ◌^◌, ◌<◌, ◌≤◌, min, Bool, true, false, cond, T, ℤ, pos, sym, refl, ap, ◌∙◌, subst, true≢false, le_of_eq, lt_of_le_of_lt, zero-lt-suc, mul_assoc, div-lt_iff_lt-mul, le-div_iff_mul-le, lt_of_mul-lt-mul_right, arith, lit<, lt→ltb, pow_pos, pow-add}
use lib.Ieee.{Float, nan, inf, fin, binary32, up, down, lt, mul, round, fits, of_bits, to_unsigned}
use lib.Ieee.Exact.{HasValue, round_exact}
use lib.Ieee.Fits.{down_pos}
use lib.Ieee.Nearest.{div_same}
use lib.Ieee.Positive.{num, den, positive, mul_at}
use Rattle.float.specs.Float.{zero as +0, scaled_to}
use Rattle.float.proofs.Sign.{above_cases, less_than, not_less}
use Rattle.float.proofs.Units.{in_units}
use Rattle.power.specs.Power.{steps}

low : (x : Float) → T (lt +0 x) → lt x (fin false 1 (pos 6)) ≡ true → T (positive x) × (num x < 64 * den x)
unfolding lt
low =
    above_cases (λ (x : Float). lt x (fin false 1 (pos 6)) ≡ true → T (positive x) × (num x < 64 * den x)) (λ (h : false ≡ true). absurd (true≢false (sym h)))
    (λ (m : ℕ) (e : ℤ) (h : lt (fin false (suc m) e) (fin false 1 (pos 6)) ≡ true). (lt→ltb 0 (suc m) (zero-lt-suc m), omega (arith, less_than (suc m) e 1 6 h)))

pub from_64 : (x : Float) → T (lt +0 x) → lt x (of_bits binary32 0x42800000) ≡ false → 16384 ≡ steps x
unfolding lt scaled_to of_bits
from_64 =
    above_cases (λ (x : Float). lt x (fin false 1 (pos 6)) ≡ false → 16384 ≡ steps x) (λ (h : false ≡ false). refl)
    (λ (m : ℕ) (e : ℤ) (h : lt (fin false (suc m) e) (fin false 1 (pos 6)) ≡ false).
    over (suc m * up e * 2 ^ 8 / down e) ((le-div_iff_mul-le (down_pos e)).1 (omega (arith, not_less (suc m) e 1 6 h))))
  where
    over : (n : ℕ) → 16384 ≤ n → 16384 ≡ min n 16384
    over n h = omega arith

cut : (v : Float) (a c : ℕ) → 0 < c → HasValue v false a c → to_unsigned 32 v ≡ min (a / c) (2 ^ 32 - 1)
unfolding to_unsigned
cut nan a c C h = absurd h
cut (inf t) a c C h = absurd h
cut (fin t m e) a c C h = ap (λ (b : Bool). cond b 0 (min (m * up e / down e) (2 ^ 32 - 1))) h.0 ∙ ap (λ (n : ℕ). min n (2 ^ 32 - 1)) (div_same (m * up e) (down e) a c (down_pos e) C h.1)

product : (x : Float) → T (fits binary32 x) → T (positive x) → num x < 64 * den x → to_unsigned 32 (mul binary32 x (fin false 1 (pos 8))) ≡ steps x
unfolding scaled_to
product nan f p l = absurd p
product (inf s) f p l = absurd p
product (fin true m e) f p l = absurd p
product (fin false m e) f p l =
    let (b, v, (q, j, small, is), some) = in_units (fin false m e) f p in
    let few : b < 2 ^ 155 = lt_of_mul-lt-mul_right (down e) (omega (arith, v.1)) in
    let long : q * 2 ^ (j + 8) ≡ b * 256 = ap (λ (n : ℕ). q * n) (pow-add 2 j 8) ∙ sym (mul_assoc q (2 ^ j) 256) ∙ ap (λ (n : ℕ). n * 256) (sym is) in
    let value : HasValue (round binary32 false (b * 256) (2 ^ 149)) false (b * 256) (2 ^ 149) =
    round_exact binary32 false (b * 256) (2 ^ 149) q (j + 8) (pow_pos 149) small (lt_of_le_of_lt (le_of_eq long) (omega (arith, few))) (ap (λ (n : ℕ). n * 2 ^ 149) (sym long)) in
    ap (to_unsigned 32) (mul_at binary32 (fin false m e) (fin false 1 (pos 8)) b (2 ^ 149) 256 1 p tt (pow_pos 149) (lit< tt) v (refl, refl))
    ∙ cut _ (b * 256) (2 ^ 149) (pow_pos 149) value
    ∙ ap (λ (n : ℕ). min n (2 ^ 32 - 1)) (div_same (b * 256) (2 ^ 149) (m * up e * 2 ^ 8) (down e) (pow_pos 149) (down_pos e) (omega (arith, v.1)))
    ∙ under (m * up e * 2 ^ 8 / down e) ((div-lt_iff_lt-mul (down_pos e)).1 (omega arith))
  where
    under : (n : ℕ) → n < 16384 → min n (2 ^ 32 - 1) ≡ min n 16384
    under n h = omega arith

pub below_64 : (x : Float) → fits binary32 x ≡ true → T (lt +0 x) → lt x (of_bits binary32 0x42800000) ≡ true → to_unsigned 32 (mul binary32 x (of_bits binary32 0x43800000)) ≡ steps x
unfolding of_bits
below_64 x f h l = let a = low x h l in product x (subst T (sym f) tt) a.0 a.1
