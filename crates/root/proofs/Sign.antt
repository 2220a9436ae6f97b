-- Floats that are neither above nor below zero, and finite ones above it.
use Rattle.std.proofs.Common.{◌≡◌, ℕ, zero, suc, ◌+◌, ◌*◌, ◌<◌, Bool, true, false, T, ℤ, sym, subst, true≢false, le_of_eq, lt_of_lt_of_le, le-add_right, lt_of_le_of_lt, zero-lt-suc, mul-pos, zero-mul, lt→ltb}
use lib.Ieee.{Float, nan, inf, fin, binary32, lt, of_bits, up, down}
use lib.Ieee.Fits.{up_pos}
use lib.Ieee.Positive.{positive}
use Rattle.float.specs.Float.{zero as +0}
use Rattle.float.proofs.Sign.{above_cases}

pub not-above : (x : Float) → lt (of_bits binary32 0) x ≡ false → lt +0 x ≡ false
unfolding of_bits
not-above x e = e

pub not-below : (x : Float) → lt x (of_bits binary32 0) ≡ false → lt x +0 ≡ false
unfolding of_bits
not-below x e = e

grows : (m : ℕ) (e : ℤ) → 0 < suc m * up e * 1
grows m e = mul-pos (mul-pos (zero-lt-suc m) (up_pos e)) (zero-lt-suc 0)

module _ (P : Float → Type 0) where
  not_above_cases : P nan → ((x : Float) → T (lt x +0) → P x) → ((s : Bool) (e : ℤ) → P (fin s zero e)) → (x : Float) → lt +0 x ≡ false → P x
  unfolding lt
  not_above_cases n b z nan h = n
  not_above_cases n b z (inf true) h = b (inf true) tt
  not_above_cases n b z (inf false) h = absurd (true≢false h)
  not_above_cases n b z (fin s zero e) h = z s e
  not_above_cases n b z (fin true (suc m) e) h = b (fin true (suc m) e) (lt→ltb 0 (suc m * up e * 1 + 0 * down e) (lt_of_lt_of_le (grows m e) (le-add_right (suc m * up e * 1) (0 * down e))))
  not_above_cases n b z (fin false (suc m) e) h = absurd (subst T h (lt→ltb (0 * down e) (suc m * up e * 1) (lt_of_le_of_lt (le_of_eq (zero-mul (down e))) (grows m e))))

pub zero_cases : (P : Float → Type 0) → P nan → ((s : Bool) (e : ℤ) → P (fin s zero e)) → (x : Float) → lt +0 x ≡ false → lt x +0 ≡ false → P x
zero_cases P n z x a b =
    not_above_cases (λ (y : Float). lt y +0 ≡ false → P y) (λ (g : lt nan +0 ≡ false). n) (λ (y : Float) (h : T (lt y +0)) (g : lt y +0 ≡ false). absurd (subst T g h)) (λ (s : Bool) (e : ℤ) (g : lt (fin s zero e) +0 ≡ false). z s e) x a b

-- ---- above zero and not infinite
pub positive_of : (x : Float) → T (lt +0 x) → lt x (inf false) ≡ true → T (positive x)
unfolding lt
positive_of = above_cases (λ (x : Float). lt x (inf false) ≡ true → T (positive x)) (λ (h : false ≡ true). absurd (true≢false (sym h))) (λ (m : ℕ) (e : ℤ) (h : true ≡ true). lt→ltb 0 (suc m) (zero-lt-suc m))
