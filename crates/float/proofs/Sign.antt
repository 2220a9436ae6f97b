-- Floats by their sign and against a bound: what is shown of each case holds of every float that passed a test.
use Rattle.std.proofs.Common.{◌≡◌, ℕ, zero, suc, ◌+◌, ◌*◌, ◌^◌, ◌<◌, ◌≤◌, true, false, T, ℤ, pos, sym, subst, lt_irrefl, zero-lt-suc, mul-pos, zero-mul, mul-one, arith, ltb→lt, lt→ltb, ltb-false, ltb-true}
use lib.Ieee.{Float, nan, inf, fin, binary32, lt, neg, of_bits, up, down}
use lib.Ieee.Fits.{up_pos}
use Rattle.float.specs.Float.{zero as +0}

-- ---- the tests of the code
pub is-above : (x : Float) → lt (of_bits binary32 0) x ≡ true → T (lt +0 x)
unfolding of_bits
is-above x e = subst T (sym e) tt

pub is_below : (x : Float) → lt x (of_bits binary32 0) ≡ true → T (lt x +0)
unfolding of_bits
is_below x e = subst T (sym e) tt

-- ---- above zero, below it, neither
grows : (m : ℕ) (e : ℤ) → 0 < suc m * up e * 1
grows m e = mul-pos (mul-pos (zero-lt-suc m) (up_pos e)) (zero-lt-suc 0)

no_size : (e : ℤ) → 0 < 0 * up e * 1 → ⊥
no_size e h = omega (arith, zero-mul (up e))

module _ (P : Float → Type 0) where
  pub above_cases : P (inf false) → ((m : ℕ) (e : ℤ) → P (fin false (suc m) e)) → (x : Float) → T (lt +0 x) → P x
  unfolding lt
  above_cases i f nan h = absurd h
  above_cases i f (inf true) h = absurd h
  above_cases i f (inf false) h = i
  above_cases i f (fin true m e) h = absurd h
  above_cases i f (fin false zero e) h = absurd (no_size e (omega (arith, zero-mul (down e), ltb→lt (0 * down e) (0 * up e * 1) h)))
  above_cases i f (fin false (suc m) e) h = f m e

  pub below_cases : P (inf true) → ((m : ℕ) (e : ℤ) → P (fin true (suc m) e)) → (x : Float) → T (lt x +0) → P x
  unfolding lt
  below_cases i f nan h = absurd h
  below_cases i f (inf true) h = i
  below_cases i f (inf false) h = absurd h
  below_cases i f (fin true zero e) h = absurd (no_size e (omega (arith, zero-mul (down e), ltb→lt 0 (0 * up e * 1 + 0 * down e) h)))
  below_cases i f (fin true (suc m) e) h = f m e
  below_cases i f (fin false m e) h = absurd (lt_irrefl 0 (omega (arith, zero-mul (down e), ltb→lt (m * up e * 1) (0 * down e) h)))

pub flipped : (x : Float) → T (lt x +0) → T (lt +0 (neg x))
unfolding lt neg
flipped = below_cases (λ (x : Float). T (lt +0 (neg x))) tt (λ (m : ℕ) (e : ℤ). lt→ltb (0 * down e) (suc m * up e * 1) (omega (arith, zero-mul (down e), mul-pos {m = suc m} {n = up e} (omega arith) (up_pos e))))

-- ---- against a whole number k * 2 ^ j
module _ (m : ℕ) (e : ℤ) (k j : ℕ) where
  pub less_than : lt (fin false m e) (fin false k (pos j)) ≡ true → m * up e < k * 2 ^ j * down e
  unfolding lt
  less_than h = omega (arith, mul-one (m * up e), ltb-true (m * up e * 1) (k * 2 ^ j * down e) h)

  pub not_less : lt (fin false m e) (fin false k (pos j)) ≡ false → k * 2 ^ j * down e ≤ m * up e
  unfolding lt
  not_less h = omega (arith, mul-one (m * up e), ltb-false (m * up e * 1) (k * 2 ^ j * down e) h)
