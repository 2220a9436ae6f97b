-- The bits of a value above zero: its significand and exponent; and the value scaled by a power of two and cut down to a whole number.
use Rattle.std.proofs.Common.{◌≡◌, ℕ, zero, suc, ◌+◌, ◌-◌, ◌*◌, ◌/◌, ◌%◌, ◌^◌, ◌<◌, ◌≤◌, Bool, true, false, cond, not, T, eqb, leb, sym, ap, ◌∙◌, subst, ⊎_elim, le_trans, le_of_eq, lt_of_lt_of_le, lt_of_le_of_lt, mul-le-mul_right, mod-eq_of_lt, mul_assoc, div-lt_iff_lt-mul, eq-zero-or-pos, add_comm, mul_right_comm, mul-div_cancel, arith, pow_pos, pow_mono, pow-add, shl_lt}
use lib.Dec.{nleb→lt}
use lib.Ieee.{Float, nan, inf, fin, binary32, odd, fits, is_nan, of_fields, of_bits, to_bits}
use lib.Ieee.Exact.{HasValue, odd_sign}
use lib.Ieee.Bits.{of_bits-to_bits}
use lib.Ieee.Nearest.{div_same}
use lib.Ieee.Positive.{num, den, positive, den_pos, value→cross}
use Rattle.decimal.proofs.Law.{pow-back}

positive_sign : (v : Float) (s : Bool) (a c : ℕ) → T (positive v) → HasValue v s a c → s ≡ false
positive_sign nan s a c p h = absurd p
positive_sign (inf t) s a c p h = absurd p
positive_sign (fin true m e) s a c p h = absurd p
positive_sign (fin false m e) s a c p h = sym h.0

pub not-nan : (v : Float) → T (positive v) → T (not (is_nan v))
unfolding is_nan
not-nan nan p = p
not-nan (inf t) p = tt
not-nan (fin s m e) p = tt

-- the significand and the exponent, of an exponent's field x and the digits t
abbrev Decoded : ℕ → ℕ → Float → Type 0
Decoded zero t v = HasValue v false (t * 2 ^ 0) (2 ^ 149)
Decoded (suc x) t v = HasValue v false ((2 ^ 23 + t) * 2 ^ x) (2 ^ 149)

decoded : (s : Bool) (x t : ℕ) → T (positive (of_fields binary32 s x t)) → (s ≡ false) × Decoded x t (of_fields binary32 s x t)
unfolding of_fields
decoded s zero t p =
    let v = odd_sign 24 s t 0 149 in
    let z = positive_sign (odd 24 s t 0 149) s (t * 2 ^ 0) (2 ^ 149) p v in
    (z, subst (λ (b : Bool). HasValue (odd 24 s t 0 149) b (t * 2 ^ 0) (2 ^ 149)) z v)
decoded s (suc x) t p = go (eqb (suc x) 255) p
  where
    no : (b : Bool) → T (positive (cond b (inf s) nan)) → ⊥
    no true p = p
    no false p = p

    go : (b : Bool) → T (positive (cond b (cond (eqb t 0) (inf s) nan) (odd 24 s (2 ^ 23 + t) x 149)))
        → (s ≡ false) × HasValue (cond b (cond (eqb t 0) (inf s) nan) (odd 24 s (2 ^ 23 + t) x 149)) false ((2 ^ 23 + t) * 2 ^ x) (2 ^ 149)
    go true p = absurd (no (eqb t 0) p)
    go false p =
        let v = odd_sign 24 s (2 ^ 23 + t) x 149 in
        let z = positive_sign (odd 24 s (2 ^ 23 + t) x 149) s ((2 ^ 23 + t) * 2 ^ x) (2 ^ 149) p v in
        (z, subst (λ (b : Bool). HasValue (odd 24 s (2 ^ 23 + t) x 149) b ((2 ^ 23 + t) * 2 ^ x) (2 ^ 149)) z v)

decoded_bits : (b : ℕ) → T (positive (of_bits binary32 b)) → (b < 2 ^ 31) × Decoded (b % 2 ^ 31 / 2 ^ 23) (b % 2 ^ 23) (of_bits binary32 b)
unfolding of_bits
decoded_bits b p =
    let d = decoded (leb (2 ^ 31) b) (b % 2 ^ 31 / 2 ^ 23) (b % 2 ^ 23) p in
    (nleb→lt (2 ^ 31) b (subst (λ (t : Bool). T (not t)) (sym d.0) tt), d.1)

module _ (x : Float) (f : T (fits binary32 x)) (p : T (positive x)) where
  abbrev bits : ℕ
  bits = to_bits binary32 x

  whole : (bits < 2 ^ 31) × Decoded (bits % 2 ^ 31 / 2 ^ 23) (bits % 2 ^ 23) x
  whole =
      subst (λ (v : Float). (bits < 2 ^ 31) × Decoded (bits % 2 ^ 31 / 2 ^ 23) (bits % 2 ^ 23) v) (of_bits-to_bits binary32 x f)
      (decoded_bits bits (subst (λ (v : Float). T (positive v)) (sym (of_bits-to_bits binary32 x f)) p))

  pub below_sign : bits < 2 ^ 31
  below_sign = whole.0

  field_is : bits % 2 ^ 31 / 2 ^ 23 ≡ bits / 2 ^ 23
  field_is = ap (λ (n : ℕ). n / 2 ^ 23) (mod-eq_of_lt below_sign)

  at_field : Decoded (bits / 2 ^ 23) (bits % 2 ^ 23) x
  at_field = subst (λ (n : ℕ). Decoded n (bits % 2 ^ 23) x) field_is whole.1

  pub low_value : bits / 2 ^ 23 ≡ 0 → HasValue x false (bits % 2 ^ 23 * 2 ^ 0) (2 ^ 149)
  low_value z = subst (λ (n : ℕ). Decoded n (bits % 2 ^ 23) x) z at_field

  pub high_value : 0 < bits / 2 ^ 23 → HasValue x false ((bits % 2 ^ 23 + 2 ^ 23) * 2 ^ (bits / 2 ^ 23 - 1)) (2 ^ 149)
  high_value h =
      subst (λ (m : ℕ). HasValue x false (m * 2 ^ (bits / 2 ^ 23 - 1)) (2 ^ 149)) (add_comm (2 ^ 23) (bits % 2 ^ 23))
      (subst (λ (n : ℕ). Decoded n (bits % 2 ^ 23) x) (sym (pred (bits / 2 ^ 23) h)) at_field)
    where
      pred : (n : ℕ) → 0 < n → suc (n - 1) ≡ n
      pred n h = omega arith

-- ---- x * 2 ^ j, cut down, for x of m * 2 ^ e smallest values
module _ (x : Float) (m e j : ℕ) (h : HasValue x false (m * 2 ^ e) (2 ^ 149)) where
  scaled : num x * 2 ^ j / den x ≡ m * 2 ^ (e + j) / 2 ^ 149
  scaled =
      div_same (num x * 2 ^ j) (den x) (m * 2 ^ (e + j)) (2 ^ 149) (den_pos x) (pow_pos 149)
      (mul_right_comm (num x) (2 ^ j) (2 ^ 149) ∙ ap (λ (y : ℕ). y * 2 ^ j) (value→cross x (m * 2 ^ e) (2 ^ 149) h) ∙ mul_right_comm (m * 2 ^ e) (den x) (2 ^ j)
      ∙ ap (λ (y : ℕ). y * den x) (mul_assoc m (2 ^ e) (2 ^ j) ∙ ap (λ (y : ℕ). m * y) (sym (pow-add 2 e j))))

  pub scaled-none : m < 2 ^ 24 → 24 + (e + j) ≤ 149 → 0 ≡ num x * 2 ^ j / den x
  scaled-none small under = none _ _ scaled ((div-lt_iff_lt-mul (pow_pos 149)).1 (lt_of_lt_of_le (shl_lt 24 (e + j) small) (le_trans (pow_mono under) (le_of_eq (sym (one_of (2 ^ 149)))))))
    where
      none : (u v : ℕ) → u ≡ v → v < 1 → 0 ≡ u
      none u v e h = omega arith

      one_of : (n : ℕ) → 1 * n ≡ n
      one_of n = omega arith

  -- k digits are dropped
  pub scaled_right : (k : ℕ) → e + j + k ≡ 149 → m / 2 ^ k ≡ num x * 2 ^ j / den x
  scaled_right k same =
      sym (scaled ∙ div_same (m * 2 ^ (e + j)) (2 ^ 149) m (2 ^ k) (pow_pos 149) (pow_pos k)
      (mul_assoc m (2 ^ (e + j)) (2 ^ k) ∙ ap (λ (y : ℕ). m * y) (sym (pow-add 2 (e + j) k) ∙ ap (λ (y : ℕ). 2 ^ y) same)))

  -- k zeros are added
  pub scaled_left : (k : ℕ) → e + j ≡ k + 149 → m * 2 ^ k ≡ num x * 2 ^ j / den x
  scaled_left k same =
      sym (scaled ∙ ap (λ (y : ℕ). y / 2 ^ 149) (ap (λ (y : ℕ). m * y) (ap (λ (y : ℕ). 2 ^ y) same ∙ pow-add 2 k 149) ∙ sym (mul_assoc m (2 ^ k) (2 ^ 149))) ∙ mul-div_cancel (m * 2 ^ k) (pow_pos 149))

  -- with at most n digits before the point
  pub scaled-room : (n k : ℕ) → e + j ≡ k + 149 → 2 ^ 23 ≤ m → num x * 2 ^ j < 2 ^ n * den x → 23 + k < n
  scaled-room n k same large small =
      pow-back (23 + k) n
      (lt_of_le_of_lt (le_of_eq (pow-add 2 23 k))
      (lt_of_le_of_lt (mul-le-mul_right (2 ^ k) large)
      (lt_of_le_of_lt (le_of_eq (scaled_left k same)) ((div-lt_iff_lt-mul (den_pos x)).1 small))))

-- ---- the same by the bits
module _ (x : Float) (f : T (fits binary32 x)) (p : T (positive x)) (j : ℕ) (u : j ≤ 8) where
  abbrev field : ℕ
  field = to_bits binary32 x / 2 ^ 23

  abbrev digits : ℕ
  digits = to_bits binary32 x % 2 ^ 23 + 2 ^ 23

  -- below 1
  pub bits_none : field + j < 127 → 0 ≡ num x * 2 ^ j / den x
  bits_none l =
      ⊎_elim
      (λ z. scaled-none x (to_bits binary32 x % 2 ^ 23) 0 j (low_value x f p z) (omega arith) (omega arith))
      (λ h. scaled-none x digits (field - 1) j (high_value x f p h) (omega arith) (omega arith))
      (eq-zero-or-pos field)

  pub bits_right : 127 ≤ field + j → field + j ≤ 150 → digits / 2 ^ (150 - (field + j)) ≡ num x * 2 ^ j / den x
  bits_right l h = scaled_right x digits (field - 1) j (high_value x f p (omega arith)) (150 - (field + j)) (omega arith)

  -- with at most n digits before the point
  pub bits-room : (n : ℕ) → num x * 2 ^ j < 2 ^ n * den x → 150 ≤ field + j → field + j < n + 127
  bits-room n small h =
      let k = field + j - 150 in
      omega (arith, scaled-room x digits (field - 1) j (high_value x f p (omega arith)) n k (omega arith) (omega arith) small)
