-- 02, N4: a numeral with its point shifted. How large it is, and that written out it is its digits times a power of ten.
use mathlib.Core.Path.{◌≡◌, refl, sym, ap, ◌∙◌}
use mathlib.Core.List.{List}
use Prim.Native.Nat.{ℕ, zero, suc, ◌+◌, ◌-◌, ◌*◌, ◌^◌, ◌≤◌, ◌<◌, min}
use native.Mathlib.Nat.{le_trans, le_of_eq, lt_of_lt_of_le, lt_of_le_of_lt, mul-one, mul_assoc, mul-pos, mul-lt-mul_of_pos_right, mul-le-mul_right, mul-le-mul_left, min-eq_right, le_of_lt, one-le-pow, pow-le-pow_right}
use native.Mathlib.Omega.{arith}
use lib.Pow.{pow-add}
use lib.Dec.{ltb, lit<}
use lib.ListN.{get_or}
use lib.IntN.{ℤ, pos, negsuc}
use lib.Ieee.{binary32, to_bits}
use lib.Ieee.Scale.{round_same}
use borrow.Author.Tests.{le-leb}
use Rattle.scan.specs.Scan.{past}
use Rattle.numeral.specs.declared.Decimal.{Decimal}
use Rattle.numeral.specs.declared.Numeral.TheVariants.{Word}
use Rattle.numeral.specs.Numeral.{is_sign, is_minus, is_e, most, value, split_at, digit_count, digits_of, before, behind, zeros, written_out, times_power, nearest, float_of, power_float_of, limited, signed, exponent_of, with_exponent, F32, word_of_f32}
use Rattle.numeral.specs.Inner.{Counted}
use Rattle.numeral.proofs.Laws.{value_grows, digit-most, digits-below}

-- written out it has no fewer digits than the text
room : (w f : ℕ) (x : ℤ) → w + f + zeros f x ≤ before w x + behind f x
room w f (pos n) = omega arith
room w f (negsuc n) = omega arith

pub zeros-few : (w f : ℕ) (x : ℤ) → zeros f x ≤ before w x
zeros-few w f (pos n) = omega arith
zeros-few w f (negsuc n) = omega arith

-- v is what w + f digits write
module _ (v w f : ℕ) (x : ℤ) (h : v < 10 ^ (w + f)) (m : before w x ≤ 9) where
  pub shift_below : v * 10 ^ zeros f x < 10 ^ 9 * 10 ^ behind f x
  shift_below =
      lt_of_lt_of_le (mul-lt-mul_of_pos_right h (one-le-pow (zeros f x) 10 (lit< tt)))
      (le_trans (le_of_eq (sym (pow-add 10 (w + f) (zeros f x))))
      (le_trans (pow-le-pow_right (lit< tt) (room w f x)) (le_trans (le_of_eq (pow-add 10 (before w x) (behind f x))) (mul-le-mul_right (10 ^ behind f x) (pow-le-pow_right (lit< tt) m)))))

  pub shift_small : behind f x ≤ 9 → v * 10 ^ zeros f x < most
  shift_small k = lt_of_lt_of_le shift_below (mul-le-mul_left (10 ^ 9) (pow-le-pow_right (lit< tt) k))

-- where nothing is shifted
pub no-zeros : (v f : ℕ) → v * 10 ^ zeros f (pos 0) ≡ v
no-zeros v f = let z : 0 - f ≡ 0 = omega arith in ap (λ (k : ℕ). v * 10 ^ k) z ∙ mul-one v

pub unshifted : (s : List ℕ) (a b : ℕ) (d : Decimal) → nearest s a b (digits_of s d, 10 ^ (d.end - d.fraction)) ≡ float_of s a b d (pos 0)
unfolding float_of
unshifted s a b d =
    let z : d.end - d.fraction - 0 ≡ d.end - d.fraction = omega arith in
    rw (no-zeros (digits_of s d) (d.end - d.fraction), z)

-- ---- both definitions say the same number

same_number : (v f : ℕ) (x : ℤ) → (written_out v f x).0 * (times_power v f x).1 ≡ (times_power v f x).0 * (written_out v f x).1
same_number v f (pos n) =
    let e : n - f + f ≡ n + (f - n) = omega arith in
    mul_assoc v (10 ^ (n - f)) (10 ^ f)
    ∙ ap (λ (k : ℕ). v * k) (sym (pow-add 10 (n - f) f) ∙ ap (λ (k : ℕ). 10 ^ k) e ∙ pow-add 10 n (f - n))
    ∙ sym (mul_assoc v (10 ^ n) (10 ^ (f - n)))
same_number v f (negsuc n) = ap (λ (k : ℕ). k * (10 ^ f * 10 ^ suc n)) (mul-one v) ∙ ap (λ (k : ℕ). v * k) (sym (pow-add 10 f (suc n)))

power_positive : (v f : ℕ) (x : ℤ) → 0 < (times_power v f x).1
power_positive v f (pos n) = one-le-pow f 10 (lit< tt)
power_positive v f (negsuc n) = mul-pos (one-le-pow f 10 (lit< tt)) (one-le-pow (suc n) 10 (lit< tt))

pub same_float : (s : List ℕ) (a b : ℕ) (d : Decimal) (x : ℤ) → float_of s a b d x ≡ power_float_of s a b d x
unfolding float_of
same_float s a b d x =
    let v = digits_of s d in
    let f = d.end - d.fraction in
    round_same binary32 (ltb a (past is_minus s a b)) (v * 10 ^ zeros f x) (10 ^ behind f x) (times_power v f x).0 (times_power v f x).1
    (one-le-pow (behind f x) 10 (lit< tt)) (power_positive v f x) (same_number v f x)

pub power_says : (s : List ℕ) (a b : ℕ) (d : Decimal) → with_exponent s a b d (float_of s a b d) ≡ with_exponent s a b d (power_float_of s a b d)
power_says s a b d = rw (same_float s a b d (exponent_of s d.end b))

-- ---- values below 10 ^ 18 are not capped

under : (x : ℕ) → x < most → min most x ≡ x
under x h = min-eq_right (le_of_lt h)

module _ (s : List ℕ) (d : Decimal) (h : digits_of s d < most) where
  whole-most : value 10 s (d.whole - d.from) d.from 0 < most
  whole-most = lt_of_le_of_lt (value_grows 10 s (lit< tt) (d.end - d.fraction) d.fraction (value 10 s (d.whole - d.from) d.from 0)) h

  pub valued : (w v : ℕ) → w ≡ min most (value 10 s (d.whole - d.from) d.from 0) → v ≡ min most (value 10 s (d.end - d.fraction) d.fraction w) → v ≡ digits_of s d
  valued w v p q = q ∙ ap (λ (x : ℕ). min most (value 10 s (d.end - d.fraction) d.fraction x)) (p ∙ under _ whole-most) ∙ under _ h

-- one or two digits
value_two : (s : List ℕ) (n i : ℕ) → n ≤ 2 → value 10 s n i 0 < 200
unfolding value
value_two s zero i h = lit< tt
value_two s (suc zero) i h = let a = digit-most (get_or s i 0) in omega arith
value_two s (suc (suc zero)) i h = let a = digit-most (get_or s i 0) in let b = digit-most (get_or s (i + 1) 0) in omega arith
value_two s (suc (suc (suc n))) i h = absurd (omega arith)

-- ---- `numeral::shifted`: an exponent at i, by the places behind its e and its sign

module _ (s : List ℕ) (a b i w f digits : ℕ) (c : Counted s a b i w f digits) where
  abbrev d : Decimal
  d = split_at s a b

  pub counted-some : 0 < digit_count d
  counted-some = rw (← c.whole, ← c.fraction) c.some

  pub counted_zeros_is : (x : ℤ) → zeros f x ≡ zeros (d.end - d.fraction) x
  counted_zeros_is x = ap (λ (n : ℕ). zeros n x) c.fraction

  -- the digits below 10 ^ 18, and few zeros
  module _ (x : ℤ) (k : before w x ≤ 9) where
    pub counted_zeros : zeros f x ≤ 9
    counted_zeros = le_trans (zeros-few w f x) k

    pub counted-small : behind f x ≤ 9 → digits_of s d * 10 ^ zeros f x < most
    counted-small l = shift_small (digits_of s d) w f x (rw (c.whole, c.fraction) (digits-below s a b d refl)) k l

    pub counted-digits : behind f x ≤ 9 → digits_of s d < most
    counted-digits l = lt_of_le_of_lt (le_trans (le_of_eq (sym (mul-one (digits_of s d)))) (mul-le-mul_left (digits_of s d) (one-le-pow (zeros f x) 10 (lit< tt)))) (counted-small l)

  module _ (x g : ℕ) (ex : x ≡ past is_e s i b) (eg : g ≡ past is_sign s x b) where
    -- if its digits are few, behind its minus, and their capped value
    module _ (m n : ℕ) (em : m ≡ past is_minus s x b) (en : n ≡ min most (value 10 s (b - g) g 0)) (h : b - g ≤ 2) where
      exact : n ≡ value 10 s (b - g) g 0
      exact = let v = value_two s (b - g) g h in en ∙ under _ (omega arith)

      pub exponent-is : signed (ltb x m) n ≡ exponent_of s d.end b
      exponent-is = rw (← c.end, ← ex, ← eg, ← em, exact)

      pub exponent-few : limited a d (signed (ltb x m) n) (float_of s a b d (signed (ltb x m) n)) ≡ with_exponent s a b d (float_of s a b d)
      exponent-few = rw (exponent-is, ← c.end, ← ex, ← eg, le-leb _ _ h)

-- with z zeros put in and e digits behind the point
pub shifted_is : (s : List ℕ) (a b : ℕ) (d : Decimal) (x : ℤ) (v z e r : ℕ) → v ≡ digits_of s d → z ≡ zeros (d.end - d.fraction) x → e ≡ behind (d.end - d.fraction) x → r ≡ to_bits binary32 (nearest s a b (v * 10 ^ z, 10 ^ e)) → Word r ≡ word_of_f32 (F32.number (float_of s a b d x))
unfolding float_of
shifted_is s a b d x v z e r k p q h = rw (← k, ← p, ← q) (ap Word h)
