-- The numbers that a text gives, and what their words say of them.
use mathlib.Core.Path.{◌≡◌, refl}
use mathlib.Core.Bool.{Bool, true, false}
use mathlib.Core.List.{List}
use mathlib.Core.Logic.{⊎_elim}
use Prim.Native.Nat.{ℕ, zero, suc, ◌-◌, ◌≤◌, ◌<◌}
use native.Mathlib.Omega.{arith}
use lib.Dec.{leb, eqb, lit<}
use lib.IntN.{ℤ, pos, negsuc, neg_ℤ}
use lib.Ieee.{Float, binary32, to_bits, of_bits}
use borrow.Author.Tests.{lt-ltb, le-ltb, le-leb, lt-leb, leb-true}
use Rattle.scan.specs.Scan.{pick, past, trim_start, trim_end}
use Rattle.scan.proofs.Laws.{picked, le_or_lt}
use Rattle.float.specs.Float.{zero as plus_zero, to_word}
use Rattle.numeral.specs.Numeral.{F32, too_long_lem, number, f32_of, f32_at, is_sign, is_minus, whole_number, I32, whole, i32_of, i32_at, word_of_f32, word_of_i32}
use Rattle.numeral.proofs.Reach.{number-in_reach}
use Rattle.lists.specs.Inner.{word_of}
use Rattle.tag.specs.Table.{bits}
use Rattle.plain.specs.Plain.{or_zero, int_of, not_below_zero, byte_of, is_far}
use Rattle.plain.specs.Inner.{not_below_zero_word, byte_word, far_word}

-- ---- f32: the bits of what a text gives stand for it

abbrev pub Back : Float → Type 0
Back x = of_bits binary32 (bits x) ≡ x

pub zero-back : Back plus_zero
unfolding of_bits to_bits
zero-back = refl

module _ (s : List ℕ) where
  back-of : (a b : ℕ) (x : F32) → f32_of s a b ≡ x → Back (or_zero x)
  back-of a b F32.none e = zero-back
  back-of a b (too_long_lem p) e = zero-back
  back-of a b (number x) e = (number-in_reach s a b x e).back

  pub f32-back : (p q : ℕ) → Back (or_zero (f32_at s p q))
  f32-back p q = back-of (trim_start s p q) (trim_end s (trim_start s p q) q) (f32_at s p q) refl

-- where there is none, both count as 0
pub word_float : (x : F32) → word_of (word_of_f32 x) ≡ bits (or_zero x)
unfolding to_bits
word_float F32.none = refl
word_float (too_long_lem p) = refl
word_float (number x) = refl

-- ---- i32: what a text gives is between -2147483648 and 2147483647

abbrev pub Small : ℤ → Type 0
Small (pos n) = n < 2147483648
Small (negsuc n) = n < 2147483648

abbrev SmallIn : I32 → Type 0
SmallIn x = Small (int_of x)

pub zero-small : Small (pos 0)
zero-small = lit< tt

below : (v : ℕ) (b : Bool) → leb v 2147483647 ≡ b → SmallIn (pick b (whole (pos v)) I32.none)
below v false e = zero-small
below v true e = omega (arith, leb-true v 2147483647 e)

above : (v : ℕ) (b : Bool) → leb v 2147483648 ≡ b → SmallIn (pick b (whole (neg_ℤ (pos v))) I32.none)
above v false e = zero-small
above zero true e = zero-small
above (suc v) true e = omega (arith, leb-true (suc v) 2147483648 e)

module _ (s : List ℕ) where
  small_of : (a b : ℕ) → SmallIn (i32_of s a b)
  unfolding i32_of
  small_of a b =
      let v = whole_number 10 s (past is_sign s a b) b in
      picked SmallIn (eqb (past is_minus s a b) a) (pick (leb v 2147483647) (whole (pos v)) I32.none) (pick (leb v 2147483648) (whole (neg_ℤ (pos v))) I32.none) (below v _ refl) (above v _ refl)

  pub i32_small : (p q : ℕ) → Small (int_of (i32_at s p q))
  i32_small p q = small_of (trim_start s p q) (trim_end s (trim_start s p q) q)

pub word_int : (x : I32) → word_of (word_of_i32 x) ≡ to_word (int_of x)
word_int I32.none = refl
word_int (whole z) = refl

-- its word tells whether it is below 0
pub high : (n : ℕ) → n < 2147483648 → 2147483648 ≤ 4294967296 - suc n
high n h = omega arith

pub clip-word : (z : ℤ) → Small z → not_below_zero_word (to_word z) ≡ not_below_zero z
clip-word (pos n) h = rw (lt-ltb n 2147483648 h)
clip-word (negsuc n) h = rw (le-ltb _ 2147483648 (high n h))

pub byte-word : (z : ℤ) → Small z → byte_word (to_word z) ≡ byte_of z
byte-word z h = rw (clip-word z h)

pub far-word : (z : ℤ) → Small z → far_word (to_word z) ≡ is_far z
far-word (pos n) h =
    ⊎_elim
    (λ (l : n ≤ 1000000000). rw (le-leb n 1000000000 l, le-ltb 1000000000 n l))
    (λ (l : 1000000000 < n). rw (lt-leb n 1000000000 l, lt-ltb 1000000000 n l, lt-ltb n 3294967296 (omega arith)))
    (le_or_lt n 1000000000)
far-word (negsuc n) h =
    let w = 4294967296 - suc n in
    let m : 1000000000 < w = omega arith in
    ⊎_elim
    (λ (l : 1000000000 ≤ n). rw (lt-leb w 1000000000 m, le-leb 1000000000 n l, lt-ltb w 3294967296 (omega arith)))
    (λ (l : n < 1000000000). rw (lt-leb w 1000000000 m, lt-leb 1000000000 n l, le-ltb w 3294967296 (omega arith)))
    (le_or_lt 1000000000 n)
