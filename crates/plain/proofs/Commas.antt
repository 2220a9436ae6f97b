-- A comma list as the code has it, its words, against the numbers that it holds.
use mathlib.Core.Path.{◌≡◌, refl, ap, ◌∙◌}
use mathlib.Core.Bool.{Bool, true, false}
use mathlib.Core.List.{List, [], ◌∷◌, map}
use Prim.Native.Nat.{ℕ, zero, suc, ◌+◌, ◌<◌}
use native.Mathlib.Omega.{arith}
use native.Mathlib.Nat.{add-zero, zero-add}
use lib.IntN.{ℤ, pos}
use lib.ListN.{length, get_or, set, replicate, length-set, get_or-replicate}
use lib.Seq.{get_or-set_same, get_or-set_other}
use lib.Ieee.{Float, to_bits}
use Rattle.scan.specs.Scan.{pick}
use Rattle.float.specs.Float.{zero as plus_zero, to_word}
use Rattle.numeral.specs.Numeral.{F32, number, too_long_lem, f32_at, I32, whole, i32_at, word_of_f32, word_of_i32}
use Rattle.numeral.specs.declared.Numeral.{Numeral}
use Rattle.lists.specs.declared.Numbers.{Numbers}
use Rattle.lists.specs.Lists.{Stretch, parts}
use Rattle.lists.specs.Inner.{items, word_of, is_word, all_words, filled}
use Rattle.tag.specs.Table.{bits}
use Rattle.plain.specs.Plain.{is_number, is_whole, f32s, all_floats, floats_in, nth, i32s, all_ints, ints_in, nth_int}
use Rattle.plain.specs.Inner.{nth_word, numbers_at}
use Rattle.plain.proofs.Numbers.{Back, f32-back, zero-back, word_float, Small, i32_small, zero-small, word_int}

-- ---- the array of the words

filled-below : (l : List Numeral) (a : List ℕ) (i n : ℕ) → n < i → get_or (filled a i l) n 0 ≡ get_or a n 0
unfolding filled
filled-below [] a i n h = refl
filled-below (x ∷ l) a i n h = filled-below l (set a i (word_of x)) (i + 1) n (omega arith) ∙ get_or-set_other a i n (word_of x) 0 (λ e. omega arith)

filled_at : (l : List Numeral) (a : List ℕ) (i k : ℕ) → i + k < length a → get_or (filled a i l) (i + k) 0 ≡ get_or (map word_of l) k (get_or a (i + k) 0)
unfolding filled
filled_at [] a i k h = refl
filled_at (x ∷ l) a i zero h =
    rw (add-zero i) (filled-below l (set a i (word_of x)) (i + 1) i (omega arith) ∙ get_or-set_same a i (word_of x) 0 (omega arith))
filled_at (x ∷ l) a i (suc k) h =
    let e : i + suc k ≡ i + 1 + k = omega arith in
    let g : i + 1 + k < length (set a i (word_of x)) = omega (arith, length-set a i (word_of x)) in
    rw e (filled_at l (set a i (word_of x)) (i + 1) k g ∙ rw (get_or-set_other a i (i + 1 + k) (word_of x) 0 (λ e. omega arith)))

-- the n-th word of seven
word_at : (l : List Numeral) (n : ℕ) → n < 7 → nth_word (filled (replicate 7 0) 0 l) n ≡ get_or (map word_of l) n 0
word_at l n h =
    let g : 0 + n < 7 = omega arith in
    rw (zero-add n, get_or-replicate {A = ℕ} 7 n 0 0 h) at (filled_at l (replicate 7 0) 0 n g)

module _ (s : List ℕ) where
  -- ---- a list of f32

  floats-all : (l : List Stretch) → all_words (items false s l) ≡ all_floats (f32s s l)
  unfolding items f32s all_words all_floats
  floats-all [] = refl
  floats-all (x ∷ l) = rw (floats-all l) (ap (λ (b : Bool). pick b (all_floats (f32s s l)) false) (go (f32_at s x.from x.to)))
    where
      go : (y : F32) → is_word (word_of_f32 y) ≡ is_number y
      go F32.none = refl
      go (too_long_lem p) = refl
      go (number z) = refl

  floats-count : (l : List Stretch) → length (items false s l) ≡ length (floats_in (f32s s l))
  unfolding items f32s floats_in
  floats-count [] = refl
  floats-count (x ∷ l) = ap suc (floats-count l)

  pub floats-length : (l : List Stretch) → length (items false s l) ≡ length (f32s s l)
  unfolding items f32s
  floats-length [] = refl
  floats-length (x ∷ l) = ap suc (floats-length l)

  float_at : (l : List Stretch) (n : ℕ) → get_or (map word_of (items false s l)) n 0 ≡ bits (nth (floats_in (f32s s l)) n)
  unfolding items f32s floats_in to_bits
  float_at [] n = refl
  float_at (x ∷ l) zero = word_float (f32_at s x.from x.to)
  float_at (x ∷ l) (suc n) = float_at l n

  float_word : (l : List Stretch) (n : ℕ) → n < 7 → nth_word (filled (replicate 7 0) 0 (items false s l)) n ≡ bits (nth (floats_in (f32s s l)) n)
  float_word l n h = word_at (items false s l) n h ∙ float_at l n

  floats-back : (l : List Stretch) (n : ℕ) → Back (nth (floats_in (f32s s l)) n)
  unfolding f32s floats_in
  floats-back [] n = zero-back
  floats-back (x ∷ l) zero = f32-back s x.from x.to
  floats-back (x ∷ l) (suc n) = floats-back l n

  -- ---- a list of i32

  ints-all : (l : List Stretch) → all_words (items true s l) ≡ all_ints (i32s s l)
  unfolding items i32s all_words all_ints
  ints-all [] = refl
  ints-all (x ∷ l) = rw (ints-all l) (ap (λ (b : Bool). pick b (all_ints (i32s s l)) false) (go (i32_at s x.from x.to)))
    where
      go : (y : I32) → is_word (word_of_i32 y) ≡ is_whole y
      go I32.none = refl
      go (whole z) = refl

  ints-count : (l : List Stretch) → length (items true s l) ≡ length (ints_in (i32s s l))
  unfolding items i32s ints_in
  ints-count [] = refl
  ints-count (x ∷ l) = ap suc (ints-count l)

  int_at : (l : List Stretch) (n : ℕ) → get_or (map word_of (items true s l)) n 0 ≡ to_word (nth_int (ints_in (i32s s l)) n)
  unfolding items i32s ints_in
  int_at [] n = refl
  int_at (x ∷ l) zero = word_int (i32_at s x.from x.to)
  int_at (x ∷ l) (suc n) = int_at l n

  int_word : (l : List Stretch) (n : ℕ) → n < 7 → nth_word (filled (replicate 7 0) 0 (items true s l)) n ≡ to_word (nth_int (ints_in (i32s s l)) n)
  int_word l n h = word_at (items true s l) n h ∙ int_at l n

  ints-small : (l : List Stretch) (n : ℕ) → Small (nth_int (ints_in (i32s s l)) n)
  unfolding i32s ints_in
  ints-small [] n = zero-small
  ints-small (x ∷ l) zero = i32_small s x.from x.to
  ints-small (x ∷ l) (suc n) = ints-small l n

-- ---- a list as a whole: whether all are numbers, how many, and the words of the first seven, each with what is known of it

pub record Read {A : Type 0} (word : A → ℕ) (Fine : A → Type 0) (zero : A) (n : Numbers) (b : Bool) (l : List A) : Type 0 where
  pub all : n.all ≡ b
  pub count : n.count ≡ length l
  pub words : (i : ℕ) → i < 7 → nth_word n.words i ≡ word (get_or l i zero)
  pub fine : (i : ℕ) → Fine (get_or l i zero)

abbrev pub Floats : Numbers → Bool → List Float → Type 0
Floats n b l = Read bits Back plus_zero n b l

abbrev pub Ints : Numbers → Bool → List ℤ → Type 0
Ints n b l = Read to_word Small (pos 0) n b l

module _ (s : List ℕ) (p q : ℕ) where
  pub floats_read : Floats (numbers_at false s p q) (all_floats (f32s s (parts s p q))) (floats_in (f32s s (parts s p q)))
  floats_read =
      let l = parts s p q in
      record { all = floats-all s l; count = floats-count s l; words = float_word s l; fine = floats-back s l }

  pub ints_read : Ints (numbers_at true s p q) (all_ints (i32s s (parts s p q))) (ints_in (i32s s (parts s p q)))
  ints_read =
      let l = parts s p q in
      record { all = ints-all s l; count = ints-count s l; words = int_word s l; fine = ints-small s l }
