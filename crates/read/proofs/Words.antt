-- 01, A table record: the range of a word. Each number that a text gives fits the word that it is written to, and every tag of the table is in range when its words are.
use mathlib.Core.Path.{◌≡◌, refl, sym}
use mathlib.Core.List.{List, [], ◌∷◌}
use mathlib.Core.Bool.{Bool, true, false, true≢false}
use mathlib.Core.Logic.{inl}
use Prim.Native.Nat.{ℕ, zero, suc, ◌+◌, ◌-◌, ◌≤◌, ◌<◌, min}
use native.Mathlib.Omega.{arith}
use native.Mathlib.Nat.{le_refl, le_trans}
use lib.Dec.{T, ltb, lit<}
use lib.IntN.{ℤ, pos, negsuc, nat_abs}
use lib.Signed.{non_neg}
use lib.Ieee.{Float, nan, inf, fin, of_bits, to_bits}
use lib.Ieee.Bits.{is_true}
use borrow.Author.Tests.{le-leb, lt-leb, lt-ltb, ne_eqb, leb-true, leb-false, ltb-true, ltb-false}
use Rattle.scan.specs.Scan.{pick, other, trim_start, trim_end}
use Rattle.scan.proofs.Laws.{picked, span-low}
use Rattle.refusal.specs.Refusal.{most_bytes}
use Rattle.float.specs.Float.{zero as plus_zero, in_reach_lem, max_zero, round_away, round_size, round_byte, to_word, of_word}
use Rattle.float.proofs.Reach.{cut-in_reach, round_in_reach, max_zero-in_reach, round_max_zero}
use Rattle.numeral.specs.Numeral.{F32, I32, whole, i32_at}
use Rattle.numeral.proofs.Reach.{Bounded}
use Rattle.survey.specs.Survey.{Unplain, is_stop}
use Rattle.survey.proofs.Laws.{unplain_wider}
use Rattle.survey.proofs.Long.{Ends, far_unplain}
use Rattle.lists.specs.Lists.{Stretch, comma_to, split, parts}
use Rattle.tag.specs.Tag as Tag
use Rattle.tag.specs.Tag.{AnimatedTag, none, inside}
use Rattle.tag.specs.Table.{head, bits, flag_word}
use Rattle.tag.specs.Range as Range
use Rattle.tag.specs.Range.{WordClass, range, word_fits, part_fits, rows, in_range}
use Rattle.plain.specs.Names.{Shape, float, pair, ranged, flag, alpha, colour, clip, beat, fad, fade, move, edge, baseline, weight, reset, unknown, names}
use Rattle.plain.specs.Plain.{part, or_zero, f32s, i32s, all_floats, floats_in, floats, all_ints, int_of, ints_in, ints, nth, nth_int, time_of, not_below_zero, is_far}
use Rattle.plain.specs.Inner.{kind_of}
use Rattle.float.proofs.Words.{of_word-to_word}
use Rattle.tag.specs.Decode.{flag_of, decoders, decode_one}
use Rattle.tag.proofs.Decoding.{Back}
use Rattle.plain.proofs.Numbers.{Small, zero-small}
use Rattle.plain.proofs.Commas.{ints_read}
use Rattle.plain.proofs.Every.{Every, gather}
use Rattle.scan.proofs.Bounds.{tested, span_to-high, trim_start-low, trim_end-high}
use Rattle.tag.specs.WellFormed.{All, all, more}
use Rattle.tag.proofs.Formed.{all_map}
use Rattle.survey.proofs.Fields.{span-ends, not_stops}
use Rattle.read.proofs.Inside.{F32In, no_numeral, too_long, a-number, f32_wider, f32_in}

-- ---- words

abbrev pub Fits : WordClass → ℕ → Type 0
Fits c w = word_fits c w ≡ true

pub float_fits : {x : Float} → Bounded x → Fits Range.float (bits x)
float_fits {x} b = rw b.back (is_true (in_reach_lem x) b.reach)

range-fits : (a b n : ℕ) → a ≤ n → n ≤ b → Fits (range a b) n
range-fits a b n l h = rw (le-leb a n l, le-leb n b h)

pub byte_fits : (n : ℕ) → n ≤ 255 → Fits (range 0 255) n
byte_fits n h = range-fits 0 255 n (omega arith) h

-- a signed number within ±1,000,000,000
time-fits : (z : ℤ) → nat_abs z ≤ 1000000000 → Fits Range.time (to_word z)
time-fits (pos n) h = rw (le-leb n 1000000000 h)
time-fits (negsuc n) h = rw (lt-leb (4294967296 - suc n) 1000000000 (omega arith), le-leb 3294967296 (4294967296 - suc n) (omega arith), le-leb (4294967296 - suc n) 4294967295 (omega arith))

pub near_fits : (z : ℤ) → is_far z ≡ false → Fits Range.time (to_word z)
near_fits (pos n) h = time-fits (pos n) (ltb-false 1000000000 n h)
near_fits (negsuc n) h = time-fits (negsuc n) (leb-false 1000000000 n h)

pub cut_fits : {x : Float} → Bounded x → Fits Range.time (to_word (time_of x))
cut_fits {x} b = time-fits (time_of x) (cut-in_reach x b.reach)

pub round_fits : {x : Float} → Bounded x → Fits Range.time (to_word (round_away x))
round_fits {x} b = time-fits (round_away x) (round_in_reach x b.reach)

pub beat-fits : {x : Float} → Bounded x → Fits (range 0 1000000000) (to_word (round_away (max_zero x)))
beat-fits {x} b = go (round_away (max_zero x)) (round_in_reach (max_zero x) (max_zero-in_reach x b.reach)) (round_max_zero x)
  where
    go : (z : ℤ) → nat_abs z ≤ 1000000000 → T (non_neg z) → Fits (range 0 1000000000) (to_word z)
    go (pos n) h t = range-fits 0 1000000000 n (omega arith) h
    go (negsuc n) h t = absurd t

pub edge-fits : (x : Float) → Fits (range 0 255) (round_byte x)
unfolding round_byte
edge-fits nan = refl
edge-fits (inf true) = refl
edge-fits (inf false) = refl
edge-fits (fin true m e) = refl
edge-fits (fin false m e) = byte_fits (min (round_size (fin false m e)) 255) (omega arith)

pub fad-fits : (z : ℤ) → Small z → Fits (range 0 2147483647) (not_below_zero z)
fad-fits (pos n) h = range-fits 0 2147483647 n (omega arith) (omega arith)
fad-fits (negsuc n) h = refl

-- a part that ends inside the text
pub part-fits : (p q : ℕ) → q ≤ most_bytes → part_fits (part p q).offset (part p q).size ≡ true
unfolding part
part-fits p q h =
    tested (λ (x : Tag.Part). part_fits x.offset x.size ≡ true) p q
    (λ (l : p < q). rw (ne_eqb (q - p) 0 (λ z. omega arith), le-leb (p + (q - p)) most_bytes (omega arith)))
    (λ (l : q ≤ p). refl)

pub part_full : (p q : ℕ) → p < q → ltb 0 (part p q).size ≡ true
unfolding part
part_full p q l = rw (lt-ltb p q l) (lt-ltb 0 (q - p) (omega arith))

-- ---- numbers that are read

zero_bounded : Bounded plus_zero
unfolding in_reach_lem to_bits of_bits
zero_bounded = record { reach = tt; word = lit< tt; back = refl }

bounded_of : {s : List ℕ} {top p q : ℕ} {x : F32} → F32In s top p q x → Bounded (or_zero x)
bounded_of no_numeral = zero_bounded
bounded_of (too_long k a b u) = zero_bounded
bounded_of (a-number b) = b

comma_stops : is_stop 44 ≡ true
unfolding is_stop
comma_stops = refl

module _ (s : List ℕ) where
  all_bounded : (l : List Stretch) (n : ℕ) → Bounded (nth (floats_in (f32s s l)) n)
  unfolding f32s floats_in
  all_bounded [] n = zero_bounded
  all_bounded (x ∷ l) zero = bounded_of (f32_in s x.to x.from x.to (le_refl x.to) (inl refl))
  all_bounded (x ∷ l) (suc n) = all_bounded l n

  parts_in : (top q n p : ℕ) → p ≤ q → q ≤ top → Ends s top q → All (F32In s top p q) (f32s s (split s q n p))
  unfolding f32s split
  parts_in top q zero p h g f = more (f32_in s top p q g f) all
  parts_in top q (suc n) p h g f =
      let c = comma_to s p q in
      let low : p ≤ comma_to s p q = span-low (other 44) s (q - p) p in
      let high : comma_to s p q ≤ q = span_to-high (other 44) s p q h in
      let ends = span-ends (other 44) s top p q (not_stops 44 comma_stops) h f in
      tested (λ (l : List Stretch). All (F32In s top p q) (f32s s l)) c q
      (λ (k : c < q). more (f32_wider (le_refl p) high (f32_in s top p c (le_trans high g) ends)) (all_map (λ (x : F32) (y : F32In s top (c + 1) q x). f32_wider (omega arith) (le_refl q) y) (parts_in top q n (c + 1) (omega arith) g f)))
      (λ (k : q ≤ c). more (f32_wider (le_refl p) high (f32_in s top p c (le_trans high g) ends)) all)

  pub f32s_in : (top p q : ℕ) → p ≤ q → q ≤ top → Ends s top q → All (F32In s top p q) (f32s s (parts s p q))
  f32s_in top p q h g f = parts_in top q (q - p) p h g f

  pub floats_bounded : (p q n : ℕ) → Bounded (nth (floats (f32s s (parts s p q))) n)
  floats_bounded p q n = picked (λ (l : List Float). Bounded (nth l n)) (all_floats (f32s s (parts s p q))) _ _ (all_bounded (parts s p q) n) zero_bounded

  pub ints-small : (p q n : ℕ) → Small (nth_int (ints (i32s s (parts s p q))) n)
  ints-small p q n = picked (λ (l : List ℤ). Small (nth_int l n)) (all_ints (i32s s (parts s p q))) _ _ ((ints_read s p q).fine n) zero-small

  -- a number that is far stands in a text that is not plain
  abbrev pub Near : ℕ → ℕ → ℤ → Type 0
  Near p q z = is_far z ≡ true → (top : ℕ) → Unplain s top p q

  far-size : (z : ℤ) → is_far z ≡ true → 1000000000 < nat_abs z
  far-size (pos n) e = ltb-true 1000000000 n e
  far-size (negsuc n) e = omega (arith, leb-true 1000000000 n e)

  near-zero : (p q : ℕ) → Near p q (pos 0)
  near-zero p q e = absurd (true≢false (sym e))

  int_near : (p q : ℕ) → Near p q (int_of (i32_at s p q))
  int_near p q = go (i32_at s p q) refl
    where
      a : ℕ
      a = trim_start s p q

      go : (x : I32) → i32_at s p q ≡ x → Near p q (int_of x)
      go I32.none e = near-zero p q
      go (whole z) e = λ f top. unplain_wider (trim_start-low s p q) (trim_end-high s a q) (far_unplain s top a (trim_end s a q) z e (far-size z f))

  all_near : (q n p k : ℕ) → p ≤ q → Near p q (nth_int (ints_in (i32s s (split s q n p))) k)
  unfolding i32s ints_in split
  all_near q zero p zero h = int_near p q
  all_near q zero p (suc k) h = near-zero p q
  all_near q (suc n) p k h =
      let c = comma_to s p q in
      let low : p ≤ comma_to s p q = span-low (other 44) s (q - p) p in
      let high : comma_to s p q ≤ q = span_to-high (other 44) s p q h in
      tested (λ (l : List Stretch). Near p q (nth_int (ints_in (i32s s l)) k)) c q
      (λ (g : c < q). first c k low high (ints_in (i32s s (split s q n (c + 1)))) (λ j. wider (nth_int (ints_in (i32s s (split s q n (c + 1)))) j) (all_near q n (c + 1) j (omega arith))))
      (λ (g : q ≤ c). first c k low high [] (λ j. near-zero p q))
    where
      wider : (z : ℤ) → Near (comma_to s p q + 1) q z → Near p q z
      wider z f e top = unplain_wider (omega (arith, span-low (other 44) s (q - p) p)) (le_refl q) (f e top)

      first : (c k : ℕ) → p ≤ c → c ≤ q → (l : List ℤ) → ((j : ℕ) → Near p q (nth_int l j)) → Near p q (nth_int (int_of (i32_at s p c) ∷ l) k)
      first c zero a b l f = λ e top. unplain_wider (le_refl p) b (int_near p c e top)
      first c (suc k) a b l f = f k

  pub ints_near : (p q n : ℕ) → p ≤ q → Near p q (nth_int (ints (i32s s (parts s p q))) n)
  ints_near p q n h = picked (λ (l : List ℤ). Near p q (nth_int l n)) (all_ints (i32s s (parts s p q))) _ _ (all_near q (q - p) p n h) (near-zero p q)

-- ---- words read back

pub flag-back : (b : Bool) → flag_of (flag_word b) ≡ b
flag-back true = refl
flag-back false = refl

word_back : (z : ℤ) → nat_abs z ≤ 1000000000 → of_word (to_word z) ≡ z
word_back (pos n) h = of_word-to_word (pos n) (record { sfits = omega arith })
word_back (negsuc n) h = of_word-to_word (negsuc n) (record { sfits = omega arith })

pub near_back : (z : ℤ) → is_far z ≡ false → of_word (to_word z) ≡ z
near_back (pos n) h = word_back (pos n) (ltb-false 1000000000 n h)
near_back (negsuc n) h = word_back (negsuc n) (leb-false 1000000000 n h)

pub cut-back : {x : Float} → Bounded x → of_word (to_word (time_of x)) ≡ time_of x
cut-back {x} b = word_back (time_of x) (cut-in_reach x b.reach)

pub round_back : {x : Float} → Bounded x → of_word (to_word (round_away x)) ≡ round_away x
round_back {x} b = word_back (round_away x) (round_in_reach x b.reach)

-- ---- a tag

-- whether a tag is none that holds others, and its record is in range
abbrev pub sound : AnimatedTag → Bool
sound x = pick (ltb (kind_of x) 49) (in_range (head x)) false

-- that, and that its record is read back as it
abbrev pub Sound : AnimatedTag → Type 0
Sound x = (sound x ≡ true) × (decode_one (head x) ≡ x) × (inside x ≡ none)

pub sound_tag : (x : AnimatedTag) → Sound x → Back x
sound_tag x h = go (ltb (kind_of x) 49) refl h.0
  where
    go : (b : Bool) → ltb (kind_of x) 49 ≡ b → pick b (in_range (head x)) false ≡ true → Back x
    go true e g = record { single = h.2; kind = λ k. omega (arith, ltb-true (kind_of x) 49 e); range = g; back = h.1 }
    go false e g = absurd (true≢false (sym g))

-- every tag of the table is in range when its words are, and read back
abbrev pub Ranged : Shape → Type 0
Ranged (float f) = (x : Float) → Bounded x → Sound (f x)
Ranged (pair f) = (x y : Float) → Bounded x → Bounded y → Sound (f x y)
Ranged (ranged a b f) = (n : ℕ) → Fits (range a b) n → Sound (f n)
Ranged (flag f) = (b : Bool) → Fits (range 0 1) (flag_word b) → Sound (f b)
Ranged (alpha f) = (n : ℕ) → Fits (range 0 255) n → Sound (f n)
Ranged (colour f) = (c : Tag.Rgb) → Fits (range 0 255) c.red → Fits (range 0 255) c.green → Fits (range 0 255) c.blue → Sound (f c)
Ranged (clip f g) =
    ((x y z w : Float) → Bounded x → Bounded y → Bounded z → Bounded w → Sound (f x y z w))
    × ((x : Tag.Part) → part_fits x.offset x.size ≡ true → Sound (g x))
Ranged (beat k) = Unit
Ranged fad = Unit
Ranged fade = Unit
Ranged move = Unit
Ranged edge = Unit
Ranged baseline = Unit
Ranged weight = Unit
Ranged reset = Unit
Ranged unknown = Unit

pub every : Every Ranged names
unfolding names in_range rows decode_one decoders
every =
    gather Ranged names (Every Ranged names) (λ e. e)
    tt tt tt (λ x b. (rw (float_fits b), rw b.back, refl)) (λ x b. (rw (float_fits b), rw b.back, refl)) (λ x b. (rw (float_fits b), rw b.back, refl)) (λ x b. (rw (float_fits b), rw b.back, refl)) (λ x y b c. (rw (float_fits b, float_fits c), rw (b.back, c.back), refl)) (λ x y b c. (rw (float_fits b, float_fits c), rw (b.back, c.back), refl)) (λ x b. (rw (float_fits b), rw b.back, refl)) tt
    (λ x b. (rw (float_fits b), rw b.back, refl)) (λ x b. (rw (float_fits b), rw b.back, refl)) (λ x b. (rw (float_fits b), rw b.back, refl)) (λ x b. (rw (float_fits b), rw b.back, refl)) (λ x b. (rw (float_fits b), rw b.back, refl)) (λ x b. (rw (float_fits b), rw b.back, refl)) tt (λ n h. (rw h, refl, refl))
    (λ x b. (rw (float_fits b), rw b.back, refl)) (λ x b. (rw (float_fits b), rw b.back, refl)) (λ x b. (rw (float_fits b), rw b.back, refl)) (λ x b. (rw (float_fits b), rw b.back, refl)) (λ x b. (rw (float_fits b), rw b.back, refl)) (λ x b. (rw (float_fits b), rw b.back, refl)) (λ n h. (rw h, refl, refl))
    (λ n h. (rw h, refl, refl)) (λ n h. (rw h, refl, refl)) tt tt tt tt (λ c h k l. (rw (h, k, l), refl, refl)) (λ c h k l. (rw (h, k, l), refl, refl)) (λ c h k l. (rw (h, k, l), refl, refl)) (λ c h k l. (rw (h, k, l), refl, refl))
    (λ c h k l. (rw (h, k, l), refl, refl)) (λ n h. (rw h, refl, refl)) (λ n h. (rw h, refl, refl)) (λ n h. (rw h, refl, refl)) (λ n h. (rw h, refl, refl)) (λ n h. (rw h, refl, refl)) (λ x y z w a b c d. (rw (float_fits a, float_fits b, float_fits c, float_fits d), rw (a.back, b.back, c.back, d.back), refl), λ p h. (rw h, refl, refl))
    (λ x y z w a b c d. (rw (float_fits a, float_fits b, float_fits c, float_fits d), rw (a.back, b.back, c.back, d.back), refl), λ p h. (rw h, refl, refl)) (λ n h. (rw h, refl, refl)) tt (λ b h. (rw h, rw (flag-back b), refl)) (λ b h. (rw h, rw (flag-back b), refl)) (λ b h. (rw h, rw (flag-back b), refl)) tt
