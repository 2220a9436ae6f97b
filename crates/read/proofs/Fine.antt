-- What a plain tag gives: its record is in range for its kind, by the shape of its parameter, and a numeral that is too long stands there.
use mathlib.Core.Path.{◌≡◌, refl, sym}
use mathlib.Core.List.{List}
use mathlib.Core.Bool.{Bool, true, false, true≢false}
use Prim.Native.Nat.{ℕ, suc, ◌+◌, ◌-◌, ◌/◌, ◌%◌, ◌≤◌, ◌<◌, min}
use native.Mathlib.Omega.{arith}
use native.Mathlib.Nat.{mod-lt}
use lib.Dec.{leb, ltb, eqb, lit<}
use lib.IntN.{ℤ, pos, negsuc}
use lib.Ieee.{Float}
use lib.ListN.{length, get_or}
use borrow.Author.Tests.{lt-ltb, ne_eqb, leb-true, ltb-true}
use Rattle.scan.specs.Scan.{pick, back_to, trim_start, trim_end}
use Rattle.scan.proofs.Laws.{picked}
use Rattle.refusal.specs.Refusal.{most_bytes}
use Rattle.float.specs.Float.{round_away, round_byte}
use Rattle.numeral.specs.Numeral.{F32, I32, whole, i32_at, hex_at}
use Rattle.std.specs.Prelude.{Option, Some, None}
use Rattle.numeral.proofs.Reach.{Bounded}
use Rattle.survey.specs.Survey.{Unplain}
use Rattle.survey.proofs.Long.{Ends}
use Rattle.colour.specs.Colour.{is_ampersand, trimmed, ampersands, digits, alpha_at, colour_at, cap, rgb}
use Rattle.tag.specs.Tag as Tag
use Rattle.tag.specs.Tag.{AnimatedTag, Fad, Fade, Be, Pbo, B, Fn, R, named}
use Rattle.tag.specs.declared.KaraokeKind.{KaraokeKind}
use Rattle.tag.specs.declared.KaraokeKind.TheVariants.{Fill, Sweep, Outline}
use Rattle.tag.specs.Decode.{decoders, decode_one}
use Rattle.tag.specs.Range.{range, rows, in_range}
use Rattle.plain.specs.Names.{Shape, float, pair, ranged, flag, alpha, colour, clip, beat, fad, fade, move, edge, baseline, weight, reset, unknown, names, lookup, key_at}
use Rattle.plain.specs.Plain.{One, no, long, kept, far, part, map_f32, map_alpha, map_colour, all_floats, floats, nth, nth_int, unless_long, pair_of, move_of, not_below_zero, byte_of, fad_of, is_far, fade_of, ranged_of, weight_of, flag_of, clip_of, reset_of, beat_of, shaped, is_fn, is_named_reset, plain_at}
use Rattle.plain.specs.Inner.{kind_of}
use Rattle.plain.proofs.Numbers.{Small}
use Rattle.plain.proofs.Every.{find}
use Rattle.scan.proofs.Bounds.{tested, trim_end-high}
use Rattle.tag.specs.WellFormed.{All, all, more}
use Rattle.read.proofs.Inside.{F32In, no_numeral, too_long, a-number, f32_in}
use Rattle.read.proofs.Words.{Fits, float_fits, byte_fits, near_fits, cut_fits, round_fits, beat-fits, edge-fits, fad-fits, near_back, cut-back, round_back, part-fits, part_full, f32s_in, floats_bounded, ints-small, Near, ints_near, Sound, Ranged, every}

-- what a plain tag gives, its parameter from p to q: a numeral that is too long stands there, what is kept is in range, and where either is not so the text is not plain
pub data Fine (s : List ℕ) (top p q : ℕ) : One → Type 0 where
  nothing : Fine s top p q no
  late : (k : ℕ) → p ≤ k → k < q → Unplain s top p q → Fine s top p q (long k)
  tag : {x : AnimatedTag} → Sound x → Fine s top p q (kept x)
  away : {x : AnimatedTag} → kind_of x < 49 → Unplain s top p q → Fine s top p q (far x)

-- a name that goes on behind n letters
goes_on : (n i m : ℕ) (b : Bool) → pick (leb (suc n) (m - i)) b false ≡ true → i + n < m
goes_on n i m b h = go (leb (suc n) (m - i)) refl h
  where
    go : (t : Bool) → leb (suc n) (m - i) ≡ t → pick t b false ≡ true → i + n < m
    go true e g = omega (arith, leb-true (suc n) (m - i) e)
    go false e g = absurd (true≢false (sym g))

-- the parameter is in a text that ends at top, and is a field there
module _ (s : List ℕ) (top p q : ℕ) (order : p ≤ q) (short : q ≤ most_bytes) (high : q ≤ top) (ends : Ends s top q) where
  abbrev Good : One → Type 0
  Good o = Fine s top p q o

  -- ---- one number

  fine-f32 : (f : Float → AnimatedTag) → ((x : Float) → Bounded x → Sound (f x)) → {y : F32} → F32In s top p q y → Good (map_f32 f y)
  fine-f32 f h no_numeral = nothing
  fine-f32 f h (too_long k a b u) = late k a b u
  fine-f32 f h (a-number b) = tag (h _ b)

  fine-beat : (k : KaraokeKind) (x : Float) → Bounded x → Sound (beat_of k x)
  unfolding in_range rows decode_one decoders
  fine-beat Fill x b = (rw (beat-fits b), refl, refl)
  fine-beat Sweep x b = (rw (beat-fits b), refl, refl)
  fine-beat Outline x b = (rw (beat-fits b), refl, refl)

  fine-edge : (x : Float) → Bounded x → Sound (Be (round_byte x))
  unfolding in_range rows decode_one decoders
  fine-edge x b = (rw (edge-fits x), refl, refl)

  fine-baseline : (x : Float) → Bounded x → Sound (Pbo (round_away x))
  unfolding in_range rows decode_one decoders
  fine-baseline x b = (rw (round_fits b), rw (round_back b), refl)

  fine-ranged : (a b : ℕ) (f : ℕ → AnimatedTag) → Ranged (ranged a b f) → (y : I32) → Good (ranged_of a b f y)
  unfolding ranged_of
  fine-ranged a b f h I32.none = nothing
  fine-ranged a b f h (whole (negsuc n)) = nothing
  fine-ranged a b f h (whole (pos n)) = go (leb a n) (leb n b) (h n)
    where
      go : (t u : Bool) → (pick t u false ≡ true → Sound (f n)) → Good (pick t (pick u (kept (f n)) no) no)
      go true true h = tag (h refl)
      go true false h = nothing
      go false u h = nothing

  fine-weight : (y : I32) → Good (weight_of y)
  unfolding weight_of in_range rows decode_one decoders
  fine-weight I32.none = nothing
  fine-weight (whole (negsuc n)) = nothing
  fine-weight (whole (pos n)) = picked Good (eqb n 0) _ _ (tag (refl, refl, refl)) (picked Good (eqb n 1) _ _ (tag (refl, refl, refl)) (go (leb 100 n) (leb n 900) refl refl))
    where
      go : (t u : Bool) → leb 100 n ≡ t → leb n 900 ≡ u → Good (pick t (pick u (kept (B n)) no) no)
      go true true d e = tag {x = B n} (rw (d, e, ne_eqb n 0 (λ z. omega (arith, leb-true 100 n d))), refl, refl)
      go true false d e = nothing
      go false u d e = nothing

  fine-flag : (f : Bool → AnimatedTag) → Ranged (flag f) → Good (flag_of f s p q)
  unfolding flag_of
  fine-flag f h =
      let a = trim_start s p q in
      picked Good (eqb (trim_end s a q - a) 1) _ _
      (picked Good (eqb (get_or s a 0) 48) _ _ (tag (h false refl)) (picked Good (eqb (get_or s a 0) 49) _ _ (tag (h true refl)) nothing))
      nothing

  fine-alpha : (f : ℕ → AnimatedTag) → Ranged (alpha f) → Good (map_alpha f (alpha_at s p q))
  unfolding alpha_at
  fine-alpha f h =
      let d = digits s p q in
      let u = ampersands s d.from d.to in
      let t = trimmed s u.from u.to in
      go (hex_at s t.from t.to)
    where
      go : (y : Option ℕ) → Good (map_alpha f (cap y))
      go None = nothing
      go (Some n) = tag (h (min n 255) (byte_fits (min n 255) (omega arith)))

  fine-colour : (f : Tag.Rgb → AnimatedTag) → Ranged (colour f) → Good (map_colour f (colour_at s p q))
  unfolding colour_at
  fine-colour f h =
      let d = digits s p q in
      let t = trimmed s d.from (back_to is_ampersand s d.from d.to) in
      go (hex_at s t.from t.to)
    where
      least : (n : ℕ) → Fits (range 0 255) (n % 256)
      least n = byte_fits (n % 256) (omega (arith, mod-lt n {m = 256} (lit< tt)))

      go : (y : Option ℕ) → Good (map_colour f (rgb y))
      go None = nothing
      go (Some n) = tag (h _ (least n) (least (n / 256)) (least (n / 65536)))

  -- ---- a comma list

  fine-long : {o : One} → Good o → {l : List F32} → All (F32In s top p q) l → Good (unless_long l o)
  unfolding unless_long
  fine-long g all = g
  fine-long g (more no_numeral l) = fine-long g l
  fine-long g (more (too_long k a b u) l) = late k a b u
  fine-long g (more (a-number b) l) = fine-long g l

  fine-pair : (f : Float → Float → AnimatedTag) → Ranged (pair f) → (l : List Float) → ((n : ℕ) → Bounded (nth l n)) → Good (pair_of f l)
  unfolding pair_of
  fine-pair f h l b = picked Good (eqb (length l) 2) _ _ (tag (h _ _ (b 0) (b 1))) nothing

  fine-move : (l : List Float) → ((n : ℕ) → Bounded (nth l n)) → Good (move_of l)
  unfolding move_of in_range rows decode_one decoders
  fine-move l b =
      picked Good (eqb (length l) 4) _ _
      (tag (rw (float_fits (b 0), float_fits (b 1), float_fits (b 2), float_fits (b 3)), rw ((b 0).back, (b 1).back, (b 2).back, (b 3).back), refl))
      (picked Good (eqb (length l) 6) _ _
      (tag (rw (float_fits (b 0), float_fits (b 1), float_fits (b 2), float_fits (b 3), cut_fits (b 4), cut_fits (b 5)), rw ((b 0).back, (b 1).back, (b 2).back, (b 3).back, cut-back (b 4), cut-back (b 5)), refl))
      nothing)

  fine-clip : (f : Float → Float → Float → Float → AnimatedTag) (g : Tag.Part → AnimatedTag) → Ranged (clip f g) → {l : List F32} → All (F32In s top p q) l → ((n : ℕ) → Bounded (nth (floats l) n)) → Good (clip_of f g l p q)
  unfolding clip_of
  fine-clip f g h {l} k b =
      let drawing : Good (kept (g (part p q))) = tag (h.1 (part p q) (part-fits p q short)) in
      picked Good (eqb (length l) 4) _ _
      (fine-long (picked Good (all_floats l) _ _ (tag (h.0 _ _ _ _ (b 0) (b 1) (b 2) (b 3))) drawing) k)
      drawing

  fine-fad : (l : List ℤ) → ((n : ℕ) → Small (nth_int l n)) → Good (fad_of l)
  unfolding fad_of in_range rows decode_one decoders
  fine-fad l b =
      picked Good (leb 2 (length l)) _ _
      (tag {x = Fad (not_below_zero (nth_int l 0)) (not_below_zero (nth_int l 1))} (rw (fad-fits (nth_int l 0) (b 0), fad-fits (nth_int l 1) (b 1)), refl, refl))
      nothing

  -- one far time makes it far; else all four are near
  fine-fade : (l : List ℤ) → ((n : ℕ) → Near s p q (nth_int l n)) → Good (fade_of l)
  unfolding fade_of in_range rows decode_one decoders
  fine-fade l near =
      picked Good (leb 7 (length l)) _ _
      (go (is_far (nth_int l 3)) (is_far (nth_int l 4)) (is_far (nth_int l 5)) (is_far (nth_int l 6)) refl refl refl refl)
      nothing
    where
      least : (z : ℤ) → Fits (range 0 255) (byte_of z)
      least z = byte_fits (byte_of z) (omega arith)

      x : AnimatedTag
      x = Fade (byte_of (nth_int l 0)) (byte_of (nth_int l 1)) (byte_of (nth_int l 2)) (nth_int l 3) (nth_int l 4) (nth_int l 5) (nth_int l 6)

      go : (a b c d : Bool) → is_far (nth_int l 3) ≡ a → is_far (nth_int l 4) ≡ b → is_far (nth_int l 5) ≡ c → is_far (nth_int l 6) ≡ d → Good (pick (pick a true (pick b true (pick c true d))) (far x) (kept x))
      go true b c d e f g h = away (lit< tt) (near 3 e top)
      go false true c d e f g h = away (lit< tt) (near 4 f top)
      go false false true d e f g h = away (lit< tt) (near 5 g top)
      go false false false true e f g h = away (lit< tt) (near 6 h top)
      go false false false false e f g h =
          tag {x = x} (rw (least (nth_int l 0), least (nth_int l 1), least (nth_int l 2), near_fits (nth_int l 3) e, near_fits (nth_int l 4) f, near_fits (nth_int l 5) g, near_fits (nth_int l 6) h), rw (near_back (nth_int l 3) e, near_back (nth_int l 4) f, near_back (nth_int l 5) g, near_back (nth_int l 6) h), refl)

  -- ---- a name

  fine-reset : Good (kept (reset_of s p q))
  unfolding reset_of in_range rows decode_one decoders
  fine-reset =
      let a = trim_start s p q in
      let b = trim_end s a q in
      tested (λ r. Good (kept (R r))) a b
      (λ (l : a < b). tag (rw (part-fits a b (omega (arith, trim_end-high s a q)), part_full a b l), refl, refl))
      (λ (l : b ≤ a). tag (refl, refl, refl))

  -- the letters behind fn make the name, then what the parameter adds
  fine_fn : (i m : ℕ) → i + 2 < m → m ≤ most_bytes → Good (kept (Fn (part (i + 2) m) (part p (trim_end s p q))))
  unfolding in_range rows decode_one decoders
  fine_fn i m l a =
      let y = part p (trim_end s p q) in
      tag {x = Fn (part (i + 2) m) y} (rw (part-fits (i + 2) m a, part-fits p (trim_end s p q) (omega (arith, trim_end-high s p q)), full (part (i + 2) m).size y.size (ltb-true 0 _ (part_full (i + 2) m l))), refl, refl)
    where
      full : (n k : ℕ) → 0 < n → ltb 0 (n + k) ≡ true
      full n k h = lt-ltb 0 (n + k) (omega arith)

  fine-named : (i m : ℕ) → i + 1 < m → m ≤ most_bytes → Good (kept (R (named (part (i + 1) m))))
  unfolding in_range rows decode_one decoders
  fine-named i m l a = tag {x = R (named (part (i + 1) m))} (rw (part-fits (i + 1) m a, part_full (i + 1) m l), refl, refl)

  -- ---- any plain tag

  fine-shape : (x : Shape) → Ranged x → Good (shaped x s p q)
  unfolding shaped
  fine-shape (float f) h = fine-f32 f h (f32_in s top p q high ends)
  fine-shape (pair f) h = fine-long (fine-pair f h _ (floats_bounded s p q)) (f32s_in s top p q order high ends)
  fine-shape (ranged a b f) h = fine-ranged a b f h (i32_at s p q)
  fine-shape (flag f) h = fine-flag f h
  fine-shape (alpha f) h = fine-alpha f h
  fine-shape (colour f) h = fine-colour f h
  fine-shape (clip f g) h = fine-clip f g h (f32s_in s top p q order high ends) (floats_bounded s p q)
  fine-shape (beat k) h = fine-f32 (beat_of k) (fine-beat k) (f32_in s top p q high ends)
  fine-shape fad h = fine-fad _ (ints-small s p q)
  fine-shape fade h = fine-fade _ (λ n. ints_near s p q n order)
  fine-shape move h = fine-long (fine-move _ (floats_bounded s p q)) (f32s_in s top p q order high ends)
  fine-shape edge h = fine-f32 (λ x. Be (round_byte x)) fine-edge (f32_in s top p q high ends)
  fine-shape baseline h = fine-f32 (λ x. Pbo (round_away x)) fine-baseline (f32_in s top p q high ends)
  fine-shape weight h = fine-weight (i32_at s p q)
  fine-shape reset h = fine-reset
  fine-shape unknown h = nothing

  pub plain-fine : (i m : ℕ) → m ≤ most_bytes → Good (plain_at s i m p q)
  unfolding plain_at is_fn is_named_reset
  plain-fine i m a = go (is_fn s i m) (is_named_reset s i m p q) refl refl
    where
      go : (t u : Bool) → is_fn s i m ≡ t → is_named_reset s i m p q ≡ u → Good (pick t (kept (Fn (part (i + 2) m) (part p (trim_end s p q)))) (pick u (kept (R (named (part (i + 1) m)))) (shaped (lookup (key_at s i m) names) s p q)))
      go true u e f = fine_fn i m (goes_on 2 i m _ e) a
      go false true e f = fine-named i m (goes_on 1 i m _ f) a
      go false false e f = fine-shape (lookup (key_at s i m) names) (find Ranged tt (key_at s i m) names every)
