-- The words of a plain tag are those of its record, and it has one: by the shape of its parameter, for every shape of the table.
use mathlib.Core.Path.{◌≡◌, refl}
use mathlib.Core.Bool.{Bool, true, false}
use mathlib.Core.List.{List, [], ◌∷◌}
use Prim.Native.Nat.{ℕ, ◌<◌}
use lib.Dec.{eqb, lit<}
use lib.Ieee.{Float}
use lib.ListN.{length}
use Rattle.scan.specs.Scan.{pick}
use Rattle.scan.proofs.Laws.{picked}
use Rattle.float.specs.Float.{zero as plus_zero, round_away, round_byte}
use Rattle.numeral.specs.Numeral.{F32, too_long_lem, number, f32_at, i32_at, word_of_f32}
use Rattle.std.specs.Prelude.{Option, Some, None}
use Rattle.lists.specs.Lists.{parts}
use Rattle.lists.specs.declared.Numbers.{Numbers}
use Rattle.colour.specs.Colour.{alpha_at, colour_at}
use Rattle.colour.specs.declared.Rgb as C
use Rattle.tag.specs.Tag as Tag
use Rattle.tag.specs.Tag.{AnimatedTag, Be, Pbo}
use Rattle.tag.specs.declared.Record.{Record}
use Rattle.tag.specs.Table.{rec, records, bits, one_float, two_floats, four_floats, one_number, part_record, rgb_record, flag_word, kind_word}
use Rattle.plain.specs.declared.Kept.{Kept}
use Rattle.plain.specs.Names.{Shape, float, pair, ranged, flag, alpha, colour, clip, beat, fad, fade, move, edge, baseline, weight, reset, unknown, names, lookup, key_at}
use Rattle.plain.specs.Plain.{kept, part, map_f32, map_alpha, map_colour, or_zero, f32s, unless_long, clip_of, beat_of, nth, shaped, is_fn, is_named_reset, plain_at}
use Rattle.plain.specs.Inner.{kept_of, kind_of, code_of, keep_word, beat_word, edge_word, baseline_word, long_or, nth_word, alpha_tag, colour_tag, clip_tag, drawing_tag, numbers_at, shaped_tag}
use Rattle.plain.proofs.Numbers.{Back, f32-back, i32_small}
use Rattle.plain.proofs.Commas.{Floats, floats_read, floats-length, ints_read}
use Rattle.plain.proofs.Every.{Every, gather, find}
use Rattle.plain.proofs.Gives.{Gives, nothing, late, tag, gives-kept, Single, gives-single, gives-pick, gives-long, gives-pair, gives_move, gives-fad, gives-fade, gives-ranged, gives-weight, gives-flag, gives-reset}

-- ---- every tag of the table has one record, of one kind, with its numbers in order

abbrev no_part : Tag.Part
no_part = record { offset = 0; size = 0 }

abbrev black : Tag.Rgb
black = record { red = 0; green = 0; blue = 0 }

abbrev Sound : Shape → Type 0
Sound (float f) = (x : Float) → records (f x) ≡ one_float (kind_of (f plus_zero)) x ∷ []
Sound (pair f) = (x y : Float) → records (f x y) ≡ two_floats (kind_of (f plus_zero plus_zero)) x y ∷ []
Sound (ranged a b f) = (b < 2147483648) × ((n : ℕ) → records (f n) ≡ one_number (kind_of (f 0)) n ∷ [])
Sound (flag f) = (b : Bool) → records (f b) ≡ one_number (kind_of (f false)) (flag_word b) ∷ []
Sound (alpha f) = (n : ℕ) → records (f n) ≡ one_number (kind_of (f 0)) n ∷ []
Sound (colour f) = (c : Tag.Rgb) → records (f c) ≡ rgb_record (kind_of (f black)) c ∷ []
Sound (clip f g) =
    ((x y z w : Float) → records (f x y z w) ≡ four_floats (kind_of (f plus_zero plus_zero plus_zero plus_zero)) x y z w ∷ [])
    × ((x : Tag.Part) → records (g x) ≡ part_record (kind_of (g no_part)) x ∷ [])
Sound (beat k) = Unit
Sound fad = Unit
Sound fade = Unit
Sound move = Unit
Sound edge = Unit
Sound baseline = Unit
Sound weight = Unit
Sound reset = Unit
Sound unknown = Unit

sound : Every Sound names
unfolding names records
sound =
    gather Sound names (Every Sound names) (λ e. e)
    tt tt tt (λ x. refl) (λ x. refl) (λ x. refl) (λ x. refl) (λ x y. refl) (λ x y. refl) (λ x. refl) tt
    (λ x. refl) (λ x. refl) (λ x. refl) (λ x. refl) (λ x. refl) (λ x. refl) tt (lit< tt, λ n. refl)
    (λ x. refl) (λ x. refl) (λ x. refl) (λ x. refl) (λ x. refl) (λ x. refl) (lit< tt, λ n. refl)
    (lit< tt, λ n. refl) (lit< tt, λ n. refl) tt tt tt tt (λ x. refl) (λ x. refl) (λ x. refl) (λ x. refl)
    (λ x. refl) (λ x. refl) (λ x. refl) (λ x. refl) (λ x. refl) (λ x. refl) (λ x y z w. refl, λ x. refl)
    (λ x y z w. refl, λ x. refl) (lit< tt, λ n. refl) tt (λ x. refl) (λ x. refl) (λ x. refl) tt

-- ---- one number

module _ (f : Float → AnimatedTag) (g : ℕ → Record) (h : (x : Float) → Back x → records (f x) ≡ g (bits x) ∷ []) where
  gives-f32 : (y : F32) → Back (or_zero y) → Gives (keep_word g (word_of_f32 y)) (map_f32 f y)
  gives-f32 F32.none b = nothing
  gives-f32 (too_long_lem p) b = late p
  gives-f32 (number x) b = tag (h x b)

gives-alpha : (f : ℕ → AnimatedTag) (k : ℕ) → ((n : ℕ) → records (f n) ≡ one_number k n ∷ []) → (y : Option ℕ) → Gives (alpha_tag k y) (map_alpha f y)
gives-alpha f k h None = nothing
gives-alpha f k h (Some n) = tag (h n)

gives-colour : (f : Tag.Rgb → AnimatedTag) (k : ℕ) → ((c : Tag.Rgb) → records (f c) ≡ rgb_record k c ∷ []) → (y : Option C.Rgb) → Gives (colour_tag k y) (map_colour f y)
gives-colour f k h None = nothing
gives-colour f k h (Some c) = tag (h _)

-- ---- \clip, \iclip

module _ (f : Float → Float → Float → Float → AnimatedTag) (g : Tag.Part → AnimatedTag) (k d : ℕ)
    (h : (x y z w : Float) → records (f x y z w) ≡ four_floats k x y z w ∷ []) (i : (x : Tag.Part) → records (g x) ≡ part_record d x ∷ [])
    (s : List ℕ) (p q : ℕ) where
  abbrev n : Numbers
  n = numbers_at false s p q

  four : {b : Bool} {l : List Float} → Floats n b l → Gives
      (pick n.all
      (long_or n.too_long (Kept.Tag (rec k (nth_word n.words 0) (nth_word n.words 1) (nth_word n.words 2) (nth_word n.words 3) 0 0 0)))
      (long_or n.too_long (drawing_tag d p q)))
      (unless_long (f32s s (parts s p q))
      (pick b (kept (f (nth (pick b l []) 0) (nth (pick b l []) 1) (nth (pick b l []) 2) (nth (pick b l []) 3))) (kept (g (part p q)))))
  four {b = true} {l} r =
      rw (r.all, r.words 0 (lit< tt), r.words 1 (lit< tt), r.words 2 (lit< tt), r.words 3 (lit< tt)) (gives-long _ _ s (parts s p q) (tag (h (nth l 0) (nth l 1) (nth l 2) (nth l 3))))
  four {b = false} r = rw r.all (gives-long _ _ s (parts s p q) (tag (i (part p q))))

  gives-clip : Gives (clip_tag k d n p q) (clip_of f g (f32s s (parts s p q)) p q)
  unfolding clip_tag clip_of
  gives-clip =
      rw (floats-length s (parts s p q))
      (gives-pick (eqb (length (f32s s (parts s p q))) 4) (four (floats_read s p q)) (tag (i (part p q))))

-- ---- the bridge

gives : (x : Shape) → Sound x → (s : List ℕ) (p q : ℕ) → Gives (shaped_tag (code_of x) s p q) (shaped x s p q)
unfolding shaped_tag code_of shaped records
gives (float f) h s p q = gives-f32 f _ (λ x b. h x) (f32_at s p q) (f32-back s p q)
gives (pair f) h s p q = gives-long _ _ s (parts s p q) (gives-pair (numbers_at false s p q) f _ h (floats_read s p q))
gives (ranged a b f) h s p q = gives-ranged f _ h.1 a b h.0 (i32_at s p q) (i32_small s p q)
gives (flag f) h s p q = gives-flag f _ h s p q
gives (alpha f) h s p q = gives-alpha f _ h (alpha_at s p q)
gives (colour f) h s p q = gives-colour f _ h (colour_at s p q)
gives (clip f g) h s p q = gives-clip f g _ _ h.0 h.1 s p q
gives (beat k) h s p q = gives-f32 (beat_of k) (λ w. rec 46 (kind_word k) (beat_word w) 0 0 0 0 0) (λ x b. rw b) (f32_at s p q) (f32-back s p q)
gives fad h s p q = gives-fad (numbers_at true s p q) (ints_read s p q)
gives fade h s p q = gives-fade (numbers_at true s p q) (ints_read s p q)
gives move h s p q = gives-long _ _ s (parts s p q) (gives_move (numbers_at false s p q) (floats_read s p q))
gives edge h s p q = gives-f32 (λ x. Be (round_byte x)) (λ w. rec 22 (edge_word w) 0 0 0 0 0 0) (λ x b. rw b) (f32_at s p q) (f32-back s p q)
gives baseline h s p q = gives-f32 (λ x. Pbo (round_away x)) (λ w. rec 47 (baseline_word w) 0 0 0 0 0 0) (λ x b. rw b) (f32_at s p q) (f32-back s p q)
gives weight h s p q = gives-weight (i32_at s p q) (i32_small s p q)
gives reset h s p q = gives-reset s p q
gives unknown h s p q = nothing

pub bridge : (k : ℕ) (s : List ℕ) (p q : ℕ) → shaped_tag (code_of (lookup k names)) s p q ≡ kept_of (shaped (lookup k names) s p q)
bridge k s p q = gives-kept (gives (lookup k names) (find Sound tt k names sound) s p q)

-- ---- a plain tag has one record

module _ (s : List ℕ) (i m p q : ℕ) where
  pub plain-single : Single (plain_at s i m p q)
  unfolding plain_at records
  plain-single =
      let k = key_at s i m in
      picked Single (is_fn s i m) _ _ refl (picked Single (is_named_reset s i m p q) _ _ refl (gives-single (gives (lookup k names) (find Sound tt k names sound) s p q)))
