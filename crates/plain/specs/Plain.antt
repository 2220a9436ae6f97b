-- One tag, \t apart: Rust's `parse_one`, by positions. The name stands from i to m, its parameter from p to q.
use Rattle.std.specs.Prelude.{List, [], ◌∷◌, Bool, true, false, ℕ, ◌+◌, ◌-◌, min, leb, ltb, eqb, ℤ, pos, negsuc, Float, length, get_or, Option, Some, None}
use Rattle.std.specs.Float.Ieee.{to_signed}
use Rattle.scan.specs.Scan.{pick, either, trim_start, trim_end}
use Rattle.float.specs.Float.{zero as plus_zero, reach, max_zero, round_away, round_byte, to_word}
use Rattle.numeral.specs.Numeral.{F32, number, too_long_lem, f32_at, I32, whole, i32_at}
use Rattle.lists.specs.Lists.{Stretch, parts}
use Rattle.colour.specs.Colour.{alpha_at, colour_at}
use Rattle.colour.specs.declared.Rgb.{Rgb}
use Rattle.tag.specs.Tag as Tag
use Rattle.tag.specs.Tag.{AnimatedTag, absent, times, Fad, Fade, Move, Be, Pbo, B, R, Fn, Karaoke, cs, plain, named}
use Rattle.tag.specs.declared.KaraokeKind.{KaraokeKind}
use Rattle.plain.specs.Names.{Shape, float, pair, ranged, flag, alpha, colour, clip, beat, fad, fade, move, edge, baseline, weight, reset, unknown, names, lookup, key_of, key, lowered, key_at}

-- what a tag gives: nothing, a numeral that is too long with its place, a tag, or a \fade whose times lie too far off
pub data One : Type 0 where
  no : One
  long : ℕ → One
  kept : AnimatedTag → One
  far : AnimatedTag → One

-- the part of the text from p to q; an empty part has offset and length 0
unfoldable pub part : ℕ → ℕ → Tag.Part
part p q = pick (ltb p q) (record { offset = p; size = q - p }) (record { offset = 0; size = 0 })

-- `parse_finite_f32(..).map(f)`
abbrev pub map_f32 : (Float → AnimatedTag) → F32 → One
map_f32 f F32.none = no
map_f32 f (too_long_lem p) = long p
map_f32 f (number x) = kept (f x)

-- the f32 and the i32 of each part of a comma list
unfoldable pub f32s : List ℕ → List Stretch → List F32
f32s s [] = []
f32s s (x ∷ l) = f32_at s x.from x.to ∷ f32s s l

unfoldable pub i32s : List ℕ → List Stretch → List I32
i32s s [] = []
i32s s (x ∷ l) = i32_at s x.from x.to ∷ i32s s l

-- `parse_float_list`: all of them, or none
abbrev pub is_number : F32 → Bool
is_number F32.none = false
is_number (too_long_lem p) = false
is_number (number x) = true

-- a part's number, 0 where it has none
abbrev pub or_zero : F32 → Float
or_zero F32.none = plus_zero
or_zero (too_long_lem p) = plus_zero
or_zero (number x) = x

unfoldable pub all_floats : List F32 → Bool
all_floats [] = true
all_floats (x ∷ l) = let r = all_floats l in pick (is_number x) r false

unfoldable pub floats_in : List F32 → List Float
floats_in [] = []
floats_in (x ∷ l) = or_zero x ∷ floats_in l

abbrev pub floats : List F32 → List Float
floats l = pick (all_floats l) (floats_in l) []

-- `parse_int_list`: all of them, or none
abbrev pub is_whole : I32 → Bool
is_whole I32.none = false
is_whole (whole z) = true

abbrev pub int_of : I32 → ℤ
int_of I32.none = pos 0
int_of (whole z) = z

unfoldable pub all_ints : List I32 → Bool
all_ints [] = true
all_ints (x ∷ l) = let r = all_ints l in pick (is_whole x) r false

unfoldable pub ints_in : List I32 → List ℤ
ints_in [] = []
ints_in (x ∷ l) = int_of x ∷ ints_in l

abbrev pub ints : List I32 → List ℤ
ints l = pick (all_ints l) (ints_in l) []

-- the n-th of a list
abbrev pub nth : List Float → ℕ → Float
nth l n = get_or l n plus_zero

abbrev pub nth_int : List ℤ → ℕ → ℤ
nth_int l n = get_or l n (pos 0)

-- 01, ground 3: the first numeral of a list that is too long comes before what the list makes
unfoldable pub unless_long : List F32 → One → One
unless_long [] o = o
unless_long (F32.none ∷ l) o = unless_long l o
unless_long (too_long_lem p ∷ l) o = long p
unless_long (number x ∷ l) o = unless_long l o

-- \pos, \org: two
unfoldable pub pair_of : (Float → Float → AnimatedTag) → List Float → One
pair_of f l = pick (eqb (length l) 2) (kept (f (nth l 0) (nth l 1))) no

-- a time: `as i32` cuts toward zero
abbrev pub time_of : Float → ℤ
time_of x = to_signed 31 x

-- \move: four, or six
unfoldable pub move_of : List Float → One
move_of l =
    pick (eqb (length l) 4) (kept (Move (nth l 0) (nth l 1) (nth l 2) (nth l 3) absent))
    (pick (eqb (length l) 6) (kept (Move (nth l 0) (nth l 1) (nth l 2) (nth l 3) (times (time_of (nth l 4)) (time_of (nth l 5))))) no)

-- `max(0) as u32`, `clamp(0, 255) as u8`
abbrev pub not_below_zero : ℤ → ℕ
not_below_zero (pos n) = n
not_below_zero (negsuc n) = 0

abbrev pub byte_of : ℤ → ℕ
byte_of z = min (not_below_zero z) 255

-- \fad: the first two of a list of at least two
unfoldable pub fad_of : List ℤ → One
fad_of l = pick (leb 2 (length l)) (kept (Fad (not_below_zero (nth_int l 0)) (not_below_zero (nth_int l 1)))) no

-- 01, ground 4: a time beyond ±1,000,000,000
abbrev pub is_far : ℤ → Bool
is_far (pos n) = ltb reach n
is_far (negsuc n) = leb reach n

-- \fade: the first seven of a list of at least seven
unfoldable pub fade_of : List ℤ → One
fade_of l =
    let x = Fade (byte_of (nth_int l 0)) (byte_of (nth_int l 1)) (byte_of (nth_int l 2)) (nth_int l 3) (nth_int l 4) (nth_int l 5) (nth_int l 6) in
    let f = either (is_far (nth_int l 3)) (either (is_far (nth_int l 4)) (either (is_far (nth_int l 5)) (is_far (nth_int l 6)))) in
    pick (leb 7 (length l)) (pick f (far x) (kept x)) no

-- a whole number from low to high
unfoldable pub ranged_of : ℕ → ℕ → (ℕ → AnimatedTag) → I32 → One
ranged_of low high f I32.none = no
ranged_of low high f (whole (pos n)) = pick (leb low n) (pick (leb n high) (kept (f n)) no) no
ranged_of low high f (whole (negsuc n)) = no

-- \b: 0, 1 for 700, or 100 to 900
unfoldable pub weight_of : I32 → One
weight_of I32.none = no
weight_of (whole (pos n)) =
    pick (eqb n 0) (kept (B 0))
    (pick (eqb n 1) (kept (B 700)) (pick (leb 100 n) (pick (leb n 900) (kept (B n)) no) no))
weight_of (whole (negsuc n)) = no

-- \i, \u, \s: the trimmed parameter is `0` or `1` to the letter
unfoldable pub flag_of : (Bool → AnimatedTag) → List ℕ → ℕ → ℕ → One
flag_of f s p q =
    let a = trim_start s p q in
    pick (eqb (trim_end s a q - a) 1)
    (pick (eqb (get_or s a 0) 48) (kept (f false)) (pick (eqb (get_or s a 0) 49) (kept (f true)) no))
    no

abbrev pub map_alpha : (ℕ → AnimatedTag) → Option ℕ → One
map_alpha f None = no
map_alpha f (Some n) = kept (f n)

abbrev pub map_colour : (Tag.Rgb → AnimatedTag) → Option Rgb → One
map_colour f None = no
map_colour f (Some c) = kept (f (record { red = c.red; green = c.green; blue = c.blue }))

-- \clip, \iclip: a rectangle where there are four parts and all are numbers, else the whole parameter as a drawing
unfoldable pub clip_of : (Float → Float → Float → Float → AnimatedTag) → (Tag.Part → AnimatedTag) → List F32 → ℕ → ℕ → One
clip_of f g l p q =
    let x = floats l in
    pick (eqb (length l) 4)
    (unless_long l (pick (all_floats l) (kept (f (nth x 0) (nth x 1) (nth x 2) (nth x 3))) (kept (g (part p q)))))
    (kept (g (part p q)))

-- \r: the trimmed parameter names a style, if there is any
unfoldable pub reset_of : List ℕ → ℕ → ℕ → AnimatedTag
reset_of s p q =
    let a = trim_start s p q in
    let b = trim_end s a q in
    R (pick (ltb a b) (named (part a b)) plain)

-- \k: `max(0.0).round() as u32`
abbrev pub beat_of : KaraokeKind → Float → AnimatedTag
beat_of k x = Karaoke k (cs (to_word (round_away (max_zero x))))

-- the parameter from p to q by its shape
unfoldable pub shaped : Shape → List ℕ → ℕ → ℕ → One
shaped (float f) s p q = map_f32 f (f32_at s p q)
shaped (pair f) s p q = let l = f32s s (parts s p q) in unless_long l (pair_of f (floats l))
shaped (ranged a b f) s p q = ranged_of a b f (i32_at s p q)
shaped (flag f) s p q = flag_of f s p q
shaped (alpha f) s p q = map_alpha f (alpha_at s p q)
shaped (colour f) s p q = map_colour f (colour_at s p q)
shaped (clip f g) s p q = clip_of f g (f32s s (parts s p q)) p q
shaped (beat k) s p q = map_f32 (beat_of k) (f32_at s p q)
shaped fad s p q = fad_of (ints (i32s s (parts s p q)))
shaped fade s p q = fade_of (ints (i32s s (parts s p q)))
shaped move s p q = let l = f32s s (parts s p q) in unless_long l (move_of (floats l))
shaped edge s p q = map_f32 (λ x. Be (round_byte x)) (f32_at s p q)
shaped baseline s p q = map_f32 (λ x. Pbo (round_away x)) (f32_at s p q)
shaped weight s p q = weight_of (i32_at s p q)
shaped reset s p q = kept (reset_of s p q)
shaped unknown s p q = no

-- \fn: a name that begins with fn and goes on
unfoldable pub is_fn : List ℕ → ℕ → ℕ → Bool
is_fn s i m = pick (leb 3 (m - i)) (eqb (key_of (lowered s 2 i)) (key "fn")) false

-- \r: a name that begins with r and goes on, with an empty parameter
unfoldable pub is_named_reset : List ℕ → ℕ → ℕ → ℕ → ℕ → Bool
is_named_reset s i m p q = pick (leb 2 (m - i)) (pick (eqb (key_of (lowered s 1 i)) (key "r")) (leb q p) false) false

-- one tag, \t apart
unfoldable pub plain_at : List ℕ → ℕ → ℕ → ℕ → ℕ → One
plain_at s i m p q =
    let x = kept (Fn (part (i + 2) m) (part p (trim_end s p q))) in
    let y = kept (R (named (part (i + 1) m))) in
    let z = shaped (lookup (key_at s i m) names) s p q in
    pick (is_fn s i m) x (pick (is_named_reset s i m p q) y z)
