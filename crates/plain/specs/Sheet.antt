-- Worked examples, by computation: a tag's name, its parameter, and what they give. The parameter stands behind the name.
use Rattle.std.specs.Prelude.{◌≡◌, refl, List, [], ◌∷◌, ◌++◌, map, true, false, ℕ, ◌+◌, pos, negsuc, neg_ℤ, Float, length}
use Prim.Native.String.{String}
use Rattle.std.specs.Float.{fin}
use Rattle.std.specs.Float.Ieee.{round, lt, to_signed}
use Rattle.scan.specs.Scan.{bytes, span, back, skip, skip_back, blank_at, blank_before}
use Rattle.float.specs.Float.{max_zero, round_away, round_byte}
use Rattle.numeral.specs.Numeral.{value, whole_number, i32_of, hex_at, split_at, exponent_at, float_of, f32_of}
use Rattle.lists.specs.Lists.{split}
use Rattle.colour.specs.Colour.{trimmed, ampersands, zero_xat, digits, alpha_at, colour_at}
use Rattle.tag.specs.Tag.{Part, Fad, Fade, Pos, Move, absent, times, Fs, Color1, ClipRect, ClipDrawing, Be, Alpha, An, Fn, R, plain, named, B, I, Karaoke, cs, Pbo}
use Rattle.tag.specs.declared.KaraokeKind.TheVariants.{Sweep}
use Rattle.plain.specs.Names.{names, lookup, lowered, key_at}
use Rattle.plain.specs.Plain.{One, no, long, kept, far, part, f32s, i32s, all_floats, floats_in, all_ints, ints_in, unless_long, pair_of, move_of, fad_of, fade_of, ranged_of, weight_of, flag_of, clip_of, reset_of, shaped, is_fn, is_named_reset, plain_at}

-- a name, its parameter, and what they give
abbrev Row : Type 0
Row = String × String × One

abbrev given : String → String → One
given name parameter =
    let m = length (bytes name) in
    plain_at (bytes name ++ bytes parameter) 0 m m (m + length (bytes parameter))

abbrev Gives : List Row → Type 0
Gives rows = map (λ (r : Row). given r.0 r.1) rows ≡ map (λ (r : Row). r.2) rows

abbrev from : ℕ → ℕ → Part
from offset size = record { offset = offset; size = size }

-- a whole number as an f32: an odd one times a power of two
abbrev whole : ℕ → ℕ → Float
whole n e = fin false n (pos e)

pub floats : Gives (
    ("fs", "20", kept (Fs (whole 5 2))) ∷
    ("FS", " 20 ", kept (Fs (whole 5 2))) ∷
    ("fs", "1e2", kept (Fs (whole 25 2))) ∷
    ("fs", "1e9", long 2) ∷
    ("fs", "x", no) ∷
    ("fsx", "20", no) ∷
    ("be", "2.5", kept (Be 3)) ∷
    ("be", "-1", kept (Be 0)) ∷
    ("pbo", "0.5", kept (Pbo (pos 1))) ∷
    ("K", "5", kept (Karaoke Sweep (cs 5))) ∷
    ("kf", "-5", kept (Karaoke Sweep (cs 0))) ∷
    [])
unfolding span skip skip_back blank_at blank_before value split_at exponent_at float_of f32_of round lt max_zero round_away round_byte names lookup lowered key_at is_fn is_named_reset shaped plain_at
floats = refl

-- comma lists: every part is looked at for a numeral that is too long, \clip's only where there are four
pub lists : Gives (
    ("pos", "1,2", kept (Pos (whole 1 0) (whole 1 1))) ∷
    ("pos", "1,2,3", no) ∷
    ("pos", "1,x", no) ∷
    ("pos", "x,1e9", long 5) ∷
    ("pos", "1,2,1e9", long 7) ∷
    ("move", "1,1,1,1", kept (Move (whole 1 0) (whole 1 0) (whole 1 0) (whole 1 0) absent)) ∷
    ("move", "1,1,1,1,2.9,-2.9", kept (Move (whole 1 0) (whole 1 0) (whole 1 0) (whole 1 0) (times (pos 2) (negsuc 1)))) ∷
    ("clip", "1,1,1,1", kept (ClipRect (whole 1 0) (whole 1 0) (whole 1 0) (whole 1 0))) ∷
    ("clip", "1e0,10E-1,.1e+1,1e2", kept (ClipRect (whole 1 0) (whole 1 0) (whole 1 0) (whole 25 2))) ∷
    ("clip", "m 0 0 l 9 9", kept (ClipDrawing (from 4 11))) ∷
    ("clip", "1,2,3", kept (ClipDrawing (from 4 5))) ∷
    ("clip", "1,2,1e9", kept (ClipDrawing (from 4 7))) ∷
    ("clip", "1,2,x,1e9", long 10) ∷
    ("clip", "", kept (ClipDrawing (from 0 0))) ∷
    ("fad", "200,-3", kept (Fad 200 0)) ∷
    ("fad", "1,2,3", kept (Fad 1 2)) ∷
    ("fad", "1", no) ∷
    ("fad", "1e2,5", no) ∷
    ("fade", "256,-1,7,1000000000,-1000000000,0,0", kept (Fade 255 0 7 (pos 1000000000) (neg_ℤ (pos 1000000000)) (pos 0) (pos 0))) ∷
    ("fade", "0,0,0,0,0,0,-1000000001", far (Fade 0 0 0 (pos 0) (pos 0) (pos 0) (neg_ℤ (pos 1000000001)))) ∷
    [])
unfolding span skip skip_back blank_at blank_before value whole_number i32_of split_at exponent_at float_of f32_of round to_signed split f32s i32s all_floats floats_in all_ints ints_in unless_long pair_of move_of fad_of fade_of clip_of part names lookup lowered key_at is_fn is_named_reset shaped plain_at
lists = refl

pub words : Gives (
    ("b", "1", kept (B 700)) ∷
    ("b", "0", kept (B 0)) ∷
    ("b", "400", kept (B 400)) ∷
    ("b", "99", no) ∷
    ("b", "-1", no) ∷
    ("an", "9", kept (An 9)) ∷
    ("an", "0", no) ∷
    ("i", " 1 ", kept (I true)) ∷
    ("i", "00", no) ∷
    ("alpha", "&H1FF&", kept (Alpha 255)) ∷
    ("c", "&H0x0xFF&", kept (Color1 (record { red = 255; green = 0; blue = 0 }))) ∷
    ("1c", "&H010203&", kept (Color1 (record { red = 3; green = 2; blue = 1 }))) ∷
    [])
unfolding span back skip skip_back blank_at blank_before value whole_number i32_of hex_at trimmed ampersands zero_xat digits alpha_at colour_at ranged_of weight_of flag_of names lookup lowered key_at is_fn is_named_reset shaped plain_at
words = refl

-- \fn and \r: parts of the text
pub parts : Gives (
    ("fnArial", "", kept (Fn (from 2 5) (from 0 0))) ∷
    ("fnArial", "x ", kept (Fn (from 2 5) (from 7 1))) ∷
    ("fn", "Arial", no) ∷
    ("r", "", kept (R plain)) ∷
    ("r", " ", kept (R plain)) ∷
    ("r", " Alt ", kept (R (named (from 2 3)))) ∷
    ("rAlt", "", kept (R (named (from 1 3)))) ∷
    ("rAlt", "x", no) ∷
    [])
unfolding skip skip_back blank_at blank_before part reset_of names lookup lowered key_at is_fn is_named_reset shaped plain_at
parts = refl
