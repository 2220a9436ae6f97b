-- Worked examples, by computation: 01's sheet where it speaks of reading, and the traps.
use Rattle.std.specs.Prelude.{◌≡◌, refl, List, [], ◌∷◌, ◌++◌, map, ℕ, replicate, Ok, Err}
use Prim.Native.String.{String}
use Rattle.std.specs.Float.Ieee.{round, to_bits, to_signed}
use Rattle.scan.specs.Scan.{bytes, span, back, skip, skip_back, blank_at, blank_before, closing}
use Rattle.float.specs.Float.{max_zero, round_away, round_byte}
use Rattle.numeral.specs.Numeral.{value, whole_number, i32_of, hex_at, split_at, exponent_at, float_of, f32_of}
use Rattle.colour.specs.Colour.{trimmed, ampersands, zero_xat, digits, alpha_at, colour_at}
use Rattle.lists.specs.Lists.{split}
use Rattle.refusal.specs.declared.Refusal.TheVariants.{TextTooLong, NotAscii, NumeralTooLong, FadeTooFar, NoRoom}
use Rattle.tag.specs.declared.Record.{Record}
use Rattle.tag.specs.Tag.{append, count}
use Rattle.tag.specs.Table.{rec, records, encode}
use Rattle.plain.specs.Names.{names, lookup, lowered, key_at}
use Rattle.plain.specs.Plain.{part, f32s, i32s, all_floats, floats_in, all_ints, ints_in, unless_long, pair_of, move_of, fad_of, fade_of, ranged_of, weight_of, flag_of, clip_of, reset_of, shaped, is_fn, is_named_reset, plain_at}
use Rattle.refusal.specs.Answer.{Answer}
use Rattle.read.specs.Block.{param_at, peel, tag_at, walk, t_at, parse}
use Rattle.read.specs.Reading.{read_ground, whole_text, less_braces, block_of, answer}
use Rattle.refusal.specs.Refusal.{text_ground}

-- the records of a text, for the call that drops no brace and for the one that does
abbrev records_of : String → List Record
records_of t = encode (block_of (bytes t) (whole_text (bytes t))).tags

abbrev raw_records_of : String → List Record
raw_records_of t = encode (block_of (bytes t) (less_braces (bytes t))).tags

-- the answer, into a table of 1,024 places
abbrev answer_of : String → Answer
answer_of t = answer (bytes t) (whole_text (bytes t)) 1024

-- that each text gives what stands beside it
abbrev Gives : {A : Type 0} → (String → A) → List (String × A) → Type 0
Gives {A} f rows = map (λ (r : String × A). f r.0) rows ≡ map (λ (r : String × A). r.1) rows

pub tables : Gives records_of (
    ("\\fs20\\t(0,1000,\\fs40)", rec 10 0x41A00000 0 0 0 0 0 0 ∷ rec 49 1 0 1000 0x3F800000 1 0 0 ∷ rec 10 0x42200000 0 0 0 0 0 0 ∷ []) ∷
    ("\\fad(200,300)", rec 1 200 300 0 0 0 0 0 ∷ []) ∷
    ("\\k50\\kf25", rec 46 0 50 0 0 0 0 0 ∷ rec 46 1 25 0 0 0 0 0 ∷ []) ∷
    ("\\1c&H0000FF&", rec 9 255 0 0 0 0 0 0 ∷ []) ∷
    ("\\alpha&H1FF&", rec 30 255 0 0 0 0 0 0 ∷ []) ∷
    ("\\c&H0x0xFF&", rec 9 255 0 0 0 0 0 0 ∷ []) ∷
    ("\\fnArial(x)", rec 39 3 5 9 1 0 0 0 ∷ []) ∷
    ("\\fnTimes New Roman \\b1", rec 39 3 5 8 10 0 0 0 ∷ rec 42 700 0 0 0 0 0 0 ∷ []) ∷
    ("\\r( )", rec 41 0 0 0 0 0 0 0 ∷ []) ∷
    ("\\rAlt", rec 41 1 2 3 0 0 0 0 ∷ []) ∷
    ("\\rAlt Style", []) ∷
    ("\\fn8x", []) ∷
    ("\\K5", rec 46 1 5 0 0 0 0 0 ∷ []) ∷
    ("\\t(1,2,3,4,\\fs5)", rec 49 1 1 2 0x40400000 1 0 0 ∷ rec 10 0x40A00000 0 0 0 0 0 0 ∷ []) ∷
    ("\\t0,1000,\\fs40", rec 49 1 0 1000 0x3F800000 0 0 0 ∷ rec 10 0x42200000 0 0 0 0 0 0 ∷ []) ∷
    ("\\t(\\fs(5)\\i1", rec 49 0 0 0 0x3F800000 2 0 0 ∷ rec 10 0x40A00000 0 0 0 0 0 0 ∷ rec 43 1 0 0 0 0 0 0 ∷ []) ∷
    ("\\clip(1,2,3)", rec 12 6 5 0 0 0 0 0 ∷ []) ∷
    ("\\fs(nan)", []) ∷
    -- 02, N4
    ("\\t(0,1e3,\\fs1e2)", rec 49 1 0 1000 0x3F800000 1 0 0 ∷ rec 10 0x42C80000 0 0 0 0 0 0 ∷ []) ∷
    ("\\clip(1e0,1,1,2.5E-3)", rec 11 0x3F800000 0x3F800000 0x3F800000 0x3B23D70A 0 0 0 ∷ []) ∷
    ("\\\\\\i1", rec 43 1 0 0 0 0 0 0 ∷ []) ∷
    [])
unfolding round to_bits to_signed span back skip skip_back blank_at blank_before closing max_zero round_away round_byte value whole_number i32_of hex_at split_at exponent_at float_of f32_of trimmed ampersands zero_xat digits alpha_at colour_at split append records encode count names lookup lowered key_at part f32s i32s all_floats floats_in all_ints ints_in unless_long pair_of move_of fad_of fade_of ranged_of weight_of flag_of clip_of reset_of shaped is_fn is_named_reset plain_at param_at peel tag_at walk t_at parse
tables = refl

pub raw : Gives raw_records_of (
    (" {\\i1} ", rec 43 1 0 0 0 0 0 0 ∷ []) ∷
    ("{\\rAlt}", rec 41 1 3 3 0 0 0 0 ∷ []) ∷
    ("{{\\fnArial}}", rec 39 5 5 10 1 0 0 0 ∷ []) ∷
    [])
unfolding round to_bits to_signed span back skip skip_back blank_at blank_before closing max_zero round_away round_byte value whole_number i32_of hex_at split_at exponent_at float_of f32_of trimmed ampersands zero_xat digits alpha_at colour_at split append records encode count names lookup lowered key_at part f32s i32s all_floats floats_in all_ints ints_in unless_long pair_of move_of fad_of fade_of ranged_of weight_of flag_of clip_of reset_of shaped is_fn is_named_reset plain_at param_at peel tag_at walk t_at parse less_braces
raw = refl

pub answers : Gives answer_of (
    ("", Ok 0) ∷
    ("\\t(\\t(\\t(\\t(\\t(\\t(\\t(\\t(\\t(\\b1", Ok 10) ∷
    ("\\t(\\t(\\t(\\t(\\t(\\t(\\t(\\t(\\t(\\t(\\t(\\t(\\t(\\t(\\t(\\t(\\b1", Ok 17) ∷
    ("\\t(\\t(\\t(\\t(\\t(\\t(\\t(\\t(\\t(\\t(\\t(\\t(\\t(\\t(\\t(\\t(\\t(\\b1", Ok 16) ∷
    ("\\fs999999999", Ok 1) ∷
    ("\\fs1000000000", Err (NumeralTooLong 3)) ∷
    ("\\fs1e2", Ok 1) ∷
    ("\\fs1e9", Err (NumeralTooLong 3)) ∷
    ("\\pos(x,1e9)", Err (NumeralTooLong 7)) ∷
    ("\\pos(1,2, -1e9)", Err (NumeralTooLong 10)) ∷
    ("\\fad(1e9,5)\\foo1e9\\clip(1e9)", Ok 1) ∷
    ("\\t(x,1e9,\\i1)", Ok 2) ∷
    ("\\t(1,1e9,\\fs1e10)", Err (NumeralTooLong 5)) ∷
    ("\\i1\\fade(0,0,0,0,0,0,1000000001)", Err (FadeTooFar 3)) ∷
    ("\\fade(0,0,0,-1000000000,0,0,1000000000)", Ok 1) ∷
    [])
unfolding round to_bits to_signed span back skip skip_back blank_at blank_before closing max_zero round_away round_byte value whole_number i32_of hex_at split_at exponent_at float_of f32_of trimmed ampersands zero_xat digits alpha_at colour_at split append records encode count names lookup lowered key_at part f32s i32s all_floats floats_in all_ints ints_in unless_long pair_of move_of fad_of fade_of ranged_of weight_of flag_of clip_of reset_of shaped is_fn is_named_reset plain_at param_at peel tag_at walk t_at parse text_ground read_ground answer
answers = refl

-- 01, Grounds: "Two faults: the lower number", for each two neighbours of 1, 2, 3, 4 and 9; the second is the number of places
abbrev answer_in : List ℕ × ℕ → Answer
answer_in r = answer r.0 (whole_text r.0) r.1

abbrev far_fade : String
far_fade = "\\fade(0,0,0,0,0,0,1000000001)"

abbrev Answers : List ((List ℕ × ℕ) × Answer) → Type 0
Answers rows = map (λ (r : (List ℕ × ℕ) × Answer). answer_in r.0) rows ≡ map (λ (r : (List ℕ × ℕ) × Answer). r.1) rows

pub two_faults : Answers (
    ((replicate 12289 128, 0), Err TextTooLong) ∷
    ((bytes "\\fs1e9" ++ (128 ∷ []), 0), Err (NotAscii 6)) ∷
    ((bytes far_fade ++ bytes "\\fs1e9", 1024), Err (NumeralTooLong 32)) ∷
    ((bytes far_fade ++ bytes "\\fs1e9", 0), Err (NumeralTooLong 32)) ∷
    ((bytes "\\fs1e9\\i1", 0), Err (NumeralTooLong 3)) ∷
    ((bytes "\\i1" ++ bytes far_fade, 0), Err (FadeTooFar 3)) ∷
    ((bytes "\\i1\\b1", 1), Err (NoRoom 2)) ∷
    [])
unfolding round to_bits to_signed span back skip skip_back blank_at blank_before closing max_zero round_away round_byte value whole_number i32_of hex_at split_at exponent_at float_of f32_of trimmed ampersands zero_xat digits alpha_at colour_at split append records encode count names lookup lowered key_at part f32s i32s all_floats floats_in all_ints ints_in unless_long pair_of move_of fad_of fade_of ranged_of weight_of flag_of clip_of reset_of shaped is_fn is_named_reset plain_at param_at peel tag_at walk t_at parse text_ground read_ground answer
two_faults = refl
