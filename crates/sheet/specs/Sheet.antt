-- 01, Sheet: its rows P, all under one theorem, each computed from the text by the definitions.
use Rattle.std.specs.Prelude.{◌≡◌, refl, List, [], ◌∷◌, map, ℕ, ℤ, pos, length, Float, Option, Some, None}
use Prim.Native.String.{String}
use Rattle.std.specs.Float.{binary32}
use Rattle.std.specs.Float.Ieee.{round, to_bits, of_bits, of_int, to_signed, add, mul, div, sum}
use Rattle.scan.specs.Scan.{bytes, span as span_of, back, skip, skip_back, blank_at, blank_before, closing}
use Rattle.float.specs.Float.{max_zero, round_away, round_byte}
use Rattle.numeral.specs.Numeral.{value, whole_number, i32_of, hex_at, split_at, exponent_at, float_of, f32_of}
use Rattle.colour.specs.Colour.{trimmed, ampersands, zero_xat, digits, alpha_at, colour_at}
use Rattle.lists.specs.Lists.{split}
use Rattle.tag.specs.declared.Record.{Record}
use Rattle.tag.specs.Tag.{Tags, append, count}
use Rattle.tag.specs.Table.{records, encode}
use Rattle.tag.specs.WellFormed.{All, all, more}
use Rattle.plain.specs.Names.{names, lookup, lowered, key_at}
use Rattle.plain.specs.Plain.{part, f32s, i32s, all_floats, floats_in, all_ints, ints_in, unless_long, pair_of, move_of, fad_of, fade_of, ranged_of, weight_of, flag_of, clip_of, reset_of, shaped, is_fn, is_named_reset, plain_at}
use Rattle.read.specs.Block.{param_at, peel, tag_at, walk as walk_block, t_at, parse}
use Rattle.read.specs.Reading.{whole_text, block_of}
use Rattle.state.specs.Apply.{apply_own, apply_tags, evaluate_at}
use Rattle.marks.specs.Marks.{Interval, single, marks, next_mark}
use Rattle.tag.specs.declared.KaraokeKind.{KaraokeKind}
use Rattle.tag.specs.declared.KaraokeKind.TheVariants.{Fill, Sweep}
use Rattle.karaoke.specs.declared.KaraokeSpan.{KaraokeSpan}
use Rattle.karaoke.specs.Karaoke.{ms, karaoke_spans}
use Rattle.tokens.specs.Tokens.{spells, special, token_of, word_end_lem, tokens, until_letter}
use Rattle.path.specs.Path.{path_command, command_words}
use Rattle.pen.specs.Drawing.{scale_of, scaled, weighed, command_of, letter_turn, walk}
use Rattle.drawing.specs.Answer.{drawing}

-- ---- the paper's words

-- the tags of a block
abbrev pub tags_in : String → Tags
tags_in text = (block_of (bytes text) (whole_text (bytes text))).tags

-- whole numbers and halves as f32
abbrev pub whole : ℕ → Float
whole n = of_int binary32 (pos n)

abbrev pub bits : ℕ → ℕ
bits n = to_bits binary32 (whole n)

abbrev pub half : Float
half = of_bits binary32 0x3F000000

-- a span, from one millisecond to another
abbrev pub span : KaraokeKind → ℕ → ℕ → KaraokeSpan
span k a b = record { kind = k; start_ms = ms a; end_ms = ms b }

-- a drawing's commands, each as the row of words that it is
abbrev pub move_to : ℕ → ℕ → List ℕ
move_to x y = path_command 1 (bits x) (bits y) 0 0 0 0 0

abbrev pub line_to : ℕ → ℕ → List ℕ
line_to x y = path_command 2 (bits x) (bits y) 0 0 0 0 0

abbrev pub cubic_to : ℕ → ℕ → ℕ → ℕ → ℕ → ℕ → List ℕ
cubic_to a b c d e f = path_command 3 (bits a) (bits b) (bits c) (bits d) (bits e) (bits f) 0

-- what a row says of a text; a number of milliseconds behind the text is the line's duration
pub data Row : Type 0 where
  -- the kinds of its records; how many there are
  kinds : String → List ℕ → Row
  counted : String → ℕ → Row
  -- the font size at instants; the opacity
  sizes : String → ℕ → List (ℕ × Float) → Row
  opacities : String → ℕ → List (ℕ × Float) → Row
  -- all its marks; the mark after instants
  marked : String → ℕ → List Interval → Row
  after : String → ℕ → List (ℕ × Option ℤ) → Row
  -- its karaoke spans
  sung : String → List KaraokeSpan → Row
  -- the primary colour
  coloured : String → ℕ → ℕ → ℕ → Row
  -- a drawing's commands, at a scale exponent
  drawn : String → ℕ → List (List ℕ) → Row

abbrev pub Holds : Row → Type 0
Holds (kinds text ks) = map (λ (r : Record). r.kind) (encode (tags_in text)) ≡ ks
Holds (counted text n) = length (encode (tags_in text)) ≡ n
Holds (sizes text dur at) = map (λ (p : ℕ × Float). (evaluate_at (pos p.0) (pos dur) (tags_in text)).sizes.font_size) at ≡ map (λ (p : ℕ × Float). Some p.1) at
Holds (opacities text dur at) = map (λ (p : ℕ × Float). (evaluate_at (pos p.0) (pos dur) (tags_in text)).always.alpha_mul) at ≡ map (λ (p : ℕ × Float). p.1) at
Holds (marked text dur is) = marks (pos dur) (tags_in text) ≡ is
Holds (after text dur at) = map (λ (p : ℕ × Option ℤ). next_mark (pos p.0) (pos dur) (tags_in text)) at ≡ map (λ (p : ℕ × Option ℤ). p.1) at
Holds (sung text spans) = karaoke_spans (tags_in text) ≡ spans
Holds (coloured text r g b) = (evaluate_at (pos 0) (pos 0) (tags_in text)).colors.primary_color ≡ Some (record { red = r; green = g; blue = b })
Holds (drawn text exponent cs) = map command_words (drawing (bytes text) exponent) ≡ cs

-- ---- the rows

abbrev pub rows : List Row
rows =
    -- `\fs20\t(0,1000,\fs40)`, duration 2000: three records, 10 / 49 / 10; size 20 at 0, 30 at 500, 40 at 1000
    kinds "\\fs20\\t(0,1000,\\fs40)" (10 ∷ 49 ∷ 10 ∷ []) ∷
    sizes "\\fs20\\t(0,1000,\\fs40)" 2000 ((0, whole 20) ∷ (500, whole 30) ∷ (1000, whole 40) ∷ []) ∷
    -- with `0,1000,2,` size 25 at 500; with `0,1000,0.5,` size 30 at 250
    sizes "\\fs20\\t(0,1000,2,\\fs40)" 2000 ((500, whole 25) ∷ []) ∷
    sizes "\\fs20\\t(0,1000,0.5,\\fs40)" 2000 ((250, whole 30) ∷ []) ∷
    -- `\fs20\t(500,500,\fs40)`: 20 at 499, 40 at 500; one mark, 500
    sizes "\\fs20\\t(500,500,\\fs40)" 2000 ((499, whole 20) ∷ (500, whole 40) ∷ []) ∷
    marked "\\fs20\\t(500,500,\\fs40)" 2000 (single (pos 500) ∷ []) ∷
    -- `\fad(200,300)`, duration 1000: 0 at 0, 0.5 at 100, 1 at 700, 0.5 at 850, 0 at 1000; mark after 200 is 701, after 1000 none
    opacities "\\fad(200,300)" 1000 ((0, whole 0) ∷ (100, half) ∷ (700, whole 1) ∷ (850, half) ∷ (1000, whole 0) ∷ []) ∷
    after "\\fad(200,300)" 1000 ((200, Some (pos 701)) ∷ (1000, None) ∷ []) ∷
    -- `\k50\kf25`: Fill 0–500, Sweep 500–750; `\t(\k10)`: no span
    sung "\\k50\\kf25" (span Fill 0 500 ∷ span Sweep 500 750 ∷ []) ∷
    sung "\\t(\\k10)" [] ∷
    -- `\1c&H0000FF&`: red 255, green 0, blue 0
    coloured "\\1c&H0000FF&" 255 0 0 ∷
    -- `\t(` eight times then `\b1`: nine records; 02, N7: nine times: ten
    counted "\\t(\\t(\\t(\\t(\\t(\\t(\\t(\\t(\\b1" 9 ∷
    counted "\\t(\\t(\\t(\\t(\\t(\\t(\\t(\\t(\\t(\\b1" 10 ∷
    -- `m 0 0 s 6 0 6 6 0 6`, exponent 1: move 0 0, line 5 1, cubic 6 2 6 4 5 5
    drawn "m 0 0 s 6 0 6 6 0 6" 1 (move_to 0 0 ∷ line_to 5 1 ∷ cubic_to 6 2 6 4 5 5 ∷ []) ∷
    []

-- every row holds
pub sheet : All Holds rows
unfolding round to_bits of_bits of_int to_signed add mul div sum span_of back skip skip_back blank_at blank_before closing max_zero round_away round_byte value whole_number i32_of hex_at split_at exponent_at float_of f32_of trimmed ampersands zero_xat digits alpha_at colour_at split append records encode count names lookup lowered key_at part f32s i32s all_floats floats_in all_ints ints_in unless_long pair_of move_of fad_of fade_of ranged_of weight_of flag_of clip_of reset_of shaped is_fn is_named_reset plain_at param_at peel tag_at walk_block t_at parse apply_own apply_tags evaluate_at marks next_mark karaoke_spans spells special token_of word_end_lem tokens until_letter scale_of scaled weighed command_of letter_turn walk
sheet = more refl (more refl (more refl (more refl (more refl (more refl (more refl (more refl (more refl (more refl (more refl (more refl (more refl (more refl all)))))))))))))
