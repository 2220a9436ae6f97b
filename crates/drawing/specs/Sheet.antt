-- Worked examples, by computation: a drawing and its commands, or its refusal.
use Rattle.std.specs.Prelude.{◌≡◌, refl, List, [], ◌∷◌, ◌++◌, map, ℕ, replicate, Ok, Err}
use Rattle.std.specs.Float.Ieee.{round, to_bits, of_int, add, mul, div, sum}
use Prim.Native.String.{String}
use Rattle.scan.specs.Scan.{bytes, span, skip, skip_back, blank_at, blank_before}
use Rattle.numeral.specs.Numeral.{value, split_at, exponent_at, float_of, f32_of}
use Rattle.path.specs.Path.{path_command, command_words}
use Rattle.refusal.specs.declared.Refusal.TheVariants.{TextTooLong, NotAscii, NumeralTooLong, ScaleTooLarge, NoRoom}
use Rattle.refusal.specs.Answer.{Answer}
use Rattle.tokens.specs.Tokens.{spells, special, token_of, word_end_lem, tokens, until_letter, tokens_ground}
use Rattle.pen.specs.Drawing.{scale_of, scaled, weighed, command_of, letter_turn, walk}
use Rattle.drawing.specs.Answer.{ground, drawing, answer}
use Rattle.refusal.specs.Refusal.{text_ground}

-- the rows of commands of the sheet, and some numbers as f32
abbrev move : ℕ → ℕ → List ℕ
move x y = path_command 1 x y 0 0 0 0 0

abbrev line : ℕ → ℕ → List ℕ
line x y = path_command 2 x y 0 0 0 0 0

abbrev cubic : ℕ → ℕ → ℕ → ℕ → ℕ → ℕ → List ℕ
cubic a b c d e f = path_command 3 a b c d e f 0

abbrev close : List ℕ
close = path_command 4 0 0 0 0 0 0 0

abbrev half : ℕ
half = 0x3F000000

abbrev n1 : ℕ
n1 = 0x3F800000

abbrev n2 : ℕ
n2 = 0x40000000

abbrev n3 : ℕ
n3 = 0x40400000

abbrev n4 : ℕ
n4 = 0x40800000

abbrev n5 : ℕ
n5 = 0x40A00000

abbrev n6 : ℕ
n6 = 0x40C00000

abbrev n100 : ℕ
n100 = 0x42C80000

-- a drawing's commands as the rows of words that they are
abbrev pub rows_of : String → ℕ → List (List ℕ)
rows_of text exponent = map command_words (drawing (bytes text) exponent)

-- that each drawing, at its exponent, has its commands
abbrev pub Draws : List (String × ℕ × List (List ℕ)) → Type 0
Draws rows = map (λ (r : String × ℕ × List (List ℕ)). rows_of r.0 r.1) rows ≡ map (λ (r : String × ℕ × List (List ℕ)). r.2) rows

-- 01, Sheet
pub sheet : rows_of "m 0 0 s 6 0 6 6 0 6" 1 ≡ move 0 0 ∷ line n5 n1 ∷ cubic n6 n2 n6 n4 n5 n5 ∷ []
unfolding round to_bits of_int add mul div sum span skip skip_back blank_at blank_before value split_at exponent_at float_of f32_of spells special token_of word_end_lem tokens until_letter scale_of scaled weighed command_of letter_turn walk
sheet = refl

pub paths : Draws (
    -- m closes an open subpath, n does not
    ("m 0 0 l 1 1 m 2 2", 1, move 0 0 ∷ line n1 n1 ∷ close ∷ move n2 n2 ∷ []) ∷
    ("m 0 0 l 1 1 n 2 2", 1, move 0 0 ∷ line n1 n1 ∷ move n2 n2 ∷ []) ∷
    -- spare pairs are lines; the exponent halves
    ("m 0 0 1 2 n 2 2 4 4", 2, move 0 0 ∷ line half n1 ∷ move n1 n1 ∷ line n2 n2 ∷ []) ∷
    -- c closes, and what is behind it is passed over; an unknown letter is passed over up to the next one
    ("c 1 1 x 2 2 3 ? l 4 4 5", 0, close ∷ line n4 n4 ∷ []) ∷
    -- 02, N4: a numeral with an exponent
    ("l 1e2 0", 1, line n100 0 ∷ []) ∷
    -- m without a point changes nothing
    ("l 1 1 m 5 ? 2 2", 1, line n1 n1 ∷ line n2 n2 ∷ []) ∷
    -- p continues a spline, P draws lines
    ("s 6 0 p 6 6 p 0 6", 1, line n5 n1 ∷ cubic n6 n2 n6 n4 n5 n5 ∷ []) ∷
    ("s 6 0 P 6 6", 1, line n6 n6 ∷ []) ∷
    -- three control points draw nothing
    ("s 6 0 6 6 l 1 2", 1, line n1 n2 ∷ []) ∷
    ("b 1 1 2 2 3 3 4 4 5 5 ? 1 1 2 2 3 3", 1, cubic n1 n1 n2 n2 n3 n3 ∷ cubic n1 n1 n2 n2 n3 n3 ∷ []) ∷
    [])
unfolding round to_bits of_int add mul div sum span skip skip_back blank_at blank_before value split_at exponent_at float_of f32_of spells special token_of word_end_lem tokens until_letter scale_of scaled weighed command_of letter_turn walk
paths = refl

-- that each drawing, at its exponent and with its places, has its answer
abbrev pub Answers : List (String × ℕ × ℕ × Answer) → Type 0
Answers rows = map (λ (r : String × ℕ × ℕ × Answer). answer (bytes r.0) r.1 r.2) rows ≡ map (λ (r : String × ℕ × ℕ × Answer). r.3) rows

pub answers : Answers (
    ("m 1 2", 1, 1, Ok 1) ∷
    ("m 1 2", 32, 1, Ok 1) ∷
    ("m 1 2 c", 33, 0, Err ScaleTooLarge) ∷
    ("m 1 2 c", 1, 1, Err (NoRoom 2)) ∷
    [])
unfolding round to_bits of_int add mul div sum span skip skip_back blank_at blank_before value split_at exponent_at float_of f32_of spells special token_of word_end_lem tokens until_letter scale_of scaled weighed command_of letter_turn walk text_ground tokens_ground ground answer
answers = refl

-- 01, Grounds: "Two faults: the lower number", for each two neighbours of 1, 2, 3, 7 and 9; behind the bytes the exponent and the number of places
abbrev answer_in : List ℕ × ℕ × ℕ → Answer
answer_in r = answer r.0 r.1 r.2

abbrev AnswersIn : List ((List ℕ × ℕ × ℕ) × Answer) → Type 0
AnswersIn rows = map (λ (r : (List ℕ × ℕ × ℕ) × Answer). answer_in r.0) rows ≡ map (λ (r : (List ℕ × ℕ × ℕ) × Answer). r.1) rows

pub two_faults : AnswersIn (
    ((replicate 12289 128, 33, 0), Err TextTooLong) ∷
    ((bytes "m 1 1e9" ++ (128 ∷ []), 33, 0), Err (NotAscii 7)) ∷
    ((bytes "m 1 2 x 1e9 c", 33, 0), Err (NumeralTooLong 8)) ∷
    ((bytes "m 1 2 1e9", 1, 0), Err (NumeralTooLong 6)) ∷
    ((bytes "m 1 2 c", 33, 0), Err ScaleTooLarge) ∷
    [])
unfolding round to_bits of_int add mul div sum span skip skip_back blank_at blank_before value split_at exponent_at float_of f32_of spells special token_of word_end_lem tokens until_letter scale_of scaled weighed command_of letter_turn walk text_ground tokens_ground ground answer
two_faults = refl
