-- Worked examples, by computation: the tokens of a text, and ground 3.
use Rattle.std.specs.Prelude.{◌≡◌, refl, List, [], ◌∷◌, map, false, pos, Ok, Err}
use Prim.Native.String.{String}
use Rattle.std.specs.Float.{fin}
use Rattle.std.specs.Float.Ieee.{round}
use Rattle.scan.specs.Scan.{bytes, span, skip, skip_back, blank_at, blank_before}
use Rattle.numeral.specs.Numeral.{value, split_at, exponent_at, float_of, f32_of}
use Rattle.refusal.specs.Refusal.{Checked}
use Rattle.refusal.specs.declared.Refusal.TheVariants.{NumeralTooLong}
use Rattle.tokens.specs.declared.Token.TheVariants.{Letter, Number, Refused, Other}
use Rattle.tokens.specs.Tokens.{spells, special, token_of, word_end_lem, tokens, from, tokens_ground}

-- M and p are letters; 3 and 1e2 are numbers; 1e9 and -Nan are refused, with their places; lm is neither
pub kinds : from (bytes "M 3  1e9 lm -Nan p 1e2") 0 ≡ Letter 77 ∷ Number (fin false 3 (pos 0)) ∷ Refused 5 ∷ Other ∷ Refused 12 ∷ Letter 112 ∷ Number (fin false 25 (pos 2)) ∷ []
unfolding round span skip skip_back blank_at blank_before value split_at exponent_at float_of f32_of spells special token_of word_end_lem tokens
kinds = refl

-- that each text has its ground 3
abbrev pub Grounds : List (String × Checked) → Type 0
Grounds rows = map (λ (r : String × Checked). tokens_ground (from (bytes r.0) 0)) rows ≡ map (λ (r : String × Checked). r.1) rows

pub grounds : Grounds (
    ("m 1 2 x 1e9 c", Err (NumeralTooLong 8)) ∷
    ("m 1 2 -iNf", Err (NumeralTooLong 6)) ∷
    ("m 1 +Infinity 2 nan", Err (NumeralTooLong 4)) ∷
    ("infinit nano +-inf 1e", Ok tt) ∷
    ("l 1e2 -2.5E-3", Ok tt) ∷
    ("1234567890 1e9", Err (NumeralTooLong 0)) ∷
    [])
unfolding round span skip skip_back blank_at blank_before value split_at exponent_at float_of f32_of spells special token_of word_end_lem tokens tokens_ground
grounds = refl
