-- Worked examples, by computation.
use Rattle.std.specs.Prelude.{replicate, ◌≡◌, refl, [], ◌∷◌, negsuc, take, drop, Some}
use Rattle.std.specs.Float.Ieee.{to_bits}
use Rattle.state.specs.State.{identity, with_font, with_line, with_sizes, set_font_name, set_reset_to_style, set_drawing_baseline_offset}
use Rattle.words.specs.Words.{option, reset, state_words}

-- no override: the opacity and the two scales are 1.0, every other word 0
no-override : state_words identity ≡ 0x3F800000 ∷ 0 ∷ 0 ∷ 0 ∷ 0x3F800000 ∷ 0x3F800000 ∷ replicate 86 0
unfolding state_words option reset identity to_bits
no-override = refl

-- the font name stands at 70, \r with a name at 79, \pbo-3 at 88
font-name : take 5 (drop 70 (state_words (with_font identity (set_font_name identity.font (Some (record { letters = record { offset = 9; size = 1 }; parameter = record { offset = 20; size = 4 } })))))) ≡ 1 ∷ 9 ∷ 1 ∷ 20 ∷ 4 ∷ []
unfolding state_words option reset identity to_bits
font-name = refl

named : take 3 (drop 79 (state_words (with_line identity (set_reset_to_style identity.line (Some (Some (record { offset = 3; size = 2 }))))))) ≡ 2 ∷ 3 ∷ 2 ∷ []
unfolding state_words option reset identity to_bits
named = refl

pbo : take 2 (drop 88 (state_words (with_sizes identity (set_drawing_baseline_offset identity.sizes (Some (negsuc 2)))))) ≡ 1 ∷ 0xFFFFFFFD ∷ []
unfolding state_words option reset identity to_bits
pbo = refl
