use Rattle.tokens.proofs.Words.{token_number}
use Rattle.tokens.specs.Tokens.{token_of}
use mathlib.Core.Path.{sym, ◌∙◌}
use Rattle.tokens.proofs.token_of.Goals as goal

pub returns-in-Word : goal.returns-in-Word
unfolding token_of
returns-in-Word c = rw (sym c.one_letter.ensures ∙ c.if-one_letter.false, sym c.special.ensures ∙ c.if-special.false) (token_number _ _ _ _ _ c.in-Word.ensures c.f32_of_word.ensures)
