use Rattle.tokens.proofs.Words.{word_none, word_next}
use Rattle.tokens.proofs.next_token.Goals as goal

pub returns-in_err-a : goal.returns-in_err-a
returns-in_err-a c = rw c.from_residual.ensures (word_none _ _ c.in_err-a.ensures)

pub token_of-requires : goal.token_of-requires
token_of-requires c = let w = c.in_ok-a.ensures in (w.wide, w.high)

pub returns : goal.returns
returns c = word_next c.in_ok-a.ensures c.token_of.ensures
