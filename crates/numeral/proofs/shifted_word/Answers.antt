use Rattle.numeral.proofs.shifted_word.Goals as goal

pub returns : goal.returns
returns c = rw (c.shifted_word.ensures, c.past.ensures.is)
