use Rattle.numeral.proofs.decimal_word.Goals as goal

pub returns : goal.returns
returns c = rw (c.decimal_word.ensures, c.past.ensures.is)
