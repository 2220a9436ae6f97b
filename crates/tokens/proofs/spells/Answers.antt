use Rattle.tokens.proofs.Spelling.{spells-by}
use Rattle.tokens.proofs.spells.Goals as goal

pub returns : goal.returns
returns c = let a = c.args in let h = c.eq_ignore_ascii_case.ensures.test in spells-by a.text.now a.e c.requires.1 _ a.i c.requires.0 h
