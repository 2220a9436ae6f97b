use Rattle.words.specs.Words.{option}
use Rattle.words.proofs.Laws.{flagged, no_flag, behind_flag}
use Rattle.words.proofs.put_option.Goals as goal

pub put-requires : goal.put-requires
put-requires g c = flagged 1 c.requires

pub returns-in-Some : goal.returns-in-Some
unfolding option
returns-in-Some g c = rw c.in-Some.is (behind_flag 1 _ c.put.ensures)

pub returns-in_default : goal.returns-in_default
unfolding option
returns-in_default g c = rw c.in_default.is (no_flag g.row.N c.requires)
