use Rattle.table.proofs.FloatWords.{word_reach}
use Rattle.table.proofs.is_float.Goals as goal

pub returns : goal.returns
returns c = word_reach c.args.w
