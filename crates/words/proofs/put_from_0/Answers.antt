use Rattle.words.proofs.Laws.{next}
use Rattle.words.proofs.put_from_0.Goals as goal

pub returns : goal.returns
returns c = next (next (next (next (next (next (next (next c.put.ensures c.put-2.ensures) c.put-3.ensures) c.put-4.ensures) c.put-5.ensures) c.put_option.ensures) c.put-6.ensures) c.put_option-2.ensures) c.put_option-3.ensures
