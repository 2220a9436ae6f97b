use Rattle.words.proofs.Laws.{next}
use Rattle.words.proofs.put_from_18.Goals as goal

pub returns : goal.returns
returns c = next (next (next (next (next (next (next (next c.put_option.ensures c.put_option-2.ensures) c.put_option-3.ensures) c.put_option-4.ensures) c.put_option-5.ensures) c.put.ensures) c.put-2.ensures) c.put_option-6.ensures) c.put_option-7.ensures
