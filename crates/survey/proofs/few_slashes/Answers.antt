use native.Mathlib.Nat.{le_trans}
use Rattle.survey.proofs.Laws.{slashes-most}
use Rattle.survey.proofs.few_slashes.Goals as goal

pub returns-then-to-from : goal.returns-then-to-from
returns-then-to-from c h = le_trans (slashes-most c.args.text.now _ _) c.if-to-from.true
