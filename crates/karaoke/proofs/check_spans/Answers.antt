use mathlib.Core.Path.{ap, ◌∙◌}
use Rattle.std.specs.Prelude.{Err}
use Rattle.std.proofs.lemmas.Result.{err_from_is_err_and}
use Rattle.karaoke.proofs.Filling.{refused-table, room_enough, room_lacking}
use Rattle.karaoke.proofs.check_spans.Goals as goal

pub returns-in_err-n : goal.returns-in_err-n
returns-in_err-n c = let p = err_from_is_err_and c.from_residual.result c.from_residual.ensures.1 in p.1 ∙ ap Err p.2 ∙ refused-table _ _ c.count_spans.ensures c.in_err-n.was

pub returns-then-n-min : goal.returns-then-n-min
returns-then-n-min c = room_enough _ _ c.count_spans.ensures c.in_ok-n.was c.min.ensures c.if-n-min.true

pub returns-else-n-min : goal.returns-else-n-min
returns-else-n-min c = room_lacking _ _ c.count_spans.ensures c.in_ok-n.was c.min.ensures c.if-n-min.false
