use mathlib.Core.Path.{ap, ◌∙◌}
use Rattle.std.proofs.Common.{rules}
use Rattle.std.specs.Prelude.{Err}
use Rattle.std.proofs.lemmas.Result.{err_from_is_err_and}
use Rattle.karaoke.proofs.Passing.{refused, passed, told}
use Rattle.karaoke.proofs.progress.Goals as goal

pub returns-in_err-check_times : goal.returns-in_err-check_times
returns-in_err-check_times c =
    let p = err_from_is_err_and c.from_residual.result c.from_residual.ensures.1 in
    let r = told _ _ (search rules) (p.1 ∙ ap Err p.2 ∙ refused _ _ c.ranges.t c.check_times.ensures c.in_err-check_times.was) in
    record { value = r.0; progress_stands = r.1.0; in_unit = r.1.1 }

pub returns : goal.returns
returns c =
    let r = told _ _ (search rules) (passed _ _ c.ranges.t c.check_times.ensures c.in_ok-check_times.was c.progress_in.ensures) in
    record { value = r.0; progress_stands = r.1.0; in_unit = r.1.1 }
