use mathlib.Core.Path.{ap, ◌∙◌}
use mir.Syntax.{w32}
use mir.ValLaws.{to_z-of_z}
use Rattle.std.specs.Prelude.{Err}
use Rattle.std.proofs.lemmas.Result.{err_from_is_err_and}
use Rattle.hannuvel.proofs.InForce.{style_is}
use Rattle.hannuvel.proofs.style_at.Goals as goal

pub returns-in_err-and : goal.returns-in_err-and
returns-in_err-and c =
    let a = c.args in
    let call = rw (to_z-of_z w32 a.t c.ranges.t, to_z-of_z w32 a.duration c.ranges.duration) at c.check_call.ensures in
    let p = err_from_is_err_and c.from_residual.result c.from_residual.ensures.1 in
    rw (style_is a.table.now a.t a.duration a.block.now a.own.now, ← c.check_texts.ensures, ← call, ← c.and.ensures, c.in_err-and.was) (p.1 ∙ ap Err p.2)

pub returns : goal.returns
returns c =
    let a = c.args in
    let call = rw (to_z-of_z w32 a.t c.ranges.t, to_z-of_z w32 a.duration c.ranges.duration) at c.check_call.ensures in
    let left = rw (to_z-of_z w32 a.t c.ranges.t, to_z-of_z w32 a.duration c.ranges.duration) at c.reset_left.ensures in
    rw (style_is a.table.now a.t a.duration a.block.now a.own.now, ← c.check_texts.ensures, ← call, ← c.and.ensures, c.in_ok-and.was, ← left) c.named_reset.ensures
