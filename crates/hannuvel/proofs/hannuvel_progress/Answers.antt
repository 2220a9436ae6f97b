use Rattle.hannuvel.proofs.Spans.{progress_says}
use mir.Syntax.{w32}
use mir.ValLaws.{to_z-of_z}
use Rattle.hannuvel.proofs.hannuvel_progress.Goals as goal

pub returns : goal.returns
returns c =
    let e = rw (to_z-of_z w32 c.args.t c.ranges.t, c.span_from.ensures) at c.progress.ensures.value in
    record { answered = progress_says _ _ (rw (← e) c.packed.ensures) }
