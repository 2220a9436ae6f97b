use mir.Syntax.{w32}
use mir.ValLaws.{to_z-of_z}
use Rattle.hannuvel.proofs.InForce.{style_says}
use Rattle.hannuvel.proofs.hannuvel_style_in_force.Goals as goal

pub returns : goal.returns
returns c =
    let s = rw (to_z-of_z w32 c.args.t c.ranges.t, to_z-of_z w32 c.args.duration c.ranges.duration) at c.style_at.ensures in
    style_says _ _ _ _ _ (rw (← s) c.packed.ensures)
