use Rattle.drawing.proofs.Finite.{finite-drawing}
use Rattle.hannuvel.proofs.Unpacked.{drawing_says}
use Rattle.hannuvel.proofs.hannuvel_parse_drawing.Goals as goal

pub returns : goal.returns
returns c =
    let a = c.parse_drawing.ensures in
    record { answered = drawing_says _ _ _ (rw (← a.drawing) c.packed.ensures); path = a.path; finite = finite-drawing _ _ }
