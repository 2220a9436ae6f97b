use Rattle.read.proofs.Parts.{whole_in}
use Rattle.hannuvel.proofs.Unpacked.{reading_says}
use Rattle.hannuvel.proofs.hannuvel_parse_overrides.Goals as goal

pub returns : goal.returns
returns c =
    let a = c.parse_overrides.ensures in
    record { answered = reading_says _ _ _ (whole_in _) (rw (← a.reading) c.packed.ensures); table = a.table }
