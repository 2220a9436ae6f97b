use Rattle.read.proofs.Parts.{braces_in}
use Rattle.hannuvel.proofs.Unpacked.{reading_says}
use Rattle.hannuvel.proofs.hannuvel_parse_raw_block.Goals as goal

pub returns : goal.returns
returns c =
    let a = c.parse_raw_block.ensures.answered in
    record { answered = reading_says _ _ _ (braces_in _) (rw (← a.reading) c.packed.ensures); table = a.table }
