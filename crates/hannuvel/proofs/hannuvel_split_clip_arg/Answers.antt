use Rattle.hannuvel.proofs.Unpacked.{clip_says}
use Rattle.hannuvel.proofs.hannuvel_split_clip_arg.Goals as goal

pub returns : goal.returns
returns c = clip_says _ (rw (← c.clip_at.ensures.is) c.packed.ensures)
