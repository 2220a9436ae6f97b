use Rattle.mix.proofs.Law.{near_is}
use Rattle.mix.proofs.near_zero.Goals as goal

pub returns : goal.returns
returns c = rw c.abs.ensures.value (near_is _)
