use lib.Ieee.{of_bits}
use Rattle.mix.proofs.Law.{finite_is}
use Rattle.mix.proofs.accel_of.Goals as goal

pub returns-else-is_finite : goal.returns-else-is_finite
unfolding of_bits
returns-else-is_finite c = rw (← finite_is c.args.a, ← c.is_finite.ensures.value, c.if-is_finite.false)
