use lib.Ieee.{of_bits}
use Rattle.state.specs.Mix.{held}
use Rattle.mix.proofs.Law.{finite_is}
use Rattle.mix.proofs.held.Goals as goal

pub returns-then-is_finite : goal.returns-then-is_finite
unfolding held of_bits
returns-then-is_finite c = rw (← finite_is c.args.k, ← c.is_finite.ensures.value, c.if-is_finite.true, c.clamp.ensures)
