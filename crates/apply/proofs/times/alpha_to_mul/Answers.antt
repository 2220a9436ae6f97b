use lib.Ieee.{of_bits, of_int}
use Rattle.state.specs.Apply.{alpha_to_mul}
use Rattle.apply.proofs.times.alpha_to_mul.Goals as goal

pub returns : goal.returns
unfolding alpha_to_mul of_bits of_int
returns c = rw c.from.ensures
