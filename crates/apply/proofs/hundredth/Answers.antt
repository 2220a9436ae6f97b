use lib.Ieee.{of_bits, of_int}
use Rattle.state.specs.Apply.{hundredth}
use Rattle.apply.proofs.hundredth.Goals as goal

pub returns : goal.returns
unfolding hundredth of_int of_bits
returns c = rw c.f32_of_word.ensures
