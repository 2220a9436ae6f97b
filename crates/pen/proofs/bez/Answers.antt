use lib.Ieee.{of_bits}
use Rattle.pen.specs.Drawing.{weighed}
use mathlib.Core.Path.{refl}
use Rattle.pen.proofs.bez.Goals as goal

pub returns : goal.returns
unfolding weighed of_bits
returns c = refl
