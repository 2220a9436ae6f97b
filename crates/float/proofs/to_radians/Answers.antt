use Rattle.std.specs.Float.Ieee.{of_bits, of_int}
use Rattle.float.specs.Float.{to_radians}
use Rattle.float.proofs.to_radians.Goals as goal

pub returns : goal.returns
unfolding to_radians of_bits of_int
returns c = c.to_radians.ensures
