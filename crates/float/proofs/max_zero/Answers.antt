use lib.Ieee.{of_bits}
use Rattle.float.specs.Float.{max_zero}
use Rattle.float.proofs.max_zero.Goals as goal

pub returns-then-x : goal.returns-then-x
unfolding max_zero of_bits
returns-then-x c = simp c.if-x.true

pub returns-else-x : goal.returns-else-x
unfolding max_zero of_bits
returns-else-x c = simp c.if-x.false
