use lib.Ieee.{of_bits, nan_bits}
use Rattle.leaves.proofs.rooted.Goals as goal

pub returns-then-x : goal.returns-then-x
unfolding of_bits nan_bits
returns-then-x c = rw c.if-x.true
