use Rattle.std.proofs.Common.{arith}
use Rattle.std.proofs.lemmas.Int.{ints, to_z-of_z}
use lib.IntN.{+ℤ_one}
use Rattle.marks.proofs.after_ramp.Goals as goal

pub returns-then-last-b : goal.returns-then-last-b
returns-then-last-b c = grind (arith, ints, to_z-of_z, +ℤ_one)
