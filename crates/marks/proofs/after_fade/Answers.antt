use Rattle.std.proofs.Common.{arith}
use Rattle.std.proofs.lemmas.Int.{to_z-of_z}
use Rattle.marks.proofs.after_fade.Goals as goal

pub returns : goal.returns
returns c = grind (arith, to_z-of_z)
