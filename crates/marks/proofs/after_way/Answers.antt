use Rattle.std.proofs.Common.{arith}
use Rattle.std.proofs.lemmas.Int.{to_z-of_z}
use Rattle.marks.proofs.After.{way-given}
use Rattle.marks.proofs.after_way.Goals as goal

pub returns-else-flag-eq0 : goal.returns-else-flag-eq0
returns-else-flag-eq0 c = grind (arith, to_z-of_z, way-given)
