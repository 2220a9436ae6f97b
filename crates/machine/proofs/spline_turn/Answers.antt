use Rattle.std.proofs.Common.{rules, arith}
use Rattle.letters.proofs.Turning.{turn_none}
use Rattle.machine.proofs.spline_turn.Goals as goal

pub returns-in_default : goal.returns-in_default
returns-in_default c = rw (c.in_default.ensures, c.requires.2) (turn_none _ _ (omega arith) (search rules))
