use Rattle.std.proofs.Common.{rules, arith}
use Rattle.letters.proofs.Turning.{turn_none}
use Rattle.machine.proofs.bare_turn.Goals as goal

pub returns-in-Idle : goal.returns-in-Idle
returns-in-Idle c = rw c.in-Idle.is (turn_none _ _ (omega arith) (search rules))
