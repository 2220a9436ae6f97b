use Rattle.std.proofs.Common.{rules, arith}
use Rattle.letters.proofs.Turning.{turn_none}
use mathlib.Core.Path.{refl}
use Rattle.pen.proofs.Strokes.{writes_none}
use Rattle.letters.proofs.command_turn.Goals as goal

pub returns-in-Line : goal.returns-in-Line
returns-in-Line c = rw c.in-Line.is (turn_none _ _ (omega arith) (search rules))

pub returns-in-Cubic : goal.returns-in-Cubic
returns-in-Cubic c = rw c.in-Cubic.is (turn_none _ _ (omega arith) (search rules))

pub returns-in-Basis : goal.returns-in-Basis
returns-in-Basis c = rw c.in-Basis.is (turn_none _ _ (omega arith) (search rules))

pub returns-in-Unknown : goal.returns-in-Unknown
returns-in-Unknown c = let w = c.skip_tail.ensures in rw c.in-Unknown.is (record { pen = refl; path = writes_none _ _; few = omega arith; rest = w.is; low = w.low; high = w.high })
