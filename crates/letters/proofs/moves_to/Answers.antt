use Rattle.std.proofs.Common.{rules, arith}
use Rattle.letters.proofs.Turning.{turn_none, first-closed, first-inside, first-left, moves_some}
use Rattle.letters.proofs.moves_to.Goals as goal
use Rattle.letters.proofs.moves_to.Goals.{then-closes+then-stroke, else-closes, else-closes-via-then-closes+else-stroke, else-closes-via-else-closes}

pub returns-in_default : goal.returns-in_default
returns-in_default c = rw c.in_default.ensures (turn_none _ _ (omega arith) (search rules))

pub returns : goal.returns
returns c =
    moves_some _ _ c.in-Some.ensures
    (elim c.if-closes.branch [
      | then-closes+then-stroke w ↦ first-closed w.if-closes.true w.if-stroke.true w.stroke-is w.draw.ensures.path
      | else-closes w ↦ elim w.else-closes.branch [
        | else-closes-via-then-closes+else-stroke w' ↦ first-inside w'.if-closes.true w'.if-stroke.false w.stroke-is
        | else-closes-via-else-closes w' ↦ first-left _ w'.if-closes.false w.stroke-is
      ]
    ])
    c.draw-2.ensures
