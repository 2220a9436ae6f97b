use Rattle.std.proofs.Common.{rules, arith}
use Rattle.letters.proofs.Turning.{turn_none, letter_turns}
use Rattle.pen.specs.Drawing.{letter_turn}
use mathlib.Core.Path.{sym, ◌∙◌}
use Rattle.letters.proofs.letter_turn.Goals as goal

pub returns-then-continues : goal.returns-then-continues
unfolding letter_turn
returns-then-continues c = rw (sym c.continues.ensures ∙ c.if-continues.true) (turn_none _ _ (omega arith) (search rules))

pub returns : goal.returns
returns c = letter_turns _ _ _ _ (sym c.continues.ensures ∙ c.if-continues.false) c.command_of.ensures c.settled-stroke.ensures c.command_turn.ensures
