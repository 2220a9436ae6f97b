use mathlib.Core.Logic.{⊎_elim}
use Rattle.machine.proofs.Grounds.{letter_known, letter_unknown, number-ground, refused-ground, other-ground}
use Rattle.machine.proofs.turn_ground.Goals as goal

pub returns-in-Unknown : goal.returns-in-Unknown
returns-in-Unknown c = λ k pen. rw c.in-Letter.is (rw c.tail_ground.ensures (letter_unknown k pen _ c.in-Letter.b (cc)))

pub returns-in_default : goal.returns-in_default
returns-in_default c = λ k pen. rw c.in-Letter.is (letter_known k pen _ _ _ c.command_of.ensures c.in_default.not-Unknown)

pub returns-in-Refused : goal.returns-in-Refused
returns-in-Refused c = λ k pen. rw c.in-Refused.is (refused-ground k pen _ _)

pub returns-in-Number : goal.returns-in-Number
returns-in-Number c = λ k pen. ⊎_elim (λ z. rw z.1 (number-ground k pen _ z.0)) (λ z. rw z (other-ground k pen _)) c.in-Number.is
