use Rattle.reset.proofs.Turns.{Looping}
use Rattle.reset.proofs.+reset_tags.Given as goal

-- reset_tags
abbrev pub invariant-loop-left : goal.invariant-loop-left
invariant-loop-left l = Looping l.t l.dur l.table l.first l.count l.initial.reset l.at l.left l.reset

abbrev pub decreases-loop-left : goal.decreases-loop-left
decreases-loop-left l = l.left

abbrev pub decreases-reset_tags : goal.decreases-reset_tags
decreases-reset_tags l = l.count
