use Rattle.evaluators.proofs.Checking.{Running}
use Prim.Native.Nat.{◌+◌, ◌-◌, ◌*◌}
use Rattle.evaluators.proofs.+tags.Given as goal

-- apply_tags
abbrev pub invariant-apply_tags-loop-at : goal.invariant-apply_tags-loop-at
invariant-apply_tags-loop-at l = Running l.t l.dur l.table l.deep l.first l.count l.initial.post l.end l.initial.out l.fault l.out l.at l.post

abbrev pub decreases-apply_tags-loop-at : goal.decreases-apply_tags-loop-at
decreases-apply_tags-loop-at l = l.end - l.at

abbrev pub decreases-apply_t : goal.decreases-apply_t
decreases-apply_t l = 2 * l.n + 1

abbrev pub decreases-apply_tags : goal.decreases-apply_tags
decreases-apply_tags l = 2 * l.count
