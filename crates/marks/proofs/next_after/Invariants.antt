use mathlib.Core.Path.{◌≡◌}
use Rattle.tag.specs.Decode.{tags_of}
use Rattle.marks.specs.Marks.{least, next_mark}
use Rattle.marks.proofs.Walk.{from}
use Rattle.marks.proofs.next_after.Given as goal

-- what is found so far and what the rest holds are together the next mark of all
abbrev pub invariant-loop-at : goal.invariant-loop-at
invariant-loop-at l = least l.next (from l.t l.dur l.table l.at) ≡ next_mark l.t l.dur (tags_of l.table)
