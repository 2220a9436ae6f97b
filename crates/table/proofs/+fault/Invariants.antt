use mathlib.Core.Path.{◌≡◌}
use Prim.Native.Nat.{◌+◌}
use Rattle.tag.specs.WellFormed.{fault as fault_of}
use Rattle.table.specs.Inner.{part}
use Rattle.table.proofs.+fault.Given as goal

-- fault
abbrev pub invariant-loop-left : goal.invariant-loop-left
invariant-loop-left l = (l.at + l.left ≡ l.from + l.count) × (fault_of l.deep l.at (part l.table l.at l.left) ≡ fault_of l.deep l.from (part l.table l.from l.count))

abbrev pub decreases-loop-left : goal.decreases-loop-left
decreases-loop-left l = l.left

abbrev pub decreases-fault : goal.decreases-fault
decreases-fault l = l.deep
