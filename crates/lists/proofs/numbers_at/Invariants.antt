use Prim.Native.Nat.{◌-◌, ◌≤◌}
use Rattle.lists.specs.Inner.{items_to}
use Rattle.lists.proofs.Laws.{Listing}
use Rattle.lists.proofs.numbers_at.Given as goal

abbrev pub invariant-loop-numbers : goal.invariant-loop-numbers
invariant-loop-numbers l = (l.p ≤ l.i) × (l.i ≤ l.e) × (l.numbers.count ≤ l.i - l.p) × Listing (items_to l.whole l.text l.p l.e) (items_to l.whole l.text l.i l.e) l.numbers

abbrev pub decreases-loop-numbers : goal.decreases-loop-numbers
decreases-loop-numbers l = l.e - l.i
