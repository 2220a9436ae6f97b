use mathlib.Core.Path.{◌≡◌}
use Prim.Native.Nat.{◌-◌, min}
use Rattle.refusal.specs.Refusal.{most_places}
use Rattle.tag.specs.Table.{places_of}
use Rattle.karaoke.specs.Inner.{Passed}
use Rattle.karaoke.proofs.count_spans.Given as goal

abbrev pub invariant-loop-at : goal.invariant-loop-at
invariant-loop-at l = (l.end ≡ min (places_of l.table) most_places) × Passed l.table l.end 0 l.at l.n

abbrev pub decreases-loop-at : goal.decreases-loop-at
decreases-loop-at l = l.end - l.at
