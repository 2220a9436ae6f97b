use Prim.Native.Nat.{◌-◌}
use Rattle.karaoke.specs.Inner.{Passed}
use Rattle.karaoke.proofs.past_beats.Given as goal

abbrev pub invariant-loop-at : goal.invariant-loop-at
invariant-loop-at l = Passed l.table l.end l.from l.at (l.at - l.from)
