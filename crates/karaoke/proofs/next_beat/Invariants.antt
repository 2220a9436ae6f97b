use mathlib.Core.Path.{◌≡◌}
use Prim.Native.Nat.{◌-◌}
use lib.ListN.{length}
use Rattle.karaoke.specs.Inner.{beats_from}
use Rattle.karaoke.proofs.next_beat.Given as goal

-- the syllables from here on are those from the start on
abbrev pub invariant-loop-at : goal.invariant-loop-at
invariant-loop-at l = beats_from l.table l.at ≡ beats_from l.table l.from

abbrev pub decreases-loop-at : goal.decreases-loop-at
decreases-loop-at l = length l.table - l.at
