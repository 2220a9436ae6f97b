use Rattle.tokens.specs.Tokens.{from, until_letter}
use lib.ListN.{length}
use Prim.Native.Nat.{◌≤◌, ◌-◌}
use mathlib.Core.Path.{◌≡◌}
use Rattle.tokens.proofs.skip_tail.Given as goal

abbrev pub invariant-loop-t : goal.invariant-loop-t
invariant-loop-t l = (l.i ≤ l.at) × (l.at ≤ length l.text) × (until_letter (from l.text l.i) ≡ until_letter (from l.text l.at))

abbrev pub decreases-loop-t : goal.decreases-loop-t
decreases-loop-t l = length l.text - l.at
