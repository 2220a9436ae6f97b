use Rattle.tokens.specs.Tokens.{from, tail, tokens_ground}
use lib.ListN.{length}
use Prim.Native.Nat.{◌≤◌, ◌-◌}
use mathlib.Core.Path.{◌≡◌}
use Rattle.tokens.proofs.tail_ground.Given as goal

abbrev pub invariant-loop-t : goal.invariant-loop-t
invariant-loop-t l = (l.at ≤ length l.text) × (tokens_ground (tail (from l.text l.i)) ≡ tokens_ground (tail (from l.text l.at)))

abbrev pub decreases-loop-t : goal.decreases-loop-t
decreases-loop-t l = length l.text - l.at
