use Rattle.tokens.specs.Tokens.{from, tokens_ground}
use lib.ListN.{length}
use Prim.Native.Nat.{◌≤◌, ◌-◌}
use mathlib.Core.Path.{◌≡◌}
use Rattle.tokens.proofs.check_tokens.Given as goal

abbrev pub invariant-loop-t : goal.invariant-loop-t
invariant-loop-t l = (l.i ≤ length l.text) × (tokens_ground (from l.text 0) ≡ tokens_ground (from l.text l.i))

abbrev pub decreases-loop-t : goal.decreases-loop-t
decreases-loop-t l = length l.text - l.i
