use mathlib.Core.Path.{◌≡◌}
use Prim.Native.Nat.{◌-◌, ◌≤◌}
use Rattle.scan.specs.Scan.{skip_to}
use Rattle.colour.specs.Colour.{zero_xat}
use Rattle.colour.proofs.past_zero_x.Given as goal

abbrev pub invariant-loop-from : goal.invariant-loop-from
invariant-loop-from l = (l.from ≤ l.i) × (l.i ≤ l.to) × (skip_to zero_xat l.text l.from l.to ≡ skip_to zero_xat l.text l.i l.to)

abbrev pub decreases-loop-from : goal.decreases-loop-from
decreases-loop-from l = l.to - l.i
