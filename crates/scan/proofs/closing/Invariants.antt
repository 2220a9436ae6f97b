use Rattle.scan.specs.Scan.{closing_to}
use Prim.Native.Nat.{◌+◌, ◌-◌, ◌≤◌, ◌<◌}
use mathlib.Core.Path.{◌≡◌}
use Rattle.scan.proofs.closing.Given as goal

abbrev pub invariant-loop-i : goal.invariant-loop-i
invariant-loop-i l = (l.from ≤ l.i) × (l.i ≤ l.to) × (0 < l.k) × (l.k ≤ l.i - l.from + 1) × (closing_to l.text l.from l.to 1 ≡ closing_to l.text l.i l.to l.k)

abbrev pub decreases-loop-i : goal.decreases-loop-i
decreases-loop-i l = l.to - l.i
