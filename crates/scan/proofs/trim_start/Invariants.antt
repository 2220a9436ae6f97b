use Rattle.scan.specs.Scan.{trim_start}
use Prim.Native.Nat.{◌-◌, ◌≤◌}
use mathlib.Core.Path.{◌≡◌}
use Rattle.scan.proofs.trim_start.Given as goal

abbrev pub invariant-loop-from : goal.invariant-loop-from
invariant-loop-from l = (l.from ≤ l.i) × (l.i ≤ l.to) × (trim_start l.text l.from l.to ≡ trim_start l.text l.i l.to)

abbrev pub decreases-loop-from : goal.decreases-loop-from
decreases-loop-from l = l.to - l.i
