use Rattle.scan.specs.Scan.{trim_end}
use Prim.Native.Nat.{◌-◌, ◌≤◌}
use mathlib.Core.Path.{◌≡◌}
use Rattle.scan.proofs.trim_end.Given as goal

abbrev pub invariant-loop-from : goal.invariant-loop-from
invariant-loop-from l = (l.from ≤ l.e) × (l.e ≤ l.to) × (trim_end l.text l.from l.to ≡ trim_end l.text l.from l.e)

abbrev pub decreases-loop-from : goal.decreases-loop-from
decreases-loop-from l = l.e - l.from
