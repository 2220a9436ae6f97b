use mathlib.Core.Path.{◌≡◌}
use Rattle.scan.specs.Scan.{back_to}
use Rattle.scan.proofs.span_back.Given as goal

abbrev pub invariant-loop-i : goal.invariant-loop-i
invariant-loop-i g l = back_to (g.C.Class.holds l.class) l.text l.from l.to ≡ back_to (g.C.Class.holds l.class) l.text l.from l.i
