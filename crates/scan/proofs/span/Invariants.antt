use mathlib.Core.Path.{◌≡◌}
use Rattle.scan.specs.Scan.{span_to}
use Rattle.scan.proofs.span.Given as goal

abbrev pub invariant-loop-i : goal.invariant-loop-i
invariant-loop-i g l = span_to (g.C.Class.holds l.class) l.text l.from l.to ≡ span_to (g.C.Class.holds l.class) l.text l.i l.to
