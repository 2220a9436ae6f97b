use Prim.Native.Nat.{◌-◌, ◌≤◌, min}
use mathlib.Core.Path.{◌≡◌}
use Rattle.numeral.specs.Numeral.{value, most}
use Rattle.numeral.proofs.value.Given as goal

abbrev pub invariant-loop-i : goal.invariant-loop-i
invariant-loop-i l = (l.a ≤ most) × (min most (value l.radix l.text (l.to - l.from) l.from l.start) ≡ min most (value l.radix l.text (l.to - l.i) l.i l.a))
