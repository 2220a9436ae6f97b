use mathlib.Core.Path.{◌≡◌}
use Prim.Native.Nat.{◌-◌, ◌^◌, ◌<◌}
use Rattle.plain.specs.Names.{key_with, lowered}
use Rattle.plain.proofs.key_of.Given as goal

abbrev pub invariant-loop-i : goal.invariant-loop-i
invariant-loop-i l = (l.key < 256 ^ (l.i - l.from)) × (key_with 0 (lowered l.text (l.to - l.from) l.from) ≡ key_with l.key (lowered l.text (l.to - l.i) l.i))
