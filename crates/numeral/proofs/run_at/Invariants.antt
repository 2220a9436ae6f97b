use mathlib.Core.Path.{◌≡◌}
use Prim.Native.Nat.{ℕ, ◌+◌, ◌-◌, ◌*◌, ◌^◌, ◌<◌, ◌≤◌}
use Rattle.scan.specs.Scan.{span_to}
use Rattle.numeral.specs.Numeral.{value, is_digit}
use Rattle.numeral.proofs.run_at.Given as goal

abbrev pub invariant-loop-i : goal.invariant-loop-i
invariant-loop-i l =
    (span_to is_digit l.text l.from l.to ≡ span_to is_digit l.text l.i l.to) × (l.a < (l.start + 1) * 10 ^ (l.i - l.from)) × ((j : ℕ) → l.i ≤ j → value 10 l.text (j - l.from) l.from l.start ≡ value 10 l.text (j - l.i) l.i l.a)
