use mathlib.Core.Path.{◌≡◌}
use mathlib.Core.Bool.{true}
use Prim.Native.Nat.{ℕ, ◌+◌, ◌≤◌, ◌<◌}
use Rattle.survey.specs.Survey.{Exponent, ends_field}
use Rattle.survey.proofs.harmless.Given as goal

abbrev pub invariant-loop-k : goal.invariant-loop-k
invariant-loop-k l = (j : ℕ) → l.from ≤ j → j + 1 < l.k → Exponent l.text j → ends_field l.text (j + 1) l.to ≡ true → ⊥
