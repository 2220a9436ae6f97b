use Prim.Native.Nat.{ℕ, ◌+◌, ◌≤◌, ◌<◌}
use Rattle.survey.specs.Survey.{Ten}
use Rattle.survey.proofs.no_ten.Given as goal

abbrev pub invariant-loop-k : goal.invariant-loop-k
invariant-loop-k l = (j : ℕ) → l.from ≤ j → j + 9 < l.k → j + 10 ≤ l.to → Ten l.text j → ⊥
