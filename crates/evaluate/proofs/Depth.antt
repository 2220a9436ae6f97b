-- 02, N7: evaluation beside a controller that allows T nested less deep.
use mathlib.Core.List.{List}
use Prim.Native.Nat.{ℕ}
use lib.IntN.{ℤ}
use Rattle.std.specs.Prelude.{Err}
use Rattle.refusal.specs.Answer.{first_ground}
use Rattle.refusal.specs.Refusal.{Checked}
use Rattle.tag.specs.Decode.{tags_of}
use Rattle.tag.specs.Depth.{AtLessDepth}
use Rattle.tag.proofs.Deeper.{stored, stored_by}
use Rattle.table.specs.Ground.{time_ground, call_ground_to}
use Rattle.state.specs.Apply.{evaluate_at}
use Rattle.evaluate.specs.Evaluate.{evaluated_or, evaluated_to}

pub evaluated-stored : (ws : List ℕ) (t dur : ℤ) → AtLessDepth ws (λ k. evaluated_to k ws t dur) (λ r. Err r)
unfolding evaluated_to call_ground_to
evaluated-stored ws t dur d h = stored_by (λ (c : Checked). evaluated_or (first_ground c (time_ground t dur)) (evaluate_at t dur (tags_of ws))) (stored ws h)
