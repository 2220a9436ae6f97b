-- 02, N7: the next mark beside a controller that allows T nested less deep.
use mathlib.Core.List.{List}
use Prim.Native.Nat.{ℕ}
use lib.IntN.{ℤ}
use Rattle.std.specs.Prelude.{Ok, Err}
use Rattle.std.specs.Result.{result_and}
use Rattle.refusal.specs.Answer.{first_ground}
use Rattle.refusal.specs.Refusal.{Checked}
use Rattle.tag.specs.Decode.{tags_of}
use Rattle.tag.specs.Depth.{AtLessDepth}
use Rattle.tag.proofs.Deeper.{stored, stored_by}
use Rattle.table.specs.Ground.{time_ground, call_ground_to}
use Rattle.marks.specs.Marks.{next_mark}
use Rattle.marks.specs.Answer.{marked_to}

pub marked-stored : (ws : List ℕ) (t dur : ℤ) → AtLessDepth ws (λ k. marked_to k ws t dur) (λ r. Err r)
unfolding marked_to call_ground_to
marked-stored ws t dur d h = stored_by (λ (c : Checked). result_and (first_ground c (time_ground t dur)) (Ok (next_mark t dur (tags_of ws)))) (stored ws h)
