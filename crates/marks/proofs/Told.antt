-- What is promised of the next-mark call beside the equation: what stands for its answer, and that the mark is the earliest later one.
use mathlib.Core.Path.{◌≡◌, refl, ◌∙◌}
use mathlib.Core.List.{List}
use Prim.Native.Nat.{ℕ}
use lib.IntN.{ℤ}
use Rattle.std.specs.Prelude.{Option, None, Ok, Err}
use Rattle.std.specs.Result.{result_and}
use Rattle.refusal.specs.Answer.{Stands}
use Rattle.refusal.specs.Refusal.{Checked}
use Rattle.tag.specs.Decode.{tags_of}
use Rattle.table.specs.Ground.{call_ground, Fine}
use Rattle.table.proofs.Grounds.{fine-good}
use Rattle.marks.specs.Marks.{next_mark}
use Rattle.marks.specs.Answer.{Marked, marked_to, marked, ground_of, mark_of, MarkStands, Exact}
use Rattle.marks.proofs.Earliest.{next-earliest}

stands : (c : Checked) (m : Option ℤ) → Stands c None m (ground_of (result_and c (Ok m))) (mark_of (result_and c (Ok m)))
stands (Ok _) m = record { ground = refl; value = refl }
stands (Err r) m = record { ground = refl; value = refl }

pub told : (ws : List ℕ) (t dur : ℤ) (r : Marked) → r ≡ marked ws t dur → (r ≡ marked ws t dur) × (MarkStands ws t dur r × (Fine ws t dur → Exact ws t dur r))
unfolding marked_to
told ws t dur r e = (e, (rw e (stands (call_ground ws t dur) (next_mark t dur (tags_of ws))), λ f. record { answer = e ∙ rw (fine-good ws t dur f); earliest = next-earliest t dur (tags_of ws) }))
