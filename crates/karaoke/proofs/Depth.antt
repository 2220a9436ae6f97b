-- 02, N7: the spans beside a controller that allows T nested less deep.
use mathlib.Core.List.{List}
use Prim.Native.Nat.{ℕ}
use lib.ListN.{length}
use Rattle.refusal.specs.Refusal.{Checked}
use Rattle.refusal.specs.Answer.{Answer, room_for, unless_bad, table_after}
use Rattle.tag.specs.Depth.{AtLessDepth}
use Rattle.tag.proofs.Deeper.{stored, stored_by}
use Rattle.karaoke.specs.Answer.{spans_of, answer_to, places_of, laid_spans, words_after_to, both_to, both_refused}

-- the answer, with the words afterwards
pub spans-stored : (ws t : List ℕ) → AtLessDepth ws (λ k. both_to k ws t) (λ r. both_refused t r)
unfolding answer_to words_after_to
spans-stored ws t d h = stored_by both (stored ws h)
  where
    told : Checked → Answer
    told c = unless_bad c (room_for (length (spans_of ws)) (places_of t))

    both : Checked → Answer × List ℕ
    both c = (told c, table_after (told c) (laid_spans t (spans_of ws)) t)
