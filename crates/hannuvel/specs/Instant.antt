-- The calls that are given a table and an instant: what their numbers say, and the words of the state.
use Rattle.std.specs.Prelude.{◌≡◌, List, ℕ, ℤ, get_or, Option, Some, None, Err}
use Rattle.float.specs.Float.{to_word, of_word}
use Rattle.tag.specs.Decode.{tags_of}
use Rattle.tag.specs.Depth.{AtLessDepth}
use Rattle.table.specs.Ground.{Fine}
use Rattle.evaluate.specs.Evaluate.{evaluated_to, evaluated, ground_of, state_after, OpacityWord}
use Rattle.marks.specs.Answer as Marks
use Rattle.marks.specs.Answer.{marked_to, marked, mark_of}
use Rattle.marks.specs.Marks.{Interval, marks, next_mark, Earliest}
use Rattle.hannuvel.specs.Packed.{word_value, Unpacks, Says}

-- ---- `hannuvel_evaluate_at`

-- what the call says: the number r, which has no extra and no value, and the lent words v before and u after; 02, N7, of controllers that
-- allow T nested less deep; and 02, N8, of the opacity, word 0
pub record EvaluatingCall (ws : List ℕ) (t dur : ℤ) (v : List ℕ) (r : ℕ) (u : List ℕ) : Type 0 where
  pub answered : Says r (ground_of (evaluated ws t dur)) 0 0
  pub state : u ≡ state_after (evaluated ws t dur) v
  pub stored : AtLessDepth ws (λ k. evaluated_to k ws t dur) (λ g. Err g)
  pub opacity : Fine ws t dur → OpacityWord ws (get_or u 0 0)

-- ---- `hannuvel_next_mark`

-- the extra, 1 where there is no mark, and the value, the mark in two's complement
abbrev pub mark_extra : Option ℤ → ℕ
mark_extra None = 1
mark_extra (Some a) = 0

abbrev pub mark_value : Option ℤ → ℕ
mark_value None = 0
mark_value (Some a) = to_word a

-- that r names the mark m: its value as an i32 is the mark
abbrev pub Names : ℕ → Option ℤ → Type 0
Names r None = Unpacks r 0 1 0
Names r (Some a) = Unpacks r 0 0 (to_word a) × (of_word (word_value r) ≡ a)

-- that r names m, or says that there is none, and that m is the earliest mark after t of those in l, or there is none
pub record NamesEarliest (l : List Interval) (t : ℤ) (r : ℕ) (m : Option ℤ) : Type 0 where
  pub names : Names r m
  pub earliest : Earliest l t m

-- what the call says: the number r, and on every well-formed table, both times being in range, the earliest later mark of its tags; and 02, N7, of
-- controllers that allow T nested less deep
pub record MarkingCall (ws : List ℕ) (t dur : ℤ) (r : ℕ) : Type 0 where
  pub answered : let m = marked ws t dur in Says r (Marks.ground_of m) (mark_extra (mark_of m)) (mark_value (mark_of m))
  pub exact : Fine ws t dur → NamesEarliest (marks dur (tags_of ws)) t r (next_mark t dur (tags_of ws))
  pub stored : AtLessDepth ws (λ k. marked_to k ws t dur) (λ g. Err g)
