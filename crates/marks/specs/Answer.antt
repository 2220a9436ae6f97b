-- What the next-mark call answers: 01, Marks, and grounds 5 and 6.
use Rattle.std.specs.Prelude.{◌≡◌, List, ℕ, ℤ, Option, None, Result, Ok, Err}
use Rattle.std.specs.Result.{result_and}
use Rattle.refusal.specs.Answer.{Stands}
use Rattle.refusal.specs.declared.Refusal.{Refusal}
use Rattle.refusal.specs.Refusal.{Checked}
use Rattle.tag.specs.Tag.{most_depth}
use Rattle.tag.specs.Decode.{tags_of}
use Rattle.table.specs.Ground.{call_ground_to, call_ground}
use Rattle.marks.specs.Marks.{marks, next_mark, Earliest}

-- what the call answers: the next mark after an instant, if there is one, or the refusal
abbrev pub Marked : Type 0
Marked = Result (Option ℤ) Refusal

-- the earliest later mark of the tags that the table stands for, unless the table or a time is at fault, as a controller that allows T nested at
-- most d deep has it
unfoldable pub marked_to : ℕ → List ℕ → ℤ → ℤ → Marked
unfolding next_mark
marked_to d ws t dur = result_and (call_ground_to d ws t dur) (Ok (next_mark t dur (tags_of ws)))

-- at the depth that is allowed here
abbrev pub marked : List ℕ → ℤ → ℤ → Marked
marked ws t dur = marked_to most_depth ws t dur

-- the answer's ground, and the mark, none beside a refusal
abbrev pub ground_of : Marked → Checked
ground_of (Ok m) = Ok tt
ground_of (Err r) = Err r

abbrev pub mark_of : Marked → Option ℤ
mark_of (Ok m) = m
mark_of (Err r) = None

-- what stands for the answer to a table, an instant and a duration
abbrev pub MarkStands : List ℕ → ℤ → ℤ → Marked → Type 0
MarkStands ws t dur r = Stands (call_ground ws t dur) None (next_mark t dur (tags_of ws)) (ground_of r) (mark_of r)

-- Demand 3, on every well-formed table, read or not: "Only for a well-formed table that was not so read are the marks those of the tags, at
-- every depth, that its records stand for". The call names the earliest later one of these, or says that there is none exactly where there is none.
pub record Exact (ws : List ℕ) (t dur : ℤ) (r : Marked) : Type 0 where
  pub answer : r ≡ Ok (next_mark t dur (tags_of ws))
  pub earliest : Earliest (marks dur (tags_of ws)) t (next_mark t dur (tags_of ws))
