-- The answer of a call that fills a table: how many records or commands it wrote, or the refusal.
use Rattle.std.specs.Prelude.{◌≡◌, List, ℕ, min, leb, Result, Ok, Err}
use Rattle.scan.specs.Scan.{pick}
use Rattle.refusal.specs.declared.Refusal.TheVariants.{NoRoom}
use Rattle.refusal.specs.declared.Refusal.{Refusal}
use Rattle.refusal.specs.Refusal.{Checked, number_of, place_of, most_places}

-- what a call that fills a table answers: how many records or commands it wrote, or the refusal
abbrev pub Answer : Type 0
Answer = Result ℕ Refusal

-- 01, Grounds for turning a call down, "in checking order": of two checks, what the first finds, or else the second
abbrev pub first_ground : Checked → Checked → Checked
first_ground (Ok _) c = c
first_ground (Err r) c = Err r

-- ---- what stands for what a check finds

-- 01, Grounds for turning a call down: "Each gives its number and the stated place or count (else 0)": the number, 0 where no ground stands
abbrev pub number_in : Checked → ℕ
number_in (Ok _) = 0
number_in (Err r) = number_of r

-- "Beside it stand the state `identity`, progress 0, no mark, scale 1 or an empty part": x beside a ground, else the answer's own y
abbrev pub beside : {A : Type 0} → Checked → A → A → A
beside (Ok _) x y = y
beside (Err r) x y = x

-- What stands for an answer: the ground g that it names and the value v that it holds. The checks find c; x stands beside a ground, and
-- without one the value is y.
pub record Stands {A : Type 0} (c : Checked) (x y : A) (g : Checked) (v : A) : Type 0 where
  pub ground : g ≡ c
  pub value : v ≡ beside c x y

-- ---- a call that fills a table

abbrev pub ground_of : Answer → Checked
ground_of (Ok n) = Ok tt
ground_of (Err r) = Err r

-- how many were written; for a ground its place or count
abbrev pub answer_value : Answer → ℕ
answer_value (Ok n) = n
answer_value (Err r) = place_of r

-- 01, ground 9: "fewer places than needed (at most 1,024 places are counted)", on the number needed and the places there are
abbrev pub room_for : ℕ → ℕ → Answer
room_for n places = pick (leb n (min places most_places)) (Ok n) (Err (NoRoom n))

-- a check comes first
abbrev pub unless_bad : Checked → Answer → Answer
unless_bad (Err r) a = Err r
unless_bad (Ok _) a = a

-- the table afterwards: `new` where the call wrote, and on a refusal every old word
abbrev pub table_after : Answer → List ℕ → List ℕ → List ℕ
table_after (Ok n) new old = new
table_after (Err r) new old = old
