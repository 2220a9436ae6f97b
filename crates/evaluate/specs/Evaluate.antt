-- What the calls answer: 01, Evaluation, and grounds 5 and 6.
use Rattle.std.specs.Prelude.{◌≡◌, List, ℕ, ◌≤◌, ℤ, Float, Result, Ok, Err}
use Rattle.std.specs.Float.{binary32}
use Rattle.std.specs.Float.Ieee.{of_bits}
use Rattle.refusal.specs.Answer.{Stands}
use Rattle.refusal.specs.Refusal.{Checked}
use Rattle.refusal.specs.declared.Refusal.{Refusal}
use Rattle.float.specs.Float.{one, InUnit}
use Rattle.tag.specs.declared.Record.{Record}
use Rattle.tag.specs.Tag.{most_depth}
use Rattle.tag.specs.WellFormed.{All, records_of}
use Rattle.tag.specs.Decode.{tags_of}
use Rattle.table.specs.Ground.{call_ground_to, call_ground}
use Rattle.state.specs.declared.RenderState.{RenderState}
use Rattle.state.specs.State.{identity}
use Rattle.state.specs.Apply.{evaluate_at}
use Rattle.words.specs.Words.{state_words}

-- the state, or the refusal
abbrev pub Evaluated : Type 0
Evaluated = Result RenderState Refusal

abbrev pub evaluated_or : Checked → RenderState → Evaluated
evaluated_or (Err r) st = Err r
evaluated_or (Ok _) st = Ok st

-- the state of the tags that the table stands for, unless the table or a time is at fault, as a controller that allows T nested at most d deep has it
unfoldable pub evaluated_to : ℕ → List ℕ → ℤ → ℤ → Evaluated
unfolding evaluate_at
evaluated_to d ws t dur = evaluated_or (call_ground_to d ws t dur) (evaluate_at t dur (tags_of ws))

-- at the depth that is allowed here
abbrev pub evaluated : List ℕ → ℤ → ℤ → Evaluated
evaluated ws t dur = evaluated_to most_depth ws t dur

-- the answer's ground, and the state, `identity` beside a refusal
abbrev pub ground_of : Evaluated → Checked
ground_of (Ok st) = Ok tt
ground_of (Err r) = Err r

abbrev pub state_of : Evaluated → RenderState
state_of (Ok st) = st
state_of (Err r) = identity

-- what stands for the answer to a table, an instant and a duration
abbrev pub StateStands : List ℕ → ℤ → ℤ → Evaluated → Type 0
StateStands ws t dur r = Stands (call_ground ws t dur) identity (evaluate_at t dur (tags_of ws)) (ground_of r) (state_of r)

-- ---- 02, N8: "Opacity between nothing and all"

-- the answer's opacity, 1 beside a refusal
abbrev pub opacity_of : Evaluated → Float
opacity_of r = (state_of r).always.alpha_mul

-- neither \fad nor \fade
abbrev pub NoFade : Record → Type 0
NoFade r = (r.kind ≡ 1 → ⊥) × (r.kind ≡ 2 → ⊥)

-- "no \fad or \fade stands at any depth": the records inside a T stand in the table behind it, so a table's records are the tags of every depth
abbrev pub NoFades : List ℕ → Type 0
NoFades ws = All NoFade (records_of ws)

-- what the opacity x of a table is: "from 0 to 1 for every well-formed table and all times in range, through any nesting and any
-- acceleration, and exactly 1 where no \fad or \fade stands at any depth"
pub record Opacity (ws : List ℕ) (x : Float) : Type 0 where
  pub unit : InUnit x
  pub plain : NoFades ws → x ≡ one

-- ---- as words

-- the words of the state; on a refusal every old word
abbrev pub state_after : Evaluated → List ℕ → List ℕ
state_after (Ok st) v = state_words st
state_after (Err r) v = v

-- 02, N8, of the first of these words: the bits of an opacity, as a number at most those of 1, and those of 1 where no \fad or \fade stands
pub record OpacityWord (ws : List ℕ) (w : ℕ) : Type 0 where
  pub opacity : Opacity ws (of_bits binary32 w)
  pub most : w ≤ 0x3F800000
  pub plain : NoFades ws → w ≡ 0x3F800000

-- what the call says: the ground c, and the lent words v before and u after
pub record InWords (ws : List ℕ) (t dur : ℤ) (v : List ℕ) (c : Checked) (u : List ℕ) : Type 0 where
  pub ground : c ≡ ground_of (evaluated ws t dur)
  pub state : u ≡ state_after (evaluated ws t dur) v
