-- 01, Grounds for turning a call down: 6, and 5 before it.
use Rattle.std.specs.Prelude.{◌≡◌, List, Bool, true, ℕ, ℤ, pos, neg_ℤ, Ok, Err}
use Rattle.std.specs.Int.Signed.{le_z}
use Rattle.scan.specs.Scan.{pick, both}
use Rattle.float.specs.Float.{reach}
use Rattle.refusal.specs.Refusal.{Checked}
use Rattle.refusal.specs.declared.Refusal.TheVariants.{TimeOutOfRange}
use Rattle.refusal.specs.Answer.{first_ground}
use Rattle.tag.specs.Tag.{most_depth}
use Rattle.tag.specs.WellFormed.{WellFormed, table_ground_to}

-- "within ±1,000,000,000"
abbrev pub in_time : ℤ → Bool
in_time z = both (le_z (neg_ℤ (pos reach)) z) (le_z z (pos reach))

-- ground 6 of an instant and a duration
unfoldable pub time_ground : ℤ → ℤ → Checked
time_ground t dur = pick (both (in_time t) (in_time dur)) (Ok tt) (Err TimeOutOfRange)

-- "In range means within ±1,000,000,000"
abbrev pub InTime : ℤ → Type 0
InTime z = in_time z ≡ true

-- that neither stands against a call: its table is well formed, its instant and its duration are in range
pub record Fine (ws : List ℕ) (t dur : ℤ) : Type 0 where
  pub formed : WellFormed ws
  pub instant : InTime t
  pub duration : InTime dur

-- grounds 5 and 6 of a call that is given a table, an instant and a duration, as a controller that allows T nested at most d deep gives them
unfoldable pub call_ground_to : ℕ → List ℕ → ℤ → ℤ → Checked
call_ground_to d ws t dur = first_ground (table_ground_to d ws) (time_ground t dur)

-- at the depth that is allowed here
abbrev pub call_ground : List ℕ → ℤ → ℤ → Checked
call_ground ws t dur = call_ground_to most_depth ws t dur
