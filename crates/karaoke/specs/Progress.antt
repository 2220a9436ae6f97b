-- 01, Karaoke: `progress` of a span at an instant, and ground 6.
use Rattle.std.specs.Prelude.{ℤ, pos, ◌-ℤ◌, Float, Result, Ok, Err}
use Rattle.std.specs.Int.Signed.{le_z}
use Rattle.scan.specs.Scan.{pick, either}
use Rattle.float.specs.Float.{zero, one}
use Rattle.std.specs.Result.{result_and}
use Rattle.refusal.specs.Answer.{Stands}
use Rattle.refusal.specs.Refusal.{Checked}
use Rattle.refusal.specs.declared.Refusal.{Refusal}
use Rattle.refusal.specs.declared.Refusal.TheVariants.{TimeOutOfRange}
use Rattle.table.specs.Ground.{in_time}
use Rattle.state.specs.Mix.{quotient}
use Rattle.karaoke.specs.declared.Ms.{Ms}
use Rattle.karaoke.specs.declared.KaraokeSpan.{KaraokeSpan}

-- milliseconds as a whole number: "Here they compare as whole numbers"
abbrev pub whole : Ms → ℤ
whole m = pos m.0

-- How much of a span from start to end lies behind t: 0 up to the start, 1 from the end on, between them the quotient of both as the
-- nearest f32.
unfoldable pub progress_in : ℤ → ℤ → ℤ → Float
unfolding quotient
progress_in start end t = pick (le_z t start) zero (pick (either (le_z end t) (le_z end start)) one (quotient (t -ℤ start) (end -ℤ start)))

-- ground 6 of an instant alone
abbrev pub instant_ground : ℤ → Checked
instant_ground t = pick (in_time t) (Ok tt) (Err TimeOutOfRange)

-- what the call answers
abbrev pub Progressed : Type 0
Progressed = Result Float Refusal

-- how much of the span lies behind the instant, unless that is at fault
unfoldable pub progressed : KaraokeSpan → ℤ → Progressed
unfolding progress_in
progressed s t = result_and (instant_ground t) (Ok (progress_in (whole s.start_ms) (whole s.end_ms) t))

-- the answer's ground, and the progress, 0 beside a refusal
abbrev pub ground_of : Progressed → Checked
ground_of (Ok x) = Ok tt
ground_of (Err r) = Err r

abbrev pub progress_of : Progressed → Float
progress_of (Ok x) = x
progress_of (Err r) = zero

-- what stands for the answer to a span and an instant
abbrev pub ProgressStands : KaraokeSpan → ℤ → Progressed → Type 0
ProgressStands s t r = Stands (instant_ground t) zero (progress_in (whole s.start_ms) (whole s.end_ms) t) (ground_of r) (progress_of r)
