-- 01, Karaoke: progress is within 0 to 1 always. (0 up to the start, 1 from the end on: Passing.antt.)
use mathlib.Core.Path.{◌≡◌, refl}
use mathlib.Core.Bool.{Bool, true, false}
use Prim.Native.Nat.{ℕ, ◌≤◌}
use native.Mathlib.Omega.{arith}
use lib.Dec.{T}
use lib.IntN.{ℤ, pos, ◌-ℤ◌}
use lib.Signed.{le_z}
use lib.Ieee.{binary32, fits, of_int}
use lib.Ieee.Fits.{div-fits}
use Rattle.scan.specs.Scan.{pick, either}
use Rattle.scan.proofs.Laws.{picked}
use Rattle.float.specs.Float.{zero, one, InUnit}
use Rattle.float.proofs.Unit.{Unit, unit-zero, unit-one, in_unit}
use Rattle.std.specs.Prelude.{Ok, Err}
use Rattle.std.specs.Result.{result_and}
use Rattle.refusal.specs.Refusal.{Checked}
use Rattle.state.specs.Mix.{quotient}
use Rattle.ramp.proofs.Between.{way, unit-between}
use Rattle.karaoke.specs.declared.KaraokeSpan.{KaraokeSpan}
use Rattle.karaoke.specs.Karaoke.{most_ms}
use Rattle.karaoke.specs.Progress.{whole, progress_in, instant_ground, progressed, progress_of}

-- whatever the two ends and the instant
unit_in : (start end : ℕ) (t : ℤ) → end ≤ most_ms → Unit (progress_in (pos start) (pos end) t)
unfolding progress_in
unit_in start end t m = go (le_z t (pos start)) (le_z (pos end) t) refl refl
  where
    go : (a b : Bool) → le_z t (pos start) ≡ a → le_z (pos end) t ≡ b → Unit (pick a zero (pick (either b (le_z (pos end) (pos start))) one (quotient (t -ℤ pos start) (pos end -ℤ pos start))))
    go true b p q = unit-zero
    go false true p q = unit-one
    go false false p q = let w = way (pos start) t (pos end) p q in picked Unit (le_z (pos end) (pos start)) one _ unit-one (unit-between (pos start) t (pos end) p q (omega (arith, w.0)))

-- and so of every span, beside a refusal too
pub progress_in-unit : (s : KaraokeSpan) (t : ℤ) → s.end_ms.0 ≤ most_ms → InUnit (progress_of (progressed s t))
unfolding progressed
progress_in-unit s t m = go (instant_ground t)
  where
    go : (c : Checked) → InUnit (progress_of (result_and c (Ok (progress_in (whole s.start_ms) (whole s.end_ms) t))))
    go (Ok _) = in_unit _ (unit_in s.start_ms.0 s.end_ms.0 t m)
    go (Err r) = in_unit zero unit-zero

-- ---- and an f32

pub progress_fits : (s : KaraokeSpan) (t : ℤ) → T (fits binary32 (progress_of (progressed s t)))
unfolding progressed progress_in quotient fits
progress_fits s t = go (instant_ground t)
  where
    start : ℤ
    start = whole s.start_ms

    end : ℤ
    end = whole s.end_ms

    go : (c : Checked) → T (fits binary32 (progress_of (result_and c (Ok (progress_in start end t)))))
    go (Ok _) = picked (λ x. T (fits binary32 x)) (le_z t start) zero _ tt (picked (λ x. T (fits binary32 x)) (either (le_z end t) (le_z end start)) one _ tt (div-fits binary32 (of_int binary32 (t -ℤ start)) (of_int binary32 (end -ℤ start))))
    go (Err r) = tt
