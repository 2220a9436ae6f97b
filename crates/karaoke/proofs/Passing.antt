-- How far an instant is in a span: what each branch of the code finds.
use mathlib.Core.Path.{◌≡◌, refl, sym, ap, ◌∙◌}
use mathlib.Core.Bool.{Bool, true, false, true≢false}
use Prim.Native.Nat.{ℕ, ◌-◌, ◌≤◌, ◌<◌}
use native.Mathlib.Nat.{le_of_lt}
use native.Mathlib.Omega.{arith}
use lib.IntN.{ℤ, pos, negsuc}
use lib.Signed.{lt_z}
use lib.Ieee.{Float, of_bits, binary32}
use mir.Syntax.{w32}
use mir.Val.{SFits, to_z, of_z}
use mir.Facts.{to_z-of_z}
use borrow.Author.Tests.{le-leb, lt-leb, le-ltb}
use Rattle.scan.specs.Scan.{pick, both}
use Rattle.state.specs.Apply.{from_zero_lem}
use Rattle.state.specs.Mix.{quotient}
use Rattle.ramp.proofs.Ints.{dist_is}
use Rattle.float.specs.Float.{zero, InUnit}
use Rattle.refusal.specs.Answer.{Stands}
use Rattle.refusal.specs.declared.Refusal.{Refusal}
use Rattle.refusal.specs.declared.Refusal.TheVariants.{TimeOutOfRange}
use Rattle.std.specs.Prelude.{Ok, Err}
use Rattle.std.specs.Result.{result_and}
use Rattle.refusal.specs.Refusal.{Checked}
use Rattle.table.specs.Ground.{in_time, time_ground}
use Rattle.karaoke.specs.declared.KaraokeSpan.{KaraokeSpan}
use Rattle.karaoke.specs.Karaoke.{most_ms}
use Rattle.karaoke.specs.Progress.{whole, progress_in, instant_ground, Progressed, progressed, ground_of, progress_of, ProgressStands}
use Rattle.karaoke.proofs.Unit.{progress_in-unit}

-- before the line begins
pub before-all : (start end : ℕ) (t : ℤ) → lt_z t (pos 0) ≡ true → of_bits binary32 0 ≡ progress_in (pos start) (pos end) t
unfolding progress_in of_bits
before-all start end (pos n) h = absurd (true≢false (sym h ∙ le-ltb n 0 (omega arith)))
before-all start end (negsuc n) h = refl

-- an instant before the line begins counts as its beginning
from_begin : (start end : ℕ) (t : ℤ) → progress_in (pos start) (pos end) (pos (from_zero_lem t)) ≡ progress_in (pos start) (pos end) t
unfolding progress_in
from_begin start end (pos n) = refl
from_begin start end (negsuc n) = rw (le-leb 0 start (omega arith))

module _ (start end : ℕ) (t : ℤ) (n : ℕ) (e : n ≡ from_zero_lem t) where
  at : {x : Float} → x ≡ progress_in (pos start) (pos end) (pos n) → x ≡ progress_in (pos start) (pos end) t
  at h = h ∙ ap (λ (k : ℕ). progress_in (pos start) (pos end) (pos k)) e ∙ from_begin start end t

  pub up_to-start : n ≤ start → of_bits binary32 0 ≡ progress_in (pos start) (pos end) t
  unfolding progress_in of_bits
  up_to-start h = at (rw (le-leb n start h))

  module _ (h : start < n) where
    pub from_end : end ≤ n → of_bits binary32 0x3F800000 ≡ progress_in (pos start) (pos end) t
    unfolding progress_in of_bits
    from_end k = at (rw (lt-leb n start h, le-leb end n k))

    pub within : n < end → quotient (pos (n - start)) (pos (end - start)) ≡ progress_in (pos start) (pos end) t
    unfolding progress_in
    within k =
        let l : start < end = omega arith in
        at (rw (
          lt-leb n start h,
          lt-leb end n k,
          lt-leb end start l,
          dist_is (pos start) (pos n) (le-leb start n (le_of_lt h)),
          dist_is (pos start) (pos end) (le-leb start end (le_of_lt l)),
        ))

-- ---- the call

twice : (t : ℤ) → time_ground t t ≡ instant_ground t
unfolding time_ground
twice t = ap (λ (b : Bool). instant_or b) (same (in_time t))
  where
    instant_or : Bool → Checked
    instant_or b = pick b (Ok tt) (Err TimeOutOfRange)

    same : (b : Bool) → both b b ≡ b
    same true = refl
    same false = refl

module _ (s : KaraokeSpan) (t : ℤ) (f : SFits w32 t) {c : Checked} (e : c ≡ time_ground (to_z w32 (of_z w32 t)) (to_z w32 (of_z w32 t))) where
  found : c ≡ instant_ground t
  found = (rw (to_z-of_z f) at e) ∙ twice t

  pub refused : {r : Refusal} → c ≡ Err r → Err r ≡ progressed s t
  unfolding progressed
  refused k = ap (λ (b : Checked). result_and b (Ok (progress_in (whole s.start_ms) (whole s.end_ms) t))) (sym k ∙ found)

  pub passed : {x : Float} → c ≡ Ok tt → x ≡ progress_in (whole s.start_ms) (whole s.end_ms) (to_z w32 (of_z w32 t)) → Ok x ≡ progressed s t
  unfolding progressed
  passed k h = ap Ok (rw (to_z-of_z f) at h) ∙ ap (λ (b : Checked). result_and b (Ok (progress_in (whole s.start_ms) (whole s.end_ms) t))) (sym k ∙ found)

-- ---- what stands for the answer

stands : (c : Checked) (x : Float) → Stands c zero x (ground_of (result_and c (Ok x))) (progress_of (result_and c (Ok x)))
stands (Ok _) x = record { ground = refl; value = refl }
stands (Err r) x = record { ground = refl; value = refl }

pub told : (s : KaraokeSpan) (t : ℤ) {r : Progressed} → s.end_ms.0 ≤ most_ms → r ≡ progressed s t → (r ≡ progressed s t) × (ProgressStands s t r × InUnit (progress_of r))
unfolding progressed
told s t m e = (e, (rw e (stands (instant_ground t) (progress_in (whole s.start_ms) (whole s.end_ms) t)), rw e (progress_in-unit s t m)))
