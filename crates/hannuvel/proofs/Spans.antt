-- Of what the karaoke calls return, the three functions of include/hannuvel.h give back the ground, the extra and the value whole.
use mathlib.Core.Path.{◌≡◌, refl}
use mathlib.Core.List.{List}
use Prim.Native.Nat.{ℕ, ◌≤◌, min}
use native.Mathlib.Nat.{le_trans, lt_of_lt_of_le}
use lib.Dec.{T, leb, lit<, lit≤}
use lib.IntN.{ℤ}
use lib.Ieee.{Float, binary32, fits}
use lib.Ieee.Bits.{to_bits-lt}
use lib.ListN.{length}
use Rattle.scan.proofs.Laws.{picked}
use Rattle.rows.specs.Rows.{bits}
use Rattle.refusal.specs.Refusal.{Checked, number_of, place_of, most_places}
use Rattle.refusal.specs.declared.Refusal.TheVariants.{TimeOutOfRange}
use Rattle.std.specs.Prelude.{Ok, Err}
use Rattle.refusal.proofs.Laws.{place_in}
use Rattle.refusal.specs.Answer.{Answer, room_for, unless_bad, answer_value}
use Rattle.tag.specs.WellFormed.{table_ground}
use Rattle.table.specs.Ground.{in_time}
use Rattle.karaoke.specs.declared.KaraokeSpan.{KaraokeSpan}
use Rattle.karaoke.specs.Answer.{spans_of, answer_to, answer}
use Rattle.karaoke.specs.Progress as Progress
use Rattle.karaoke.specs.Progress.{Progressed, whole, progress_in, instant_ground, progressed, progress_of}
use Rattle.std.specs.Result.{result_and}
use Rattle.karaoke.proofs.Filling.{few-spans}
use Rattle.karaoke.proofs.Unit.{progress_fits}
use Rattle.hannuvel.specs.Packed.{Says, SaysAnswer}
use Rattle.hannuvel.specs.Inner.{answer_word, count_word, progress_word}
use Rattle.hannuvel.proofs.Unpacked.{unpacked, plain, Low, table-low}

-- ---- `hannuvel_karaoke_spans`

small : (ws : List ℕ) (places : ℕ) (c : Checked) → table_ground ws ≡ c → Low c → answer_value (unless_bad c (room_for (length (spans_of ws)) places)) ≤ most_places
small ws places (Ok _) e l =
    picked (λ (a : Answer). answer_value a ≤ most_places) (leb (length (spans_of ws)) (min places most_places)) _ _ (few-spans ws e) (few-spans ws e)
small ws places (Err r) e l = l

counted_says : (a : Answer) {r : ℕ} → answer_value a ≤ most_places → r ≡ answer_word count_word a → SaysAnswer r a
counted_says (Ok n) h e = rw e (plain 0 n (le_trans h (lit≤ tt)))
counted_says (Err g) h e = rw e (plain (number_of g) (place_of g) (le_trans h (lit≤ tt)))

pub spans_say : (ws : List ℕ) (places : ℕ) {r : ℕ} → r ≡ answer_word count_word (answer ws places) → SaysAnswer r (answer ws places)
unfolding answer_to
spans_say ws places e = counted_says (answer ws places) (small ws places (table_ground ws) refl (table-low ws (table_ground ws) refl)) e

-- ---- `hannuvel_progress`

bits_say : (c : Checked) (x : Float) → T (fits binary32 (progress_of (result_and c (Ok x)))) → place_in c ≤ most_places → let p = result_and c (Ok x) in Says (answer_word progress_word p) (Progress.ground_of p) 0 (bits (progress_of p))
bits_say (Ok _) x f h = unpacked 0 0 (bits x) (lit< tt) (lt_of_lt_of_le (to_bits-lt binary32 x f) (lit≤ tt))
bits_say (Err r) x f h = plain (number_of r) (place_of r) (le_trans h (lit≤ tt))

pub progress_says : (s : KaraokeSpan) (t : ℤ) {r : ℕ} → r ≡ answer_word progress_word (progressed s t) → let p = progressed s t in Says r (Progress.ground_of p) 0 (bits (progress_of p))
unfolding progressed
progress_says s t e =
    rw e (bits_say (instant_ground t) (progress_in (whole s.start_ms) (whole s.end_ms) t) (progress_fits s t) (picked (λ (c : Checked). place_in c ≤ most_places) (in_time t) (Ok tt) (Err TimeOutOfRange) (lit≤ tt) (lit≤ tt)))
