-- The karaoke calls: what their numbers say, and the words of the spans.
use Rattle.std.specs.Prelude.{◌≡◌, List, ℕ, ℤ}
use Rattle.rows.specs.Rows.{bits}
use Rattle.tag.specs.declared.KaraokeKind.TheVariants.{Fill}
use Rattle.tag.specs.Depth.{AtLessDepth}
use Rattle.karaoke.specs.declared.KaraokeSpan.{KaraokeSpan}
use Rattle.karaoke.specs.Karaoke.{ms, Contiguous}
use Rattle.karaoke.specs.Answer.{spans_of, answer, places_of, words_after, both_to, both_refused}
use Rattle.karaoke.specs.Progress.{progressed, ground_of, progress_of}
use Rattle.hannuvel.specs.Packed.{Says, SaysAnswer}

-- ---- `hannuvel_karaoke_spans`: the number r, and the lent words t before and u after. The spans begin at 0, each where the one before it ends, and
-- none runs backwards. And 02, N7, of controllers that allow T nested less deep.
pub record SpansCall (ws t : List ℕ) (r : ℕ) (u : List ℕ) : Type 0 where
  pub answered : SaysAnswer r (answer ws (places_of t))
  pub spans : u ≡ words_after ws t
  pub contiguous : Contiguous (ms 0) (spans_of ws)
  pub stored : AtLessDepth ws (λ k. both_to k ws t) (λ g. both_refused t g)

-- ---- `hannuvel_progress`

-- the span that two numbers say; its kind makes no difference to progress
abbrev pub span_given : ℕ → ℕ → KaraokeSpan
span_given start end = record { kind = Fill; start_ms = ms start; end_ms = ms end }

-- what the call says: the number r, whose value is the f32's bits
pub record ProgressCall (start end : ℕ) (t : ℤ) (r : ℕ) : Type 0 where
  pub answered : let p = progressed (span_given start end) t in Says r (ground_of p) 0 (bits (progress_of p))
