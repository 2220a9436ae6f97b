-- Answers as one number. Bits 48 to 63: 01's number of the ground, 0 for an answer; bits 32 to 47: an extra; bits 0 to 31: the value, or the ground's place or count.
use Rattle.std.specs.Prelude.{◌≡◌, List, ℕ, ◌/◌, ◌%◌, ◌^◌, ◌≤◌, Ok, Err}
use Rattle.refusal.specs.Refusal.{Checked, number_of, place_of, text_ground}
use Rattle.refusal.specs.Answer.{Answer, number_in, ground_of, answer_value}
use Rattle.tag.specs.Table.{places_of}
use Rattle.read.specs.declared.Span.{Span}
use Rattle.read.specs.Reading.{answer, after}
use Rattle.drawing.specs.Answer as Drawing
use Rattle.drawing.specs.Answer.{most_exponent}
use Rattle.drawing.specs.Finite.{FinitePath}
use Rattle.clips.specs.Clip.{parts_of}

-- `hannuvel_ground`, `hannuvel_extra` and `hannuvel_value` of include/hannuvel.h: answer >> 48, (answer >> 32) & 0xFFFF, answer & 0xFFFFFFFF
abbrev pub word_ground : ℕ → ℕ
word_ground w = w / 2 ^ 48

abbrev pub word_extra : ℕ → ℕ
word_extra w = w / 2 ^ 32 % 2 ^ 16

abbrev pub word_value : ℕ → ℕ
word_value w = w % 2 ^ 32

-- the three give back the ground g, the extra e and the value v, whole
pub record Unpacks (w g e v : ℕ) : Type 0 where
  pub ground : word_ground w ≡ g
  pub extra : word_extra w ≡ e
  pub value : word_value w ≡ v

-- What a call's number w says: the number and the place of the ground that the checks found; without one the extra e and the value v.
abbrev pub Says : ℕ → Checked → ℕ → ℕ → Type 0
Says w (Ok _) e v = Unpacks w 0 e v
Says w (Err r) e v = Unpacks w (number_of r) 0 (place_of r)

-- the same of a call that fills a table: how many records, spans or commands it wrote; for a ground its place or count
abbrev pub SaysAnswer : ℕ → Answer → Type 0
SaysAnswer w a = Unpacks w (number_in (ground_of a)) 0 (answer_value a)

-- what a reading call says: the number r, and the table t before and u after
pub record ReadingCall (s : List ℕ) (x : Span) (t : List ℕ) (r : ℕ) (u : List ℕ) : Type 0 where
  pub answered : SaysAnswer r (answer s x (places_of t))
  pub table : u ≡ after s x t

-- What the drawing call says: the number r, and the path table t before and u after. Up to the exponent 32 every coordinate of the path is a finite
-- f32.
pub record DrawingCall (s : List ℕ) (exponent : ℕ) (t : List ℕ) (r : ℕ) (u : List ℕ) : Type 0 where
  pub answered : SaysAnswer r (Drawing.answer s exponent (Drawing.places_of t))
  pub path : u ≡ Drawing.after s exponent t
  pub finite : exponent ≤ most_exponent → FinitePath (Drawing.drawing s exponent)

-- what the call on a clip argument says: the offset at which the rest begins, and the scale
abbrev pub ClipCall : List ℕ → ℕ → Type 0
ClipCall s r = let c = parts_of s in Says r (text_ground s) c.from c.scale
