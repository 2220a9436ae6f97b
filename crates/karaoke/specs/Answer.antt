-- What the call answers, and what the lent list holds afterwards: 01, Karaoke, and grounds 5 and 9.
use Rattle.std.specs.Prelude.{◌≡◌, List, [], ◌∷◌, ◌++◌, ℕ, ◌/◌, length, drop, Ok, Err}
use Rattle.rows.specs.Rows.{laid_rows}
use Rattle.refusal.specs.declared.Refusal.{Refusal}
use Rattle.refusal.specs.Answer.{Answer, room_for, unless_bad, table_after}
use Rattle.tag.specs.Table.{kind_word}
use Rattle.tag.specs.Tag.{most_depth}
use Rattle.tag.specs.WellFormed.{table_ground_to}
use Rattle.tag.specs.Decode.{tags_of}
use Rattle.karaoke.specs.declared.KaraokeSpan.{KaraokeSpan}
use Rattle.karaoke.specs.Karaoke.{karaoke_spans}

-- the spans of the tags that a table stands for
abbrev pub spans_of : List ℕ → List KaraokeSpan
spans_of ws = karaoke_spans (tags_of ws)

-- grounds 5 and 9, where so many places are lent, as a controller that allows T nested at most d deep has them; "count: the number needed for the
-- whole input"
unfoldable pub answer_to : ℕ → List ℕ → ℕ → Answer
answer_to d ws places = unless_bad (table_ground_to d ws) (room_for (length (spans_of ws)) places)

-- at the depth that is allowed here
abbrev pub answer : List ℕ → ℕ → Answer
answer ws places = answer_to most_depth ws places

-- ---- a list of spans

-- a list with spans written from its front on; "places behind the last one written keep what they held"
abbrev pub written : List KaraokeSpan → List KaraokeSpan → List KaraokeSpan
written new old = new ++ drop (length new) old

-- on a refusal every place keeps what it held
abbrev pub list_after : Answer → List KaraokeSpan → List KaraokeSpan → List KaraokeSpan
list_after (Ok n) new old = written new old
list_after (Err r) new old = old

-- the list afterwards
unfoldable pub after : List ℕ → List KaraokeSpan → List KaraokeSpan
unfolding answer_to
after ws l = list_after (answer ws (length l)) (spans_of ws) l

-- ---- the same as words, for the C interface

-- three words a span: kind, start, end
abbrev pub span_width : ℕ
span_width = 3

abbrev pub span_words : KaraokeSpan → List ℕ
span_words s = kind_word s.kind ∷ s.start_ms.0 ∷ s.end_ms.0 ∷ []

abbrev pub places_of : List ℕ → ℕ
places_of t = length t / span_width

abbrev pub laid_spans : List ℕ → List KaraokeSpan → List ℕ
laid_spans t l = laid_rows span_width span_words t l

-- the words afterwards, as a controller that allows T nested at most d deep leaves them
unfoldable pub words_after_to : ℕ → List ℕ → List ℕ → List ℕ
unfolding answer_to
words_after_to d ws t = table_after (answer_to d ws (places_of t)) (laid_spans t (spans_of ws)) t

-- at the depth that is allowed here
abbrev pub words_after : List ℕ → List ℕ → List ℕ
words_after ws t = words_after_to most_depth ws t

-- the answer and the words afterwards; and these where it is refused
abbrev pub both_to : ℕ → List ℕ → List ℕ → Answer × List ℕ
both_to d ws t = (answer_to d ws (places_of t), words_after_to d ws t)

abbrev pub both_refused : List ℕ → Refusal → Answer × List ℕ
both_refused t r = (Err r, t)

-- ---- what the two calls say

-- the answer r, the list l before and m after
pub record Answered (ws : List ℕ) (l : List KaraokeSpan) (r : Answer) (m : List KaraokeSpan) : Type 0 where
  pub answer : r ≡ answer ws (length l)
  pub list : m ≡ after ws l

-- the same on words
pub record AnsweredWords (ws : List ℕ) (t : List ℕ) (r : Answer) (u : List ℕ) : Type 0 where
  pub answer : r ≡ answer ws (places_of t)
  pub words : u ≡ words_after ws t
