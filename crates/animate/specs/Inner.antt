-- One controller's calls, in the code's words.
use Rattle.std.specs.Prelude.{◌≡◌, List, ℕ, ◌*◌, ◌<◌, min, ℤ, take}
use Rattle.refusal.specs.Refusal.{most_places}
use Rattle.tag.specs.Table.{width}
use Rattle.read.specs.declared.Span.{Span}
use Rattle.hannuvel.specs.Packed.{word_ground, word_value, ReadingCall}
use Rattle.hannuvel.specs.Instant.{EvaluatingCall, MarkingCall}
use Rattle.animate.specs.declared.Seen.{Seen}
use Rattle.animate.specs.declared.Told.{Told}
use Rattle.animate.specs.Claim.{Lent}

-- the words of the records that a reading wrote, whose number is r; no reading writes more than 1,024
abbrev pub words_in : ℕ → ℕ
words_in r = width * min (word_value r) most_places

-- the records that a reading wrote
abbrev pub records_in : ℕ → List ℕ → List ℕ
records_in r t = take (words_in r) t

-- what both calls say of a table at an instant, the lent words being v before and u after
pub record Saw (ws : List ℕ) (t dur : ℤ) (v : List ℕ) (r : Seen) (u : List ℕ) : Type 0 where
  pub state : EvaluatingCall ws t dur v r.evaluated u
  pub next : MarkingCall ws t dur r.next

-- the numbers of a controller that makes no call
abbrev pub unseen : Seen
unseen = record { evaluated = 0; next = 0 }

-- where the reading succeeds both instants are asked for, and where it is refused no other call is made
pub record Ran (s : List ℕ) (x : Span) (a : Lent) (t u dur : ℤ) (r : Told) (a' : Lent) : Type 0 where
  pub reading : ReadingCall s x a.table r.reading a'.table
  pub one : word_ground r.reading ≡ 0 → Saw (records_in r.reading a'.table) t dur a.one r.one a'.one
  pub other : word_ground r.reading ≡ 0 → Saw (records_in r.reading a'.table) u dur a.other r.other a'.other
  pub unasked : 0 < word_ground r.reading → (a'.one ≡ a.one) × (a'.other ≡ a.other) × (r.one ≡ unseen) × (r.other ≡ unseen)
