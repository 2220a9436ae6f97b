-- What the two reading calls answer, and what the table holds afterwards.
use Rattle.std.specs.Prelude.{◌≡◌, List, ℕ, ◌-◌, ltb, eqb, length, get_or, Err, Option, Some, None}
use Rattle.scan.specs.Scan.{pick, only, past, trim_start, trim_end}
use Rattle.refusal.specs.Refusal.{text_ground}
use Rattle.refusal.specs.declared.Refusal.TheVariants.{NumeralTooLong, FadeTooFar}
use Rattle.tag.specs.Tag.{count}
use Rattle.tag.specs.Table.{encode, laid, places_of}
use Rattle.refusal.specs.Answer.{Answer, room_for, unless_bad, table_after}
use Rattle.read.specs.declared.Span.{Span}
use Rattle.read.specs.Block.{Got, parse}
use Rattle.tag.specs.Tag.{most_depth}

-- 01, What demand 3 speaks of: each tag counts as one, a \t and each tag inside it
abbrev pub kept_tags : Got → ℕ
kept_tags g = count g.tags

-- grounds 3, 4 and 9, on what the text gives and the number of places in the table
unfoldable pub read_ground : Option ℕ → Option ℕ → ℕ → ℕ → Answer
read_ground (Some p) far n places = Err (NumeralTooLong p)
read_ground None (Some p) n places = Err (FadeTooFar p)
read_ground None None n places = room_for n places

-- the part of the text that is read: all of it, or what `parse_raw_block` leaves: trimmed, less one { and one }
abbrev pub whole_text : List ℕ → Span
whole_text s = record { from = 0; to = length s }

abbrev pub brace_end : List ℕ → ℕ → ℕ → ℕ
brace_end s p b = pick (ltb p b) (pick (eqb (get_or s (b - 1) 0) 125) (b - 1) b) b

unfoldable pub less_braces : List ℕ → Span
less_braces s =
    let a = trim_start s 0 (length s) in
    let b = trim_end s a (length s) in
    let p = past (only 123) s a b in
    record { from = p; to = brace_end s p b }

-- the block: what the text gives
abbrev pub block_of : List ℕ → Span → Got
block_of s x = parse most_depth s x.from x.to

-- the answer of a reading call
unfoldable pub answer : List ℕ → Span → ℕ → Answer
answer s x places =
    let g = block_of s x in
    unless_bad (text_ground s) (read_ground g.long g.far (kept_tags g) places)

-- the table afterwards: the records and then every old word; on a refusal every old word
unfoldable pub after : List ℕ → Span → List ℕ → List ℕ
after s x t = table_after (answer s x (places_of t)) (laid t (encode (block_of s x).tags)) t

-- what a reading call says: the answer r, and the table t before and u after
pub record Answered (s : List ℕ) (x : Span) (t : List ℕ) (r : Answer) (u : List ℕ) : Type 0 where
  pub reading : r ≡ answer s x (places_of t)
  pub table : u ≡ after s x t
