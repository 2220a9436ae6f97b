-- Demand 3 as one claim: "Two controllers with tables of any sizes and any old contents agree". It speaks of one function,
-- `two_controllers`, that makes the calls of the C interface as hosts do: it reads a block into two lent tables by the same one of
-- the two reading calls, and asks on both, at the instants t and u of a line that lasts dur milliseconds, for the 92 words of the
-- state and for the next mark. The numbers that the calls gave are r; what the controllers lent was a and b before, and is a' and b'
-- afterwards. All that the answers are held to comes from the text, the duration and the instants. The sentences of demand 3 stand
-- beside the fields, in their order; 01 says under "What demand 3 speaks of" what their words mean.
use Rattle.std.specs.Prelude.{◌≡◌, List, Bool, true, false, ℕ, ◌≤◌, ◌<◌, min, ℤ, Option, Some, None, Ok, Err}
use Rattle.std.specs.Int.Signed.{le_z}
use Rattle.scan.specs.Scan.{pick}
use Rattle.refusal.specs.Refusal.{Checked, number_of, place_of, most_places, text_ground}
use Rattle.refusal.specs.Answer.{first_ground}
use Rattle.refusal.specs.declared.Refusal.{Refusal}
use Rattle.refusal.specs.declared.Refusal.TheVariants.{NumeralTooLong, FadeTooFar}
use Rattle.tag.specs.Tag.{Tags, count}
use Rattle.tag.specs.Table.{places_of}
use Rattle.read.specs.declared.Span.{Span}
use Rattle.read.specs.Reading.{whole_text, less_braces, block_of}
use Rattle.table.specs.Ground.{InTime, time_ground}
use Rattle.state.specs.Apply.{evaluate_at}
use Rattle.words.specs.Words.{state_words}
use Rattle.marks.specs.Marks.{marks, NoMark, next_mark, Earliest}
use Rattle.hannuvel.specs.Packed.{word_ground, Unpacks}
use Rattle.hannuvel.specs.Instant.{Names}
use Rattle.animate.specs.declared.Seen.{Seen}
use Rattle.animate.specs.declared.Both.{Both}

-- ---- from the text alone

-- "A block is the text given to either reading call": the second one drops blanks and braces first
abbrev pub read_span : Bool → List ℕ → Span
read_span true s = less_braces s
read_span false s = whole_text s

-- the block's tags: "A tag is kept if it stands, at any depth, in what `parse_overrides` gives". Of their number, `count`: "A \t counts
-- as one tag and each tag inside it as one more".
abbrev pub block_tags : List ℕ → Span → Tags
block_tags s x = (block_of s x).tags

-- ground 3 of a block, and 4
abbrev pub long_ground : Option ℕ → Checked
long_ground (Some p) = Err (NumeralTooLong p)
long_ground None = Ok tt

abbrev pub far_ground : Option ℕ → Checked
far_ground (Some p) = Err (FadeTooFar p)
far_ground None = Ok tt

-- all grounds but space, in checking order: 1 and 2 of the text, then these
unfoldable pub other_ground : List ℕ → Span → Checked
other_ground s x = first_ground (text_ground s) (first_ground (long_ground (block_of s x).long) (far_ground (block_of s x).far))

-- of two instants, which may be equal
abbrev pub earlier : ℤ → ℤ → ℤ
earlier t u = pick (le_z t u) t u

abbrev pub later : ℤ → ℤ → ℤ
later t u = pick (le_z t u) u t

-- ---- what a controller lends, and what is said of its answers

-- a table, and 92 words for the state at each of the two instants
pub record Lent : Type 0 where
  pub table : List ℕ
  pub one : List ℕ
  pub other : List ℕ

abbrev pub lent : List ℕ → List ℕ → List ℕ → Lent
lent table one other = record { table = table; one = one; other = other }

-- the number w refuses for g: "Refused alike means the same number and place"
abbrev pub Refuses : ℕ → Refusal → Type 0
Refuses w g = Unpacks w (number_of g) 0 (place_of g)

-- a reading refused for something other than space: that ground comes from the text
pub record FromText (s : List ℕ) (x : Span) (w : ℕ) : Type 0 where
  pub ground : Refusal
  pub stands : other_ground s x ≡ Err ground
  pub told : Refuses w ground

abbrev pub OnlyFromText : List ℕ → Span → ℕ → Type 0
OnlyFromText s x w = ¬ (word_ground w ≡ 0) → ¬ (word_ground w ≡ 9) → FromText s x w

-- a table with p places for n kept tags: space is lacking, ground 9, exactly when they exceed them, and the count is that of all kept tags
pub record Space (n p w : ℕ) : Type 0 where
  pub lacks : p < n → Unpacks w 9 0 n
  pub fits : n ≤ p → Unpacks w 0 0 n

-- of all places of a table 1,024 count
abbrev pub counted : Lent → ℕ
counted a = min (places_of a.table) most_places

-- "A table holds a block if the reading into it succeeded": both do. That the calls "then get exactly the records which that reading wrote"
-- is what `two_controllers` does (`Ran` in Inner.antt).
pub record Hold (r : Both) : Type 0 where
  pub a : word_ground r.a.reading ≡ 0
  pub b : word_ground r.b.reading ≡ 0

-- both calls refuse at an instant, for both controllers alike
pub record LateAt (g : Refusal) (p q : Seen) : Type 0 where
  pub a : Refuses p.evaluated g × Refuses p.next g
  pub b : Refuses q.evaluated g × Refuses q.next g

-- both calls answer, for both controllers; an evaluation that answers has no extra and no value
pub record AnswerAt (p q : Seen) : Type 0 where
  pub a : Unpacks p.evaluated 0 0 0 × (word_ground p.next ≡ 0)
  pub b : Unpacks q.evaluated 0 0 0 × (word_ground q.next ≡ 0)

-- both next marks after the instant t are the block's earliest later one, or none exactly when it has none
pub record NextAt (l : Tags) (dur t : ℤ) (p q : Seen) : Type 0 where
  pub earliest : Earliest (marks dur l) t (next_mark t dur l)
  pub a : Names p.next (next_mark t dur l)
  pub b : Names q.next (next_mark t dur l)

-- ---- where both hold the block whose tags are l, duration and instants being in range

pub record Shown (l : Tags) (t u dur : ℤ) (r : Both) (a' b' : Lent) : Type 0 where
  -- no call is refused
  pub answered : AnswerAt r.a.one r.b.one × AnswerAt r.a.other r.b.other
  -- "any two instants with no mark between, both tables' states at both instants and the block's own are equal to the bit": no mark of the
  -- block after the earlier instant and up to the later one
  pub states : NoMark (marks dur l) (earlier t u) (later t u) →
      let w = state_words (evaluate_at t dur l) in
      (a'.one ≡ w) × (b'.one ≡ w) × (a'.other ≡ w) × (b'.other ≡ w) × (evaluate_at u dur l ≡ evaluate_at t dur l)
  -- and with marks between as well, each state is the block's own at that instant
  pub own :
      let v = state_words (evaluate_at t dur l) in
      let w = state_words (evaluate_at u dur l) in
      (a'.one ≡ v) × (b'.one ≡ v) × (a'.other ≡ w) × (b'.other ≡ w)
  -- "the next-mark call names the earliest later mark exactly", on these tables that of the block
  pub next : NextAt l dur t r.a.one r.b.one × NextAt l dur u r.a.other r.b.other

-- ---- the claim

pub record Agreed (s : List ℕ) (x : Span) (a b : Lent) (t u dur : ℤ) (r : Both) (a' b' : Lent) : Type 0 where
  -- "same refusals": refused for anything but space exactly when the text has one of the other grounds, and then alike by both
  pub refused : (g : Refusal) → other_ground s x ≡ Err g → Refuses r.a.reading g × Refuses r.b.reading g
  pub only : OnlyFromText s x r.a.reading × OnlyFromText s x r.b.reading
  -- and where a time is out of range, which only the calls behind the reading look at
  pub late : Hold r → (g : Refusal) →
      (time_ground t dur ≡ Err g → LateAt g r.a.one r.b.one × (a'.one ≡ a.one) × (b'.one ≡ b.one)) ×
      (time_ground u dur ≡ Err g → LateAt g r.a.other r.b.other × (a'.other ≡ a.other) × (b'.other ≡ b.other))
  -- demand 1: "after a refusal lent memory is untouched"
  pub untouched : (¬ (word_ground r.a.reading ≡ 0) → a' ≡ a) × (¬ (word_ground r.b.reading ≡ 0) → b' ≡ b)
  -- "space refused exactly when kept tags exceed places (1,024 count) with the exact count"
  pub space : other_ground s x ≡ Ok tt →
      let n = count (block_tags s x) in
      Space n (counted a) r.a.reading × Space n (counted b) r.b.reading
  -- "and where both hold the block, for every duration and any two instants": what they show
  pub shown : Hold r → InTime t → InTime u → InTime dur → Shown (block_tags s x) t u dur r a' b'
