-- Worked examples, by computation: the range of every class of word and every rule that joins words, at its limit and one beyond;
-- faults and their places; tags and their records.
use Rattle.std.specs.Prelude.{◌≡◌, refl, List, [], ◌∷◌, ◌++◌, map, Bool, true, false, ℕ, zero, suc, Ok, Err}
use Rattle.std.specs.Float.Ieee.{of_bits}
use Rattle.float.specs.Float.{in_reach_lem}
use Rattle.refusal.specs.Refusal.{Checked}
use Rattle.refusal.specs.declared.Refusal.TheVariants.{TableMalformed}
use Rattle.tag.specs.declared.Record.{Record}
use Rattle.tag.specs.Table.{rec, table_words}
use Rattle.tag.specs.Range.{rows, in_range}
use Rattle.tag.specs.Tag.{most_depth}
use Rattle.tag.specs.WellFormed.{records_to, fault_in, excess, table_ground_to}

-- ---- ranges

-- that each of the records is in range, or none is
abbrev AllOf : Bool → List Record → Type 0
AllOf b l = map in_range l ≡ map (λ (r : Record). b) l

pub inside : AllOf true (
    -- kinds 1 to 49, \fad to 2,147,483,647
    rec 1 0 2147483647 0 0 0 0 0 ∷
    rec 49 0 0 0 0x3F800000 0 0 0 ∷
    -- bytes, and times within ±1,000,000,000
    rec 2 0 255 255 1000000000 3294967296 4294967295 0 ∷
    -- finite floats of magnitude at most 1,000,000,000, either zero
    rec 10 0x4E6E6B28 0 0 0 0 0 0 ∷
    rec 10 0xCE6E6B28 0 0 0 0 0 0 ∷
    rec 10 0x80000000 0 0 0 0 0 0 ∷
    rec 10 1 0 0 0 0 0 0 ∷
    -- \q to 3, \an 1 to 9, flags, \b 0 or 100 to 900
    rec 36 3 0 0 0 0 0 0 ∷
    rec 37 1 0 0 0 0 0 0 ∷
    rec 37 9 0 0 0 0 0 0 ∷
    rec 43 1 0 0 0 0 0 0 ∷
    rec 42 0 0 0 0 0 0 0 ∷
    rec 42 100 0 0 0 0 0 0 ∷
    rec 42 900 0 0 0 0 0 0 ∷
    -- karaoke kinds to 2, centiseconds to 1,000,000,000; \pbo within ±1,000,000,000
    rec 46 2 1000000000 0 0 0 0 0 ∷
    rec 47 1000000000 0 0 0 0 0 0 ∷
    rec 47 3294967296 0 0 0 0 0 0 ∷
    -- times that are absent, or there
    rec 4 0 0 0 0 0 0 0 ∷
    rec 4 0 0 0 0 1 5 3294967296 ∷
    rec 49 1 3294967296 1000000000 0 1023 0 0 ∷
    -- parts that end at 12,288, empty parts
    rec 12 0 12288 0 0 0 0 0 ∷
    rec 12 12287 1 0 0 0 0 0 ∷
    rec 26 0 0 0 0 0 0 0 ∷
    -- \fn: either part may be empty, not both; \r: no name, or one
    rec 39 3 5 0 0 0 0 0 ∷
    rec 39 0 0 12287 1 0 0 0 ∷
    rec 41 0 0 0 0 0 0 0 ∷
    rec 41 1 12287 1 0 0 0 0 ∷
    [])
unfolding in_range rows of_bits in_reach_lem
inside = refl

pub outside : AllOf false (
    -- no such kind
    rec 0 0 0 0 0 0 0 0 ∷
    rec 50 0 0 0 0 0 0 0 ∷
    rec 1 2147483648 0 0 0 0 0 0 ∷
    rec 1 0 0 1 0 0 0 0 ∷
    -- a byte of 256, a time one beyond
    rec 2 256 0 0 0 0 0 0 ∷
    rec 2 0 0 0 1000000001 0 0 0 ∷
    rec 2 0 0 0 0 3294967295 0 0 ∷
    -- the next f32, infinities, a NaN, an unused word
    rec 10 0x4E6E6B29 0 0 0 0 0 0 ∷
    rec 10 0xCE6E6B29 0 0 0 0 0 0 ∷
    rec 10 0x7F800000 0 0 0 0 0 0 ∷
    rec 10 0xFF800000 0 0 0 0 0 0 ∷
    rec 10 0x7FC00000 0 0 0 0 0 0 ∷
    rec 10 0 0 0 0 0 0 1 ∷
    rec 36 4 0 0 0 0 0 0 ∷
    rec 37 0 0 0 0 0 0 0 ∷
    rec 37 10 0 0 0 0 0 0 ∷
    rec 43 2 0 0 0 0 0 0 ∷
    rec 44 2 0 0 0 0 0 0 ∷
    rec 45 2 0 0 0 0 0 0 ∷
    rec 42 1 0 0 0 0 0 0 ∷
    rec 42 99 0 0 0 0 0 0 ∷
    rec 42 901 0 0 0 0 0 0 ∷
    rec 46 3 0 0 0 0 0 0 ∷
    rec 46 0 1000000001 0 0 0 0 0 ∷
    rec 47 1000000001 0 0 0 0 0 0 ∷
    rec 47 3294967295 0 0 0 0 0 0 ∷
    rec 9 0 256 0 0 0 0 0 ∷
    rec 22 256 0 0 0 0 0 0 ∷
    rec 30 256 0 0 0 0 0 0 ∷
    rec 38 256 0 0 0 0 0 0 ∷
    rec 40 256 0 0 0 0 0 0 ∷
    rec 48 256 0 0 0 0 0 0 ∷
    -- times beside a flag that says there are none; a flag of 2
    rec 4 0 0 0 0 0 1 0 ∷
    rec 4 0 0 0 0 0 0 1 ∷
    rec 4 0 0 0 0 2 0 0 ∷
    rec 49 0 1 0 0 0 0 0 ∷
    rec 49 0 0 1 0 0 0 0 ∷
    rec 49 1 1000000001 0 0 0 0 0 ∷
    rec 49 0 0 0 0x7FC00000 0 0 0 ∷
    -- a part that ends beyond 12,288, an empty part with an offset
    rec 12 1 12288 0 0 0 0 0 ∷
    rec 12 1 0 0 0 0 0 0 ∷
    rec 26 12288 1 0 0 0 0 0 ∷
    rec 26 1 0 0 0 0 0 0 ∷
    -- names
    rec 39 0 0 0 0 0 0 0 ∷
    rec 39 1 0 2 1 0 0 0 ∷
    rec 39 2 1 1 0 0 0 0 ∷
    rec 39 0 1 1 12288 0 0 0 ∷
    rec 41 0 1 0 0 0 0 0 ∷
    rec 41 0 0 1 0 0 0 0 ∷
    rec 41 1 0 0 0 0 0 0 ∷
    rec 41 1 1 12288 0 0 0 0 ∷
    rec 41 2 0 1 0 0 0 0 ∷
    [])
unfolding in_range rows of_bits in_reach_lem
outside = refl

-- ---- ground 5

abbrev b1 : Record
b1 = rec 42 700 0 0 0 0 0 0

-- a \t around n records
abbrev t : ℕ → Record
t n = rec 49 0 0 0 0x3F800000 n 0 0

-- n \t, each around all the next ones and what is behind them
abbrev nest : ℕ → List Record
nest zero = b1 ∷ []
nest (suc n) = t (suc n) ∷ nest n

abbrev Grounds : ℕ → List (List ℕ × Checked) → Type 0
Grounds d rows = map (λ (r : List ℕ × Checked). table_ground_to d r.0) rows ≡ map (λ (r : List ℕ × Checked). r.1) rows

pub faults : Grounds most_depth (
    ([], Ok tt) ∷
    (table_words (b1 ∷ t 1 ∷ b1 ∷ []), Ok tt) ∷
    -- a \b of 50, and one that is not the first at fault
    (table_words (b1 ∷ rec 42 50 0 0 0 0 0 0 ∷ []), Err (TableMalformed 1)) ∷
    (table_words (rec 42 50 0 0 0 0 0 0 ∷ rec 0 0 0 0 0 0 0 0 ∷ []), Err (TableMalformed 0)) ∷
    -- a \t that ends past the table, one past its outer, one at its outer's end
    (table_words (t 2 ∷ b1 ∷ []), Err (TableMalformed 0)) ∷
    (table_words (t 1 ∷ t 1 ∷ b1 ∷ []), Err (TableMalformed 1)) ∷
    (table_words (t 2 ∷ t 1 ∷ b1 ∷ b1 ∷ []), Ok tt) ∷
    -- sixteen \t, and seventeen
    (table_words (nest 16), Ok tt) ∷
    (table_words (nest 17), Err (TableMalformed 16)) ∷
    -- a broken record, alone and behind one at fault
    (table_words (b1 ∷ []) ++ (1 ∷ []), Err (TableMalformed 1)) ∷
    (table_words (rec 50 0 0 0 0 0 0 0 ∷ []) ++ (1 ∷ []), Err (TableMalformed 0)) ∷
    [])
unfolding table_ground_to excess fault_in records_to table_words in_range rows of_bits in_reach_lem
faults = refl

-- 02, N7: "a controller still at eight"
pub faults_at_eight : Grounds 8 (
    (table_words (nest 8), Ok tt) ∷
    (table_words (nest 9), Err (TableMalformed 8)) ∷
    (table_words (nest 16), Err (TableMalformed 8)) ∷
    -- the ninth is at fault itself, also if it is empty; behind eight that hold no more, a further \t is not
    (table_words (t 8 ∷ t 7 ∷ t 6 ∷ t 5 ∷ t 4 ∷ t 3 ∷ t 2 ∷ t 1 ∷ t 0 ∷ []), Err (TableMalformed 8)) ∷
    (table_words (t 7 ∷ t 6 ∷ t 5 ∷ t 4 ∷ t 3 ∷ t 2 ∷ t 1 ∷ t 0 ∷ t 0 ∷ []), Ok tt) ∷
    (table_words (nest 8 ++ nest 9), Err (TableMalformed 17)) ∷
    -- another fault before it comes first, one behind it does not
    (table_words (rec 42 50 0 0 0 0 0 0 ∷ nest 9), Err (TableMalformed 0)) ∷
    (table_words (nest 9 ++ (rec 42 50 0 0 0 0 0 0 ∷ [])), Err (TableMalformed 8)) ∷
    [])
unfolding table_ground_to excess fault_in records_to table_words in_range rows of_bits in_reach_lem
faults_at_eight = refl
