-- 01, A table record: "A table is well formed if", and ground 5, the first record at fault.
use Rattle.std.specs.Prelude.{◌≡◌, List, [], ◌∷◌, Bool, true, false, ℕ, zero, suc, ◌+◌, ◌%◌, ◌≤◌, ◌<◌, leb, eqb, length, get_or, take, drop, Ok, Err}
use Rattle.scan.specs.Scan.{pick}
use Rattle.refusal.specs.Refusal.{Checked, most_places}
use Rattle.refusal.specs.Answer.{first_ground}
use Rattle.refusal.specs.declared.Refusal.TheVariants.{TableMalformed}
use Rattle.tag.specs.declared.Record.{Record}
use Rattle.tag.specs.Tag.{most_depth}
use Rattle.tag.specs.Table.{width, rec, places_of}
use Rattle.tag.specs.Range.{in_range}

-- ---- the records of a table

-- the first record
abbrev pub record_at : List ℕ → Record
record_at t = rec (get_or t 0 0) (get_or t 1 0) (get_or t 2 0) (get_or t 3 0) (get_or t 4 0) (get_or t 5 0) (get_or t 6 0) (get_or t 7 0)

-- the first n records
unfoldable pub records_to : ℕ → List ℕ → List Record
records_to zero t = []
records_to (suc n) t = record_at t ∷ records_to n (drop width t)

-- the whole records
abbrev pub records_of : List ℕ → List Record
records_of t = records_to (places_of t) t

-- whether words are left behind them: a broken record
abbrev pub broken : List ℕ → Bool
broken t = pick (eqb (length t % width) 0) false true

-- ---- what is asked of them

pub data All {A : Type 0} (P : A → Type 0) : List A → Type 0 where
  all : All P []
  more : {x : A} {l : List A} → P x → All P l → All P (x ∷ l)

-- "every word in the range its kind can be read with"
abbrev pub InRange : Record → Type 0
InRange r = in_range r ≡ true

-- the kind of a T, and how many records are inside it
abbrev pub t_kind : ℕ
t_kind = 49

abbrev pub holds : Record → ℕ
holds r = r.w5

-- "every T's contents end inside what encloses it", "T nested at most sixteen deep", here d.
-- Behind a T come the records inside it, as many as its word says, with one level less, then those that are not.
pub data Nested : ℕ → List Record → Type 0 where
  end : {d : ℕ} → Nested d []
  plain : {d : ℕ} {r : Record} {l : List Record} → (r.kind ≡ t_kind → ⊥) → Nested d l → Nested d (r ∷ l)
  around : {d : ℕ} {r : Record} {l : List Record} → r.kind ≡ t_kind → holds r ≤ length l → Nested d (take (holds r) l) → Nested (suc d) (drop (holds r) l) → Nested (suc d) (r ∷ l)

-- 01: at most 1,024 whole records, no broken one, each in range, each T around its own; T nested at most d deep, as a controller that allows d has it
pub record WellFormedTo (d : ℕ) (t : List ℕ) : Type 0 where
  pub few : length (records_of t) ≤ most_places
  pub whole : broken t ≡ false
  pub ranges : All InRange (records_of t)
  pub around : Nested d (records_of t)

-- at the depth that is allowed here
abbrev pub WellFormed : List ℕ → Type 0
WellFormed t = WellFormedTo most_depth t

-- ---- ground 5: the first record at fault

-- a record at fault, its index, in records of which the first has the index i
abbrev pub fault_at : ℕ → Checked
fault_at i = Err (TableMalformed i)

-- The first at fault among records of which the first has the index i, with d more levels of T allowed, over at most n of them. A T that
-- reaches past the end of what encloses it is at fault itself, and so is one too deep.
unfoldable pub fault_in : ℕ → ℕ → ℕ → List Record → Checked
fault_in zero d i l = Ok tt
fault_in (suc n) d i [] = Ok tt
fault_in (suc n) zero i (r ∷ l) =
    let more = fault_in n zero (i + 1) l in
    pick (in_range r) (pick (eqb r.kind t_kind) (fault_at i) more) (fault_at i)
fault_in (suc n) (suc d) i (r ∷ l) =
    let more = fault_in n (suc d) (i + 1) l in
    let inner = fault_in n d (i + 1) (take (holds r) l) in
    let behind = fault_in n (suc d) (i + 1 + holds r) (drop (holds r) l) in
    pick (in_range r) (pick (eqb r.kind t_kind) (pick (leb (holds r) (length l)) (first_ground inner behind) (fault_at i)) more) (fault_at i)

abbrev pub fault : ℕ → ℕ → List Record → Checked
fault d i l = fault_in (length l) d i l

-- the excess comes behind the 1,024th record, a broken record behind the whole ones
unfoldable pub excess : List ℕ → Checked
excess t = pick (leb (length (records_of t)) most_places) (pick (broken t) (fault_at (length (records_of t))) (Ok tt)) (fault_at most_places)

-- the records that are looked at: at most 1,024
abbrev pub front : List ℕ → List Record
front t = take most_places (records_of t)

-- ground 5 of a table, as a controller that allows T nested at most d deep gives it
unfoldable pub table_ground_to : ℕ → List ℕ → Checked
table_ground_to d t = first_ground (fault d 0 (front t)) (excess t)

-- at the depth that is allowed here
abbrev pub table_ground : List ℕ → Checked
table_ground t = table_ground_to most_depth t

-- ---- what "at fault" means of one record

-- the record with the index i, among records with d more levels of T allowed
pub data AtFault : ℕ → List Record → ℕ → Type 0 where
  range : {d : ℕ} {r : Record} {l : List Record} → in_range r ≡ false → AtFault d (r ∷ l) 0
  deep : {r : Record} {l : List Record} → r.kind ≡ t_kind → AtFault 0 (r ∷ l) 0
  past : {d : ℕ} {r : Record} {l : List Record} → r.kind ≡ t_kind → length l < holds r → AtFault d (r ∷ l) 0
  later : {d : ℕ} {r : Record} {l : List Record} {i : ℕ} → (r.kind ≡ t_kind → ⊥) → AtFault d l i → AtFault d (r ∷ l) (suc i)
  inner : {d : ℕ} {r : Record} {l : List Record} {i : ℕ} → r.kind ≡ t_kind → AtFault d (take (holds r) l) i → AtFault (suc d) (r ∷ l) (suc i)
  behind : {d : ℕ} {r : Record} {l : List Record} {i : ℕ} → r.kind ≡ t_kind → AtFault (suc d) (drop (holds r) l) i → AtFault (suc d) (r ∷ l) (suc (holds r + i))
