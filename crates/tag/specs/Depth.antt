-- 02, N7: a table beside two controllers, one that allows T nested at most d deep and one that allows e, at least as many.
use Rattle.std.specs.Prelude.{◌≡◌, List, ◌∷◌, ◌⊎◌, ℕ, suc, ◌+◌, ◌≤◌, ◌<◌, take, drop}
use Rattle.refusal.specs.declared.Refusal.{Refusal}
use Rattle.refusal.specs.declared.Refusal.TheVariants.{TableMalformed}
use Rattle.tag.specs.declared.Record.{Record}
use Rattle.tag.specs.Tag.{most_depth}
use Rattle.tag.specs.WellFormed.{t_kind, holds, WellFormedTo, front, AtFault}

-- the record with the index i is a T, empty or not, that d others enclose: one too deep where d are allowed
pub data TooDeep : ℕ → List Record → ℕ → Type 0 where
  here : {r : Record} {l : List Record} → r.kind ≡ t_kind → TooDeep 0 (r ∷ l) 0
  later : {d : ℕ} {r : Record} {l : List Record} {i : ℕ} → (r.kind ≡ t_kind → ⊥) → TooDeep d l i → TooDeep d (r ∷ l) (suc i)
  inner : {d : ℕ} {r : Record} {l : List Record} {i : ℕ} → r.kind ≡ t_kind → TooDeep d (take (holds r) l) i → TooDeep (suc d) (r ∷ l) (suc i)
  behind : {d : ℕ} {r : Record} {l : List Record} {i : ℕ} → r.kind ≡ t_kind → TooDeep (suc d) (drop (holds r) l) i → TooDeep (suc d) (r ∷ l) (suc (holds r + i))

-- the first T too deep at d, with no record before it that is at fault also where e are allowed
pub record FirstDeep (d e : ℕ) (l : List Record) (place : ℕ) : Type 0 where
  pub deep : TooDeep d l place
  pub first : (k : ℕ) → k < place → TooDeep d l k → ⊥
  pub fine : (k : ℕ) → k < place → AtFault e l k → ⊥

-- a record at fault where d are allowed, up to the index k
pub record FaultUpTo (d : ℕ) (l : List Record) (k : ℕ) : Type 0 where
  pub place : ℕ
  pub low : place ≤ k
  pub fault : AtFault d l place

-- `answer k` is what a controller answers that allows k, and `refused` makes an answer of a refusal.

-- at d ground 5, its place the first T too deep
pub record RefusedAsDeep {A : Type 0} (d e : ℕ) (t : List ℕ) (answer : ℕ → A) (refused : Refusal → A) : Type 0 where
  pub place : ℕ
  pub is : FirstDeep d e (front t) place
  pub refusal : answer d ≡ refused (TableMalformed place)

-- both answer alike; where a T is too deep at d, another fault comes before it or is its own
pub record Alike {A : Type 0} (d e : ℕ) (t : List ℕ) (answer : ℕ → A) : Type 0 where
  pub is : answer d ≡ answer e
  pub other : (k : ℕ) → TooDeep d (front t) k → FaultUpTo e (front t) k

-- what 02 says, sentence by sentence
pub record Stored {A : Type 0} (d e : ℕ) (t : List ℕ) (answer : ℕ → A) (refused : Refusal → A) : Type 0 where
  -- "A table stored under the old limit stays well formed"
  pub formed : WellFormedTo d t → WellFormedTo e t
  -- "and evaluates to the same bits"
  pub same : WellFormedTo d t → answer d ≡ answer e
  -- "A controller still at eight meets a deeper stored table with refusal 5 at the first record that is too deep"
  pub deeper : WellFormedTo e t → (WellFormedTo d t → ⊥) → RefusedAsDeep d e t answer refused
  -- of any table, also one that is well formed for neither
  pub any : Alike d e t answer ⊎ RefusedAsDeep d e t answer refused

-- the same of a controller at the depth that is allowed here, beside one at any lesser depth
abbrev pub AtLessDepth : {A : Type 0} → List ℕ → (ℕ → A) → (Refusal → A) → Type 0
AtLessDepth t answer refused = (d : ℕ) → d ≤ most_depth → Stored d most_depth t answer refused
