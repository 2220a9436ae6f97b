-- 01, ground 5: no record is at fault exactly when the table is well formed, and the record named is the first at fault.
use mathlib.Core.Path.{◌≡◌, refl, sym, subst, ◌∙◌}
use mathlib.Core.List.{List, [], ◌∷◌, ◌++◌}
use mathlib.Core.Bool.{Bool, true, false, true≢false}
use mathlib.Core.Logic.{◌⊎◌, inl, inr, ⊎_elim}
use Prim.Native.Nat.{ℕ, zero, suc, ◌+◌, ◌≤◌, ◌<◌}
use native.Mathlib.Omega.{arith}
use native.Mathlib.Nat.{le_refl}
use lib.Dec.{leb, eqb}
use lib.ListN.{length, take, drop, length-take, length-drop, take-append-drop}
use lib.Seq.{take_all}
use borrow.Author.Tests.{le-leb, eq-eqb, ne_eqb, leb-true, leb-false, eqb-true}
use Rattle.scan.specs.Scan.{pick}
use Rattle.refusal.specs.Refusal.{Checked, most_places}
use Rattle.std.specs.Prelude.{Ok, Err}
use Rattle.refusal.specs.declared.Refusal.{Refusal}
use Rattle.refusal.specs.declared.Refusal.TheVariants.{TableMalformed}
use Rattle.tag.specs.declared.Record.{Record}
use Rattle.tag.specs.Range.{in_range}
use Rattle.refusal.specs.Answer.{first_ground}
use Rattle.tag.specs.WellFormed.{records_of, broken, All, all, more, InRange, t_kind, holds, Nested, end, plain, around, WellFormedTo, fault_at, fault_in, fault, excess, front, table_ground_to, AtFault, range, deep, past, later, inner, behind}

-- ---- lists

pub all_append : {A : Type 0} {P : A → Type 0} {a b : List A} → All P a → All P b → All P (a ++ b)
all_append all k = k
all_append (more h l) k = more h (all_append l k)

pub all_map : {A : Type 0} {P Q : A → Type 0} → ((x : A) → P x → Q x) → {l : List A} → All P l → All Q l
all_map f all = all
all_map f (more {x = x} h l) = more (f x h) (all_map f l)

pub all_take : {A : Type 0} {P : A → Type 0} (n : ℕ) {l : List A} → All P l → All P (take n l)
all_take zero h = all
all_take (suc n) all = all
all_take (suc n) (more h l) = more h (all_take n l)

pub all_drop : {A : Type 0} {P : A → Type 0} (n : ℕ) {l : List A} → All P l → All P (drop n l)
all_drop zero h = h
all_drop (suc n) all = all
all_drop (suc n) (more h l) = all_drop n l

all-parts : {A : Type 0} {P : A → Type 0} (n : ℕ) (l : List A) → All P (take n l) → All P (drop n l) → All P l
all-parts {A} {P} n l a b = subst (All P) (take-append-drop n l) (all_append a b)

-- ---- a fault and its place

pub bad_good : {r : Refusal} → ◌≡◌ {A = Checked} (Err r) (Ok tt) → ⊥
bad_good e = let z : ◌≡◌ {A = ℕ} 0 1 = cc in omega arith

pub first_good : (a b : Checked) → first_ground a b ≡ Ok tt → (a ≡ Ok tt) × (b ≡ Ok tt)
first_good (Ok _) b e = (refl, e)
first_good (Err r) b e = absurd (bad_good e)

fault-inside : {d : ℕ} {l : List Record} {i : ℕ} → AtFault d l i → i < length l
fault-inside (range h) = omega arith
fault-inside (deep h) = omega arith
fault-inside (past h k) = omega arith
fault-inside (later h f) = let g = fault-inside f in omega arith
fault-inside (inner {r = r} {l = l} h f) = let g = fault-inside f in omega (arith, length-take (holds r) l)
fault-inside (behind {r = r} {l = l} h f) = let g = fault-inside f in omega (arith, length-drop (holds r) l)

-- well-formed records have none
no-fault : {d : ℕ} {l : List Record} {i : ℕ} → All InRange l → Nested d l → AtFault d l i → ⊥
no-fault (more a l) n (range h) = true≢false (sym a ∙ h)
no-fault (more a l) (plain k n) (deep h) = k h
no-fault (more a l) (plain k n) (past h g) = k h
no-fault (more a l) (around k g m n) (past h f) = omega arith
no-fault (more a l) (plain k n) (later h f) = no-fault l n f
no-fault (more a l) (around k g m n) (later h f) = h k
no-fault (more a l) (plain k n) (inner h f) = k h
no-fault (more a l) (around {r = r} k g m n) (inner h f) = no-fault (all_take (holds r) l) m f
no-fault (more a l) (plain k n) (behind h f) = k h
no-fault (more a l) (around {r = r} k g m n) (behind h f) = no-fault (all_drop (holds r) l) n f
no-fault {i = i} all n f = elim f [ ]

-- ---- what no fault says

record Fine (d : ℕ) (l : List Record) : Type 0 where
  ranges : All InRange l
  nested : Nested d l

no-t : (r : Record) → eqb r.kind t_kind ≡ false → r.kind ≡ t_kind → ⊥
no-t r e h = true≢false (sym (eq-eqb r.kind t_kind h) ∙ e)

fine-plain : {d : ℕ} (r : Record) {l : List Record} → in_range r ≡ true → eqb r.kind t_kind ≡ false → Fine d l → Fine d (r ∷ l)
fine-plain r a b f = record { ranges = more a f.ranges; nested = plain (no-t r b) f.nested }

fine-t : {d : ℕ} (r : Record) (l : List Record) → in_range r ≡ true → eqb r.kind t_kind ≡ true → leb (holds r) (length l) ≡ true → Fine d (take (holds r) l) → Fine (suc d) (drop (holds r) l) → Fine (suc d) (r ∷ l)
fine-t r l a b c f g =
    record {
      ranges = more a (all-parts (holds r) l f.ranges g.ranges);
      nested = around (eqb-true r.kind t_kind b) (leb-true (holds r) (length l) c) f.nested g.nested;
    }

fault-fine : (n d i : ℕ) (l : List Record) → length l ≤ n → fault_in n d i l ≡ Ok tt → Fine d l
unfolding fault_in
fault-fine zero d i [] h e = record { ranges = all; nested = end }
fault-fine zero d i (r ∷ l) h e = absurd (omega arith)
fault-fine (suc n) zero i [] h e = record { ranges = all; nested = end }
fault-fine (suc n) (suc d) i [] h e = record { ranges = all; nested = end }
fault-fine (suc n) zero i (r ∷ l) h e = go (in_range r) (eqb r.kind t_kind) refl refl e (λ f. fault-fine n zero (i + 1) l (omega arith) f)
  where
    go : (t u : Bool) → in_range r ≡ t → eqb r.kind t_kind ≡ u → pick t (pick u (fault_at i) (fault_in n zero (i + 1) l)) (fault_at i) ≡ Ok tt → (fault_in n zero (i + 1) l ≡ Ok tt → Fine zero l) → Fine zero (r ∷ l)
    go true true a b e f = absurd (bad_good e)
    go true false a b e f = fine-plain r a b (f e)
    go false u a b e f = absurd (bad_good e)
fault-fine (suc n) (suc d) i (r ∷ l) h e =
    go (in_range r) (eqb r.kind t_kind) (leb (holds r) (length l)) refl refl refl e
    (λ f. fault-fine n (suc d) (i + 1) l (omega arith) f)
    (λ f. fault-fine n d (i + 1) (take (holds r) l) (omega (arith, length-take (holds r) l)) f)
    (λ f. fault-fine n (suc d) (i + 1 + holds r) (drop (holds r) l) (omega (arith, length-drop (holds r) l)) f)
  where
    go : (t u v : Bool) → in_range r ≡ t → eqb r.kind t_kind ≡ u → leb (holds r) (length l) ≡ v
        → pick t (pick u (pick v (first_ground (fault_in n d (i + 1) (take (holds r) l)) (fault_in n (suc d) (i + 1 + holds r) (drop (holds r) l))) (fault_at i)) (fault_in n (suc d) (i + 1) l)) (fault_at i) ≡ Ok tt
        → (fault_in n (suc d) (i + 1) l ≡ Ok tt → Fine (suc d) l)
        → (fault_in n d (i + 1) (take (holds r) l) ≡ Ok tt → Fine d (take (holds r) l))
        → (fault_in n (suc d) (i + 1 + holds r) (drop (holds r) l) ≡ Ok tt → Fine (suc d) (drop (holds r) l)) → Fine (suc d) (r ∷ l)
    go true true true a b c e f g k =
        let w = first_good (fault_in n d (i + 1) (take (holds r) l)) (fault_in n (suc d) (i + 1 + holds r) (drop (holds r) l)) e in
        fine-t r l a b c (g w.0) (k w.1)
    go true true false a b c e f g k = absurd (bad_good e)
    go true false v a b c e f g k = fine-plain r a b (f e)
    go false u v a b c e f g k = absurd (bad_good e)

-- ---- and back

fine-fault : (n d i : ℕ) {l : List Record} → length l ≤ n → All InRange l → Nested d l → fault_in n d i l ≡ Ok tt
unfolding fault_in
fine-fault zero d i h a m = refl
fine-fault (suc n) zero i h all end = refl
fine-fault (suc n) (suc d) i h all end = refl
fine-fault (suc n) zero i h (more {x = r} a l) (plain k m) = rw (a, ne_eqb r.kind t_kind k) (fine-fault n zero (i + 1) (omega arith) l m)
fine-fault (suc n) (suc d) i h (more {x = r} a l) (plain k m) = rw (a, ne_eqb r.kind t_kind k) (fine-fault n (suc d) (i + 1) (omega arith) l m)
fine-fault (suc n) (suc d) i h (more {x = r} {l = rs} a l) (around k g m o) =
    rw (
      a,
      eq-eqb r.kind t_kind k,
      le-leb (holds r) (length rs) g,
      fine-fault n d (i + 1) (omega (arith, length-take (holds r) rs)) (all_take (holds r) l) m,
    )
    (fine-fault n (suc d) (i + 1 + holds r) (omega (arith, length-drop (holds r) rs)) (all_drop (holds r) l) o)

-- ---- the first

-- the refusal names a record at fault, and none before it is
pub record FirstFault (d i : ℕ) (l : List Record) (b : Refusal) : Type 0 where
  pub place : ℕ
  pub is : b ≡ TableMalformed (i + place)
  pub fault : AtFault d l place
  pub none : (k : ℕ) → k < place → AtFault d l k → ⊥

here : {d i : ℕ} {l : List Record} {b : Refusal} → fault_at i ≡ Err b → AtFault d l 0 → FirstFault d i l b
here {i = i} e f = record { place = 0; is = let z : i + 0 ≡ i = omega arith in rw z (cc); fault = f; none = λ k h g. omega arith }

-- none before a record that comes behind a plain one, inside a T, or behind one
none-plain : {d : ℕ} {r : Record} {l : List Record} {p k : ℕ} → in_range r ≡ true → (r.kind ≡ t_kind → ⊥) → ((j : ℕ) → j < p → AtFault d l j → ⊥) → k < suc p → AtFault d (r ∷ l) k → ⊥
none-plain a e f h (range g) = true≢false (sym a ∙ g)
none-plain a e f h (deep g) = e g
none-plain a e f h (past g m) = e g
none-plain a e f h (later {i = j} g m) = f j (omega arith) m
none-plain a e f h (inner g m) = e g
none-plain a e f h (behind g m) = e g

none-inner : {d : ℕ} {r : Record} {l : List Record} {p k : ℕ} → in_range r ≡ true → r.kind ≡ t_kind → holds r ≤ length l → p < holds r → ((j : ℕ) → j < p → AtFault d (take (holds r) l) j → ⊥) → k < suc p → AtFault (suc d) (r ∷ l) k → ⊥
none-inner a e c q f h (range g) = true≢false (sym a ∙ g)
none-inner a e c q f h (past g m) = omega arith
none-inner a e c q f h (later g m) = g e
none-inner a e c q f h (inner {i = j} g m) = f j (omega arith) m
none-inner a e c q f h (behind g m) = omega arith

none-behind : {d : ℕ} {r : Record} {l : List Record} {p k : ℕ} → in_range r ≡ true → r.kind ≡ t_kind → holds r ≤ length l → Fine d (take (holds r) l) → ((j : ℕ) → j < p → AtFault (suc d) (drop (holds r) l) j → ⊥) → k < suc (holds r + p) → AtFault (suc d) (r ∷ l) k → ⊥
none-behind a e c q f h (range g) = true≢false (sym a ∙ g)
none-behind a e c q f h (past g m) = omega arith
none-behind a e c q f h (later g m) = g e
none-behind a e c q f h (inner g m) = no-fault q.ranges q.nested m
none-behind a e c q f h (behind {i = j} g m) = f j (omega arith) m

first_plain : {d i : ℕ} (r : Record) {l : List Record} {b : Refusal} → in_range r ≡ true → eqb r.kind t_kind ≡ false → FirstFault d (i + 1) l b → FirstFault d i (r ∷ l) b
first_plain {d} {i} r {l} a e f =
    let z : i + suc f.place ≡ i + 1 + f.place = omega arith in
    record { place = suc f.place; is = rw z f.is; fault = later (no-t r e) f.fault; none = λ k h g. none-plain a (no-t r e) f.none h g }

module _ {d i : ℕ} (r : Record) (l : List Record) {b : Refusal} (a : in_range r ≡ true) (e : eqb r.kind t_kind ≡ true) (c : leb (holds r) (length l) ≡ true) where
  first_inner : FirstFault d (i + 1) (take (holds r) l) b → FirstFault (suc d) i (r ∷ l) b
  first_inner f =
      let z : i + suc f.place ≡ i + 1 + f.place = omega arith in
      let w = eqb-true r.kind t_kind e in
      record { place = suc f.place; is = rw z f.is; fault = inner w f.fault; none = λ k h g. none-inner a w (leb-true (holds r) (length l) c) (omega (arith, fault-inside f.fault, length-take (holds r) l)) f.none h g }

  first-behind : Fine d (take (holds r) l) → FirstFault (suc d) (i + 1 + holds r) (drop (holds r) l) b → FirstFault (suc d) i (r ∷ l) b
  first-behind q f =
      let z : i + suc (holds r + f.place) ≡ i + 1 + holds r + f.place = omega arith in
      let w = eqb-true r.kind t_kind e in
      record { place = suc (holds r + f.place); is = rw z f.is; fault = behind w f.fault; none = λ k h g. none-behind a w (leb-true (holds r) (length l) c) q f.none h g }

first_bad : (a b : Checked) {x : Refusal} → first_ground a b ≡ Err x → (a ≡ Err x) ⊎ ((a ≡ Ok tt) × (b ≡ Err x))
first_bad (Ok _) b e = inr (refl, e)
first_bad (Err r) b e = inl e

fault-first : (n d i : ℕ) (l : List Record) {b : Refusal} → length l ≤ n → fault_in n d i l ≡ Err b → FirstFault d i l b
unfolding fault_in
fault-first zero d i l h e = absurd (bad_good (sym e))
fault-first (suc n) zero i [] h e = absurd (bad_good (sym e))
fault-first (suc n) (suc d) i [] h e = absurd (bad_good (sym e))
fault-first (suc n) zero i (r ∷ l) {b} h e = go (in_range r) (eqb r.kind t_kind) refl refl e (λ f. fault-first n zero (i + 1) l (omega arith) f)
  where
    go : (t u : Bool) → in_range r ≡ t → eqb r.kind t_kind ≡ u → pick t (pick u (fault_at i) (fault_in n zero (i + 1) l)) (fault_at i) ≡ Err b → (fault_in n zero (i + 1) l ≡ Err b → FirstFault zero (i + 1) l b) → FirstFault zero i (r ∷ l) b
    go true true a w e f = here e (deep (eqb-true r.kind t_kind w))
    go true false a w e f = first_plain r a w (f e)
    go false u a w e f = here e (range a)
fault-first (suc n) (suc d) i (r ∷ l) {b} h e =
    go (in_range r) (eqb r.kind t_kind) (leb (holds r) (length l)) refl refl refl e
    (λ f. fault-first n (suc d) (i + 1) l (omega arith) f)
    (λ f. fault-first n d (i + 1) (take (holds r) l) (omega (arith, length-take (holds r) l)) f)
    (λ f. fault-fine n d (i + 1) (take (holds r) l) (omega (arith, length-take (holds r) l)) f)
    (λ f. fault-first n (suc d) (i + 1 + holds r) (drop (holds r) l) (omega (arith, length-drop (holds r) l)) f)
  where
    go : (t u v : Bool) → in_range r ≡ t → eqb r.kind t_kind ≡ u → leb (holds r) (length l) ≡ v
        → pick t (pick u (pick v (first_ground (fault_in n d (i + 1) (take (holds r) l)) (fault_in n (suc d) (i + 1 + holds r) (drop (holds r) l))) (fault_at i)) (fault_in n (suc d) (i + 1) l)) (fault_at i) ≡ Err b
        → (fault_in n (suc d) (i + 1) l ≡ Err b → FirstFault (suc d) (i + 1) l b)
        → (fault_in n d (i + 1) (take (holds r) l) ≡ Err b → FirstFault d (i + 1) (take (holds r) l) b)
        → (fault_in n d (i + 1) (take (holds r) l) ≡ Ok tt → Fine d (take (holds r) l))
        → (fault_in n (suc d) (i + 1 + holds r) (drop (holds r) l) ≡ Err b → FirstFault (suc d) (i + 1 + holds r) (drop (holds r) l) b) → FirstFault (suc d) i (r ∷ l) b
    go true true true a w c e f g q k =
        ⊎_elim
        (λ x. first_inner r l a w c (g x))
        (λ x. first-behind r l a w c (q x.0) (k x.1))
        (first_bad (fault_in n d (i + 1) (take (holds r) l)) (fault_in n (suc d) (i + 1 + holds r) (drop (holds r) l)) e)
    go true true false a w c e f g q k = here e (past (eqb-true r.kind t_kind w) (leb-false (holds r) (length l) c))
    go true false v a w c e f g q k = first_plain r a w (f e)
    go false u v a w c e f g q k = here e (range a)

-- ---- a table

module _ (t : List ℕ) where
  abbrev rs : List Record
  rs = records_of t

  -- ground 5 names the first record at fault; or, where none of the first 1,024 is, the 1,025th, or the broken one behind the last
  pub data Named (d : ℕ) : Refusal → Type 0 where
    record-at-fault : {b : Refusal} → FirstFault d 0 (front t) b → Named d b
    too_many : ((k : ℕ) → AtFault d (front t) k → ⊥) → most_places < length rs → Named d (TableMalformed most_places)
    broken_last : ((k : ℕ) → AtFault d (front t) k → ⊥) → length rs ≤ most_places → broken t ≡ true → Named d (TableMalformed (length rs))

  module _ {d : ℕ} where
    -- no ground 5: the table is well formed
    pub ground-formed : table_ground_to d t ≡ Ok tt → WellFormedTo d t
    unfolding table_ground_to excess
    ground-formed e =
        let w = first_good (fault d 0 (front t)) (excess t) e in
        go (leb (length rs) most_places) (broken t) refl refl w.1 (fault-fine (length (front t)) d 0 (front t) (le_refl _) w.0)
      where
        go : (u v : Bool) → leb (length rs) most_places ≡ u → broken t ≡ v → pick u (pick v (fault_at (length rs)) (Ok tt)) (fault_at most_places) ≡ Ok tt → Fine d (front t) → WellFormedTo d t
        go true true a b e f = absurd (bad_good e)
        go true false a b e f =
            let few = leb-true (length rs) most_places a in
            let z : front t ≡ rs = take_all most_places rs few in
            record { few = few; whole = b; ranges = rw z at f.ranges; around = rw z at f.nested }
        go false v a b e f = absurd (bad_good e)

    -- a well-formed table has no ground 5
    pub formed-ground : WellFormedTo d t → table_ground_to d t ≡ Ok tt
    unfolding table_ground_to excess
    formed-ground w =
        let z : front t ≡ rs = take_all most_places rs w.few in
        rw (z, fine-fault (length rs) d 0 (le_refl _) w.ranges w.around, le-leb (length rs) most_places w.few, w.whole)

    -- what ground 5 is: the first at fault of the first 1,024, or, where none is, what comes behind them
    pub look : {C : Type 0} → (((k : ℕ) → AtFault d (front t) k → ⊥) → table_ground_to d t ≡ excess t → C) → ((b : Refusal) → FirstFault d 0 (front t) b → table_ground_to d t ≡ Err b → C) → C
    unfolding table_ground_to
    look {C} f g = go (fault d 0 (front t)) refl
      where
        go : (c : Checked) → fault d 0 (front t) ≡ c → C
        go (Ok _) e = let w = fault-fine (length (front t)) d 0 (front t) (le_refl _) e in f (λ k x. no-fault w.ranges w.nested x) (rw e refl)
        go (Err b) e = g b (fault-first (length (front t)) d 0 (front t) (le_refl _) e) (rw e refl)

    pub ground-first : (b : Refusal) → table_ground_to d t ≡ Err b → Named d b
    unfolding excess
    ground-first b e = look (λ none x. go (leb (length rs) most_places) (broken t) refl refl (sym x ∙ e) none) (λ y f g. let k : ◌≡◌ {A = Checked} (Err y) (Err b) = sym g ∙ e in let z : y ≡ b = cc in rw z at (record-at-fault f))
      where
        go : (u v : Bool) → leb (length rs) most_places ≡ u → broken t ≡ v → pick u (pick v (fault_at (length rs)) (Ok tt)) (fault_at most_places) ≡ Err b → ((k : ℕ) → AtFault d (front t) k → ⊥) → Named d b
        go true true p q e f = let z : TableMalformed (length rs) ≡ b = cc in rw z at (broken_last f (leb-true (length rs) most_places p) q)
        go true false p q e f = absurd (bad_good (sym e))
        go false v p q e f = let z : TableMalformed most_places ≡ b = cc in rw z at (too_many f (leb-false (length rs) most_places p))
