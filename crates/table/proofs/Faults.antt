-- The first record at fault, from one record to the next.
use mathlib.Core.Path.{◌≡◌, refl, sym, ap, ◌∙◌}
use mathlib.Core.List.{List, [], ◌∷◌}
use mathlib.Core.Bool.{Bool, true, false, true≢false}
use Prim.Native.Nat.{ℕ, zero, suc, ◌+◌, ◌-◌, ◌≤◌, ◌<◌}
use native.Mathlib.Omega.{arith}
use native.Mathlib.Nat.{le_refl}
use lib.Dec.{leb, ltb, eqb}
use lib.ListN.{length, take, drop, length-take, length-drop}
use borrow.Author.Tests.{leb-true, ltb-true, eq-eqb, ne_eqb, lt-ltb, le-leb}
use Rattle.scan.specs.Scan.{pick, both}
use Rattle.refusal.specs.Refusal.{Checked}
use Rattle.std.specs.Prelude.{Ok, Err}
use Rattle.refusal.specs.declared.Refusal.{Refusal}
use Rattle.refusal.specs.declared.Refusal.TheVariants.{TableMalformed}
use Rattle.tag.specs.declared.Record.{Record}
use Rattle.tag.specs.Tag.{most_depth}
use Rattle.tag.specs.Range.{in_range}
use Rattle.refusal.specs.Answer.{first_ground}
use Rattle.tag.specs.WellFormed.{t_kind, holds, fault_in, fault}
use Rattle.tag.proofs.Formed.{bad_good}
use Rattle.table.specs.Inner.{record_in, part, Inside, of_kind, stands, t_stands, fault_of_t}
use Rattle.table.proofs.Slices.{inside-places, part-more, length_part, take_part, drop-part}

-- how many turns are allowed does not matter, where they are enough
turns : (n m d i : ℕ) (l : List Record) → length l ≤ n → length l ≤ m → fault_in n d i l ≡ fault_in m d i l
unfolding fault_in
turns zero zero d i l h g = refl
turns zero (suc m) zero i [] h g = refl
turns zero (suc m) (suc d) i [] h g = refl
turns zero (suc m) d i (r ∷ l) h g = absurd (omega arith)
turns (suc n) zero zero i [] h g = refl
turns (suc n) zero (suc d) i [] h g = refl
turns (suc n) zero d i (r ∷ l) h g = absurd (omega arith)
turns (suc n) (suc m) zero i [] h g = refl
turns (suc n) (suc m) (suc d) i [] h g = refl
turns (suc n) (suc m) zero i (r ∷ l) h g = rw (turns n m zero (i + 1) l (omega arith) (omega arith))
turns (suc n) (suc m) (suc d) i (r ∷ l) h g =
    rw (
      turns n m (suc d) (i + 1) l (omega arith) (omega arith),
      turns n m d (i + 1) (take (holds r) l) (omega (arith, length-take (holds r) l)) (omega (arith, length-take (holds r) l)),
      turns n m (suc d) (i + 1 + holds r) (drop (holds r) l) (omega (arith, length-drop (holds r) l)) (omega (arith, length-drop (holds r) l)),
    )

-- what a record that is not at fault shows
both_true : (a b : Bool) → both a b ≡ true → (a ≡ true) × (b ≡ true)
both_true true b e = (refl, e)
both_true false b e = absurd (true≢false (sym e))

pub t-stands : (left d : ℕ) (r : Record) → stands left d r ≡ true → r.kind ≡ t_kind → (0 < d) × (holds r ≤ left)
t-stands left d r e h =
    let f = both_true (in_range r) (both (ltb 0 d) (leb (holds r) left)) (rw (eq-eqb r.kind t_kind h) at e) in
    let g = both_true (ltb 0 d) (leb (holds r) left) f.1 in
    (ltb-true 0 d g.0, leb-true (holds r) left g.1)

in-range : (left d : ℕ) (r : Record) → stands left d r ≡ true → in_range r ≡ true
in-range left d r e = go (eqb r.kind t_kind) e
  where
    go : (b : Bool) → pick b (both (in_range r) (both (ltb 0 d) (leb (holds r) left))) (in_range r) ≡ true → in_range r ≡ true
    go true e = (both_true (in_range r) (both (ltb 0 d) (leb (holds r) left)) e).0
    go false e = e

out : (left d : ℕ) (r : Record) → in_range r ≡ false → stands left d r ≡ false
out left d r e = rw e (go (eqb r.kind t_kind))
  where
    go : (b : Bool) → pick b false false ≡ false
    go true = refl
    go false = refl

-- ---- one record and those behind it

fault_bad : (d i : ℕ) (r : Record) (l : List Record) → stands (length l) d r ≡ false → fault d i (r ∷ l) ≡ Err (TableMalformed i)
unfolding fault_in
fault_bad zero i r l e = go (in_range r) (eqb r.kind t_kind) e
  where
    go : (a b : Bool) → pick b (both a (both (ltb 0 zero) (leb (holds r) (length l)))) a ≡ false → pick a (pick b (Err (TableMalformed i)) (fault_in (length l) zero (i + 1) l)) (Err (TableMalformed i)) ≡ Err (TableMalformed i)
    go true true e = refl
    go true false e = absurd (true≢false e)
    go false b e = refl
fault_bad (suc d) i r l e = go (in_range r) (eqb r.kind t_kind) (leb (holds r) (length l)) (rw (lt-ltb 0 (suc d) (omega arith)) at e)
  where
    go : (a b c : Bool) → pick b (both a (pick true c false)) a ≡ false
        → pick a (pick b (pick c (first_ground (fault_in (length l) d (i + 1) (take (holds r) l)) (fault_in (length l) (suc d) (i + 1 + holds r) (drop (holds r) l))) (Err (TableMalformed i))) (fault_in (length l) (suc d) (i + 1) l)) (Err (TableMalformed i)) ≡ Err (TableMalformed i)
    go true true true e = absurd (true≢false e)
    go true true false e = refl
    go true false c e = absurd (true≢false e)
    go false b c e = refl

fault-plain : (d i : ℕ) (r : Record) (l : List Record) → in_range r ≡ true → (r.kind ≡ t_kind → ⊥) → fault d i (r ∷ l) ≡ fault d (i + 1) l
unfolding fault_in
fault-plain zero i r l e h = rw (e, ne_eqb r.kind t_kind h)
fault-plain (suc d) i r l e h = rw (e, ne_eqb r.kind t_kind h)

fault-t : (d i : ℕ) (r : Record) (l : List Record) → in_range r ≡ true → r.kind ≡ t_kind → 0 < d → holds r ≤ length l
    → fault d i (r ∷ l) ≡ first_ground (fault (d - 1) (i + 1) (take (holds r) l)) (fault d (i + 1 + holds r) (drop (holds r) l))
unfolding fault_in
fault-t zero i r l e h p q = absurd (omega arith)
fault-t (suc d) i r l e h p q =
    let z : suc d - 1 ≡ d = omega arith in
    let a = length-take (holds r) l in
    let b = length-drop (holds r) l in
    rw (
      e,
      eq-eqb r.kind t_kind h,
      le-leb (holds r) (length l) q,
      z,
      turns (length l) (length (take (holds r) l)) d (i + 1) (take (holds r) l) (omega arith) (le_refl _),
      turns (length l) (length (drop (holds r) l)) (suc d) (i + 1 + holds r) (drop (holds r) l) (omega arith) (le_refl _),
    )

-- ---- the same in a table

pub none_left : (t : List ℕ) (d at left : ℕ) → left ≡ 0 → fault d at (part t at left) ≡ Ok tt
unfolding fault_in
none_left t d at left e = rw e

module _ (t : List ℕ) (d at left : ℕ) (h : Inside t at left) (g : 0 < left) where
  abbrev r : Record
  r = record_in t at

  abbrev behind : List Record
  behind = part t (at + 1) (left - 1)

  here : part t at left ≡ r ∷ behind
  here = let p = inside-places t at left h in part-more t at left (omega arith) g

  size : length behind ≡ left - 1
  size = let p = inside-places t at left h in length_part t (at + 1) (left - 1) (omega arith)

  pub step_bad : stands (left - 1) d r ≡ false → fault d at (part t at left) ≡ Err (TableMalformed at)
  step_bad e = ap (fault d at) here ∙ fault_bad d at r behind (rw size e)

  pub step_plain : stands (left - 1) d r ≡ true → (r.kind ≡ t_kind → ⊥) → fault d at (part t at left) ≡ fault d (at + 1) behind
  step_plain e n = ap (fault d at) here ∙ fault-plain d at r behind (in-range (left - 1) d r e) n

  pub step_t : stands (left - 1) d r ≡ true → r.kind ≡ t_kind
      → fault d at (part t at left) ≡ first_ground (fault (d - 1) (at + 1) (part t (at + 1) (holds r))) (fault d (at + 1 + holds r) (part t (at + 1 + holds r) (left - 1 - holds r)))
  step_t e k =
      let s = t-stands (left - 1) d r e k in
      let f = fault-t d at r behind (in-range (left - 1) d r e) k s.0 (rw size s.1) in
      ap (fault d at) here ∙ f ∙ rw (take_part t (at + 1) (left - 1) (holds r) s.1, drop-part t (at + 1) (left - 1) (holds r) s.1)

  -- a record of the kind k that was asked whether it fits that kind
  module _ (x : Record) (e : x ≡ r) (k : ℕ) (q : x.kind ≡ k) (v : Bool) (s : v ≡ in_range (of_kind k x)) where
    own : v ≡ in_range r
    own = s ∙ ap (λ (j : ℕ). in_range (of_kind j x)) (sym q) ∙ ap in_range e

    pub kind_bad : v ≡ false → Err (TableMalformed at) ≡ fault d at (part t at left)
    kind_bad z = sym (step_bad (out (left - 1) d r (sym own ∙ z)))

    pub kind-plain : v ≡ true → eqb k t_kind ≡ false → fault d (at + 1) behind ≡ fault d at (part t at left)
    kind-plain z n = sym (ap (fault d at) here ∙ fault-plain d at r behind (sym own ∙ z) (λ y. true≢false (sym (eq-eqb k t_kind (sym q ∙ ap (λ (w : Record). w.kind) e ∙ y)) ∙ n)))

  -- a turn of the loop, by what the code has found
  module _ (x : Record) (e : x ≡ r) (v : Bool) (s : v ≡ stands (left - 1) d x) where
    pub turn_bad : v ≡ false → Err (TableMalformed at) ≡ fault d at (part t at left)
    turn_bad z = sym (step_bad (sym (ap (stands (left - 1) d) e) ∙ sym s ∙ z))

    pub turn_plain : v ≡ true → (x.kind ≡ t_kind → ⊥) → fault d (at + 1) (part t (at + 1) (left - 1)) ≡ fault d at (part t at left)
    turn_plain z k = sym (step_plain (sym (ap (stands (left - 1) d) e) ∙ sym s ∙ z) (rw e at k))

    module _ (z : v ≡ true) (k : x.kind ≡ t_kind) where
      pub turn_room : (0 < d) × (holds x ≤ left - 1)
      turn_room = t-stands (left - 1) d x (sym s ∙ z) k

      turn_t : fault d at (part t at left) ≡ first_ground (fault (d - 1) (at + 1) (part t (at + 1) (holds x))) (fault d (at + 1 + holds x) (part t (at + 1 + holds x) (left - 1 - holds x)))
      turn_t = step_t (sym (ap (stands (left - 1) d) e) ∙ sym s ∙ z) (sym (ap (λ (y : Record). y.kind) e) ∙ k) ∙ rw e refl

      pub turn_in : (c : Checked) → c ≡ fault (d - 1) (at + 1) (part t (at + 1) (holds x)) → (b : Refusal) → c ≡ Err b → Err b ≡ fault d at (part t at left)
      turn_in c f b g = sym (turn_t ∙ ap (λ (y : Checked). first_ground y (fault d (at + 1 + holds x) (part t (at + 1 + holds x) (left - 1 - holds x)))) (sym f ∙ g))

      pub turn_past : (c : Checked) → c ≡ fault (d - 1) (at + 1) (part t (at + 1) (holds x)) → c ≡ Ok tt → fault d (at + 1 + holds x) (part t (at + 1 + holds x) (left - 1 - holds x)) ≡ fault d at (part t at left)
      turn_past c f g = sym (turn_t ∙ ap (λ (y : Checked). first_ground y (fault d (at + 1 + holds x) (part t (at + 1 + holds x) (left - 1 - holds x)))) (sym f ∙ g))

-- ---- a T

-- what the code has found of one, as of any record
pub t_as_stands : (left d : ℕ) (x : Record) {v : Bool} → x.kind ≡ t_kind → v ≡ t_stands left d x → v ≡ stands left d x
t_as_stands left d x k s = s ∙ ap (λ (j : ℕ). both (in_range (of_kind j x)) (both (ltb 0 d) (leb (holds x) left))) (sym k) ∙ rw (eq-eqb x.kind t_kind k) refl

-- ---- a T that is in no other

-- what the code has found of one
module _ (t : List ℕ) (at n : ℕ) (x : Record) {u v : Bool} (p : u ≡ in_range (of_kind t_kind x)) (q : v ≡ both u (leb (holds x) n)) where
  pub t_missed : v ≡ false → Err (TableMalformed at) ≡ fault_of_t t at n x
  unfolding fault_of_t
  t_missed z = rw (sym p, sym q, z)

  pub t-passed : v ≡ true → {c : Checked} → c ≡ fault (most_depth - 1) (at + 1) (part t (at + 1) (holds x)) → c ≡ fault_of_t t at n x
  unfolding fault_of_t
  t-passed z e = rw (sym p, sym q, z, e)

  pub t-reach : v ≡ true → holds x ≤ n
  t-reach z = leb-true (holds x) n (both_true u (leb (holds x) n) (sym q ∙ z)).1

module _ (t : List ℕ) (at left : ℕ) (h : Inside t at left) (g : 0 < left) (x : Record) (e : x ≡ record_in t at) (k : x.kind ≡ t_kind) (c : Checked) (f : c ≡ fault_of_t t at (left - 1) x) where
  abbrev found : Bool → Checked
  found v = pick v (fault (most_depth - 1) (at + 1) (part t (at + 1) (holds x))) (Err (TableMalformed at))

  by_stands : (v : Bool) → v ≡ stands (left - 1) most_depth x → c ≡ found v
  unfolding fault_of_t
  by_stands v s = f ∙ rw (s, eq-eqb x.kind t_kind k) (ap (λ (j : ℕ). found (both (in_range (of_kind j x)) (leb (holds x) (left - 1)))) (sym k))

  bad_by : (v : Bool) → v ≡ stands (left - 1) most_depth x → (b : Refusal) → c ≡ Err b → Err b ≡ fault most_depth at (part t at left)
  bad_by false s b y = sym y ∙ by_stands false s ∙ turn_bad t most_depth at left h g x e false s refl
  bad_by true s b y = turn_in t most_depth at left h g x e true s refl k c (by_stands true s) b y

  good_by : (v : Bool) → v ≡ stands (left - 1) most_depth x → c ≡ Ok tt → (holds x ≤ left - 1) × (fault most_depth (at + 1 + holds x) (part t (at + 1 + holds x) (left - 1 - holds x)) ≡ fault most_depth at (part t at left))
  good_by false s y = absurd (bad_good (sym (by_stands false s) ∙ y))
  good_by true s y = ((turn_room t most_depth at left h g x e true s refl k).1, turn_past t most_depth at left h g x e true s refl k c (by_stands true s) y)

  pub top_bad : (b : Refusal) → c ≡ Err b → Err b ≡ fault most_depth at (part t at left)
  top_bad b y = bad_by _ refl b y

  pub top_past : c ≡ Ok tt → (holds x ≤ left - 1) × (fault most_depth (at + 1 + holds x) (part t (at + 1 + holds x) (left - 1 - holds x)) ≡ fault most_depth at (part t at left))
  top_past y = good_by _ refl y
