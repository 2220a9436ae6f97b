-- The range of a record by its kind: each arm of `in_range` is for kinds that have one row, and the arms are for all of them.
use mathlib.Core.Path.{◌≡◌, refl, sym, ap, ◌∙◌}
use mathlib.Core.List.{List, [], ◌∷◌, map}
use mathlib.Core.Bool.{Bool, true, false}
use mathlib.Core.Logic.{inl, inr}
use Prim.Native.Nat.{ℕ, ◌-◌, ◌≤◌}
use lib.Dec.{leb}
use lib.ListN.{length, get_or, replicate}
use types.Run.{OneOf}
use borrow.Author.Tests.{leb-true}
use Rattle.scan.specs.Scan.{pick, within, both}
use Rattle.tag.specs.declared.Record.{Record}
use Rattle.tag.specs.Range.{WordClass, Row, rows, no_row, row_fits, in_range}
use Rattle.table.specs.Inner.{words_fit}

-- the row of a kind
abbrev pub row_of : ℕ → Row
row_of k = pick (within 1 (length rows) k) (get_or rows (k - 1) no_row) no_row

abbrev fits : Row → Record → Bool
fits c r = both (row_fits c r) (c.join r)

pub never : (b : Bool) → pick b false false ≡ false
never true = refl
never false = refl

pub as_is : (b : Bool) → pick b true false ≡ b
as_is true = refl
as_is false = refl

-- a row that joins no words
pub unjoined : {v b : Bool} → v ≡ b → v ≡ pick b true false
unjoined {b = b} e = e ∙ sym (as_is b)

of_row : (r : Record) → in_range r ≡ fits (row_of r.kind) r
unfolding in_range
of_row r = go (within 1 (length rows) r.kind)
  where
    go : (b : Bool) → pick b (fits (get_or rows (r.kind - 1) no_row) r) false ≡ fits (pick b (get_or rows (r.kind - 1) no_row) no_row) r
    go true = refl
    go false = sym (never (row_fits no_row r))

-- ---- the kinds of an arm

-- they have one row
abbrev pub Same : Row → List ℕ → Type 0
Same c ks = map row_of ks ≡ replicate (length ks) c

one-row : (c : Row) (ks : List ℕ) → Same c ks → (x : ℕ) → OneOf ks x → row_of x ≡ c
one-row c [] e x h = absurd h
one-row c (k ∷ []) e x h = rw h (cc)
one-row c (k ∷ l ∷ ks) e x (inl h) = rw h (cc)
one-row c (k ∷ l ∷ ks) e x (inr h) = one-row c (l ∷ ks) (cc) x h

abbrev row_with : WordClass → WordClass → WordClass → WordClass → WordClass → WordClass → WordClass → (Record → Bool) → Row
row_with a b c d e f g j = record { c1 = a; c2 = b; c3 = c; c4 = d; c5 = e; c6 = f; c7 = g; join = j }

module _ (a b c d e f g : WordClass) (ks : List ℕ) where
  -- no rule joins their words
  pub of-kinds : Same (row_with a b c d e f g (λ r. true)) ks → (r : Record) → OneOf ks r.kind → words_fit a b c d e f g r ≡ in_range r
  of-kinds s r h =
      let z = one-row (row_with a b c d e f g (λ r. true)) ks s r.kind h in
      sym (of_row r ∙ ap (λ (x : Row). fits x r) z ∙ as_is (words_fit a b c d e f g r))

  -- a rule does
  pub of-joined : (j : Record → Bool) → Same (row_with a b c d e f g j) ks → (r : Record) → OneOf ks r.kind → both (words_fit a b c d e f g r) (j r) ≡ in_range r
  of-joined j s r h =
      let z = one-row (row_with a b c d e f g j) ks s r.kind h in
      sym (of_row r ∙ ap (λ (x : Row). fits x r) z)

-- a record whose kind is no kind is in no range
pub of_none : (r : Record) → (1 ≤ r.kind → r.kind ≤ 49 → ⊥) → false ≡ in_range r
unfolding in_range rows
of_none r n = go (leb 1 r.kind) (leb r.kind 49) refl refl
  where
    go : (u v : Bool) → leb 1 r.kind ≡ u → leb r.kind 49 ≡ v → false ≡ pick (pick u v false) (fits (get_or rows (r.kind - 1) no_row) r) false
    go true true h i = absurd (n (leb-true 1 r.kind h) (leb-true r.kind 49 i))
    go true false h i = refl
    go false v h i = refl
