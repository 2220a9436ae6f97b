-- Reading a list part by part.
use mathlib.Core.Path.{◌≡◌, refl, ap, ◌∙◌}
use mathlib.Core.List.{List, [], ◌∷◌}
use mathlib.Core.Bool.{Bool, true, false}
use mathlib.Core.Logic.{⊎_elim}
use Prim.Native.Nat.{ℕ, zero, suc, ◌+◌, ◌-◌, ◌≤◌, ◌<◌}
use native.Mathlib.Omega.{arith}
use lib.ListN.{length, replicate}
use borrow.Author.Tests.{lt-ltb, le-ltb}
use Rattle.scan.specs.Scan.{pick, other}
use Rattle.scan.proofs.Laws.{span-end, span-low, le_or_lt}
use Rattle.numeral.specs.declared.Numeral.{Numeral}
use Rattle.lists.specs.declared.Numbers.{Numbers}
use Rattle.std.specs.Prelude.{Option, Some, None}
use Rattle.numeral.specs.Numeral.{too_long}
use Rattle.lists.specs.Lists.{Stretch, comma_to, split, parts, first_of}
use Rattle.lists.specs.Inner.{item_at, items, items_to, is_word, all_words, filled, first_long, pushed, numbers_of}

-- more fuel than there are bytes left changes nothing
fuel : (s : List ℕ) (e n m p : ℕ) → p ≤ e → e ≤ p + n → e ≤ p + m → split s e n p ≡ split s e m p
unfolding split
fuel s e zero zero p h a b = refl
fuel s e zero (suc m) p h a b =
    let z : comma_to s p e ≡ p = span-end (other 44) s p e (omega arith) in
    let y : p ≡ e = omega arith in
    rw (z, le-ltb p e (omega arith), y)
fuel s e (suc n) zero p h a b =
    let z : comma_to s p e ≡ p = span-end (other 44) s p e (omega arith) in
    let y : p ≡ e = omega arith in
    rw (z, le-ltb p e (omega arith), y)
fuel s e (suc n) (suc m) p h a b =
    let l = span-low (other 44) s (e - p) p in
    ⊎_elim
    (λ (k : e ≤ comma_to s p e). rw (le-ltb (comma_to s p e) e k))
    (λ (k : comma_to s p e < e). rw (lt-ltb (comma_to s p e) e k, fuel s e n m (comma_to s p e + 1) (omega arith) (omega arith) (omega arith)))
    (le_or_lt e (comma_to s p e))

-- the last part, and one with a comma behind it; the comma or the end is at c
module _ (s : List ℕ) (e p c : ℕ) (h : p ≤ e) (q : c ≡ comma_to s p e) where
  part : Stretch
  part = record { from = p; to = c }

  split_last : e ≤ c → c ≤ e → parts s p e ≡ part ∷ []
  unfolding split part
  split_last k m = go (e - p)
    where
      go : (n : ℕ) → split s e n p ≡ part ∷ []
      go zero =
          let y : c ≡ e = omega arith in
          rw y
      go (suc n) = rw (← q, le-ltb c e k)

  split-more : c < e → parts s p e ≡ part ∷ parts s (c + 1) e
  unfolding split part
  split-more k =
      let l = span-low (other 44) s (e - p) p in
      let z : e - p ≡ suc (e - (p + 1)) = omega arith in
      rw (z, ← q, lt-ltb c e k, fuel s e (e - (p + 1)) (e - (c + 1)) (c + 1) (omega arith) (omega arith) (omega arith))

  pub items_last : (whole : Bool) → e ≤ c → c ≤ e → items_to whole s p e ≡ item_at whole s p c ∷ []
  unfolding items part
  items_last whole k m = ap (items whole s) (split_last k m)

  pub items_more : (whole : Bool) → c < e → items_to whole s p e ≡ item_at whole s p c ∷ items_to whole s (c + 1) e
  unfolding items part
  items_more whole k = ap (items whole s) (split-more k)

-- where the reading of a list stands: what is found so far, and what is left
pub record Listing (full rest : List Numeral) (l : Numbers) : Type 0 where
  pub right : all_words full ≡ pick l.all (all_words rest) false
  pub count : l.count + length rest ≡ length full
  pub array : filled (replicate 7 0) 0 full ≡ filled l.words l.count rest
  pub first : first_long full ≡ first_of l.too_long (first_long rest)

pub listing_start : (full : List Numeral) → Listing full full (record { all = true; count = 0; words = replicate 7 0; too_long = None })
listing_start full = record { right = refl; count = omega arith; array = refl; first = refl }

pick_assoc : (x y z : Bool) → pick x (pick y z false) false ≡ pick (pick x y false) z false
pick_assoc true y z = refl
pick_assoc false y z = refl

first_assoc : (x y z : Option ℕ) → first_of x (first_of y z) ≡ first_of (first_of x y) z
first_assoc None y z = refl
first_assoc (Some p) y z = refl

pub listing_turn : {full rest : List Numeral} {x : Numeral} {l : Numbers} → Listing full (x ∷ rest) l → Listing full rest (pushed l x)
unfolding all_words filled first_long
listing_turn {full} {rest} {x} {l} h =
    record {
      right = h.right ∙ pick_assoc l.all (is_word x) (all_words rest);
      count = omega (arith, h.count);
      array = h.array;
      first = h.first ∙ first_assoc l.too_long (too_long x) (first_long rest);
    }

pick_end : (x : Bool) → pick x true false ≡ x
pick_end true = refl
pick_end false = refl

first-end : (x : Option ℕ) → first_of x None ≡ x
first-end None = refl
first-end (Some p) = refl

pub listing_end : {full : List Numeral} {l : Numbers} → Listing full [] l → l ≡ numbers_of full
unfolding all_words filled first_long
listing_end {full} {l} h =
    let m : length full ≡ l.count = omega (arith, h.count) in
    let b : all_words full ≡ l.all = h.right ∙ pick_end l.all in
    let f : first_long full ≡ l.too_long = h.first ∙ first-end l.too_long in
    rw (m, b, h.array, f)
