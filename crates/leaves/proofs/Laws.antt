-- What a list leaf answers and leaves, case by case; std's test of a float.
use mathlib.Core.Path.{◌≡◌, refl, ap, subst, ◌∙◌}
use mathlib.Core.List.{List}
use mathlib.Core.Bool.{Bool, true, false}
use Prim.Native.Nat.{ℕ, suc, ◌+◌, ◌≤◌, ◌<◌}
use native.Mathlib.Numerals.{add-one}
use native.Mathlib.Omega.{arith}
use lib.ListN.{length, get_or, set}
use lib.Seq.{paste, paste-suc}
use borrow.Author.Tests.{le-leb, lt-leb}
use Rattle.lists.specs.Inner.{items_to, numbers_of}
use Rattle.lists.specs.declared.Numbers.{Numbers}
use lib.Ieee.{Float, nan, inf, fin, lt}
use Rattle.std.specs.Float.{float_is_finite}
use Rattle.leaves.specs.Leaves.{leaf, packed_list, packed_place, list_leaf, laid, list_words, finite}

-- one word after another
pub lay_step : (o w : List ℕ) (i : ℕ) → i < length o → i < length w → set (paste o 0 w i) i (get_or w i 0) ≡ paste o 0 w (i + 1)
lay_step o w i h k =
    let z : 0 + i ≡ i = omega arith in
    rw add-one (subst (λ (j : ℕ). set (paste o 0 w i) j (get_or w i 0) ≡ paste o 0 w (suc i)) z (paste-suc o 0 w i 0 (omega arith) k))

module _ (whole : Bool) (s out : List ℕ) where
  -- what a list leaf answers and leaves
  abbrev Listed : ℕ → List ℕ → Type 0
  Listed r after = (r ≡ leaf (list_leaf whole) s) × (after ≡ list_words whole s out)

  pub listed-long : 12288 < length s → Listed 0 out
  listed-long h = rw (lt-leb (length s) 12288 h) (refl, refl)

  module _ (n : Numbers) (r : ℕ) (h : length s ≤ 12288) (q : n ≡ numbers_of (items_to whole s 0 (length s))) (e : r ≡ packed_list n.all n.count) where
    answer : r ≡ leaf (list_leaf whole) s
    answer = rw (le-leb (length s) 12288 h) (e ∙ ap (λ (x : Numbers). packed_list x.all x.count) q)

    pub listed-few : length out < 8 → Listed r out
    listed-few k = (answer, rw (le-leb (length s) 12288 h, lt-leb 8 (length out) k))

    pub listed-laid : (place : ℕ) (after : List ℕ) → 8 ≤ length out → place ≡ packed_place n.too_long → after ≡ laid out n.words place → Listed r after
    listed-laid place after k f g = (
      answer,
      rw (le-leb (length s) 12288 h, le-leb 8 (length out) k) (g ∙ ap (λ (p : ℕ). laid out n.words p) f ∙ ap (λ (x : Numbers). laid out x.words (packed_place x.too_long)) q),
    )

-- std's test of a float
pub finite_is : (x : Float) → float_is_finite x ≡ finite x
unfolding float_is_finite lt
finite_is nan = refl
finite_is (inf true) = refl
finite_is (inf false) = refl
finite_is (fin s m e) = refl
