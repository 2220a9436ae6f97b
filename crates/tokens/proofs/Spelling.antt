-- A word that is compared in any letter case.
use mathlib.Core.Path.{◌≡◌, refl, sym, ◌∙◌}
use mathlib.Core.List.{List, [], ◌∷◌, map}
use mathlib.Core.Bool.{Bool, true, false, true≢false}
use mathlib.Core.Logic.{⊎_elim}
use Prim.Native.Nat.{ℕ, suc, ◌+◌, ◌-◌, ◌≤◌, ◌<◌}
use native.Mathlib.Omega.{arith}
use lib.Dec.{eqb, ltb}
use lib.ListN.{length, get_or, take, drop}
use lib.Seq.{drop-cons}
use borrow.Author.Tests.{eq-eqb, eqb-true, ltb-true, lt-ltb, le-ltb, le-leb, lt-leb}
use Rattle.std.proofs.Common.{◌↔◌}
use native.Mathlib.Numerals.{add-one}
use Rattle.std.specs.Char.{to_ascii_lowercase}
use Rattle.scan.specs.Scan.{pick, lower}
use Rattle.scan.proofs.Laws.{le_or_lt}
use Rattle.tokens.specs.Tokens.{spells}

-- std's lower case is 01's
lowers : (b : ℕ) → to_ascii_lowercase b ≡ lower b
lowers b =
    ⊎_elim
    (λ (h : 65 ≤ b). ⊎_elim (λ (l : 91 ≤ b). rw (le-ltb b 65 h, le-ltb b 91 l, le-leb 65 b h, lt-leb b 90 (omega arith))) (λ (l : b < 91). rw (le-ltb b 65 h, lt-ltb b 91 l, le-leb 65 b h, le-leb b 90 (omega arith))) (le_or_lt 91 b))
    (λ (h : b < 65). rw (lt-ltb b 65 h, lt-leb 65 b h))
    (le_or_lt 65 b)

module _ (s : List ℕ) (e : ℕ) (h : e ≤ length s) where
  abbrev lowered : ℕ → List ℕ
  lowered i = map to_ascii_lowercase (take (e - i) (drop i s))

  lowered-none : (i : ℕ) → e ≤ i → lowered i ≡ []
  lowered-none i l = let z : e - i ≡ 0 = omega arith in rw z

  lowered-more : (i : ℕ) → i < e → lowered i ≡ lower (get_or s i 0) ∷ lowered (i + 1)
  lowered-more i l = let z : e - i ≡ suc (e - (i + 1)) = omega arith in rw (drop-cons s i 0 (omega arith), z, lowers (get_or s i 0), add-one i)

  spelled : (w : List ℕ) (i : ℕ) → i ≤ e → spells w s i e ≡ true → lowered i ≡ w
  unfolding spells
  spelled [] i l q = lowered-none i (let z = eqb-true i e q in omega arith)
  spelled (c ∷ w) i l q = go (λ m q. spelled w (i + 1) m q) (ltb i e) (eqb (lower (get_or s i 0)) c) refl refl q
    where
      go : (i + 1 ≤ e → spells w s (i + 1) e ≡ true → lowered (i + 1) ≡ w) → (t u : Bool) → ltb i e ≡ t → eqb (lower (get_or s i 0)) c ≡ u → pick t (pick u (spells w s (i + 1) e) false) false ≡ true → lowered i ≡ c ∷ w
      go f true true x y q = let m = ltb-true i e x in lowered-more i m ∙ rw (eqb-true (lower (get_or s i 0)) c y, f (omega arith) q)
      go f true false x y q = absurd (true≢false (sym q))
      go f false u x y q = absurd (true≢false (sym q))

  spells-it : (w : List ℕ) (i : ℕ) → i ≤ e → lowered i ≡ w → spells w s i e ≡ true
  unfolding spells
  spells-it [] i l q = ⊎_elim (λ m. eq-eqb i e (omega arith)) (λ m. absurd (let z : ◌≡◌ {A = ℕ} 0 1 = cc (sym (lowered-more i m) ∙ q) in omega arith)) (le_or_lt e i)
  spells-it (c ∷ w) i l q =
      ⊎_elim
      (λ m. absurd (let z : ◌≡◌ {A = ℕ} 0 1 = cc (sym (lowered-none i m) ∙ q) in omega arith))
      (λ m.
      let p : lower (get_or s i 0) ∷ lowered (i + 1) ≡ c ∷ w = sym (lowered-more i m) ∙ q in
      let x : lower (get_or s i 0) ≡ c = cc p in
      let y : lowered (i + 1) ≡ w = cc p in
      rw (lt-ltb i e m, eq-eqb (lower (get_or s i 0)) c x, spells-it w (i + 1) (omega arith) y))
      (le_or_lt e i)

  -- a test of it
  pub spells-by : {r : Bool} (w : List ℕ) (i : ℕ) → i ≤ e → ((r ≡ true) ↔ (lowered i ≡ w)) → r ≡ spells w s i e
  spells-by {r} w i l t = go r (spells w s i e) refl refl
    where
      go : (x y : Bool) → r ≡ x → spells w s i e ≡ y → x ≡ y
      go true true a b = refl
      go true false a b = absurd (true≢false (sym (spells-it w i l (t.0 a)) ∙ b))
      go false true a b = absurd (true≢false (sym (t.1 (spelled w i l b)) ∙ a))
      go false false a b = refl
