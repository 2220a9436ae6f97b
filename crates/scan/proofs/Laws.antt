-- One step of each scan, and bounds.
use mathlib.Core.Path.{◌≡◌, refl, ap, ◌∙◌}
use mathlib.Core.List.{List}
use mathlib.Core.Bool.{Bool, true, false}
use mathlib.Core.Logic.{◌⊎◌, inl, inr, ⊎_elim}
use Prim.Native.Nat.{ℕ, zero, suc, ◌+◌, ◌-◌, ◌≤◌, ◌<◌}
use native.Mathlib.Omega.{arith}
use native.Mathlib.Nat.{le_refl}
use native.Mathlib.Decide.{dec_le}
use lib.ListN.{get_or}
use lib.Dec.{eqb, ltb}
use borrow.Author.Tests.{eq-eqb, ne_eqb, lt-ltb, le-ltb, le-leb, lt-leb, ltb-true}
use Rattle.scan.specs.Inner.{Passed}
use Rattle.scan.specs.Scan.{pick, digit_of, is_blank, blank_at, blank_before, span, span_to, back, back_to, skip, skip_to, skip_back, trim_end, opened, closing, closing_to}

pub more : (i e : ℕ) → i < e → e - i ≡ suc (e - (i + 1))
more i e h = omega arith

pub none : (i e : ℕ) → e ≤ i → e - i ≡ 0
none i e h = omega arith

pub le_or_lt : (a b : ℕ) → (a ≤ b) ⊎ (b < a)
le_or_lt a b = elim (dec_le a b) [ yes h ↦ inl h | no h ↦ inr (omega arith) ]

pub zero_or : (n : ℕ) → (n ≡ 0) ⊎ (¬ (n ≡ 0))
zero_or zero = inl refl
zero_or (suc n) = inr (λ z. omega arith)

-- a fact of both branches
pub picked : {A : Type 0} (P : A → Type 0) (b : Bool) (x y : A) → P x → P y → P (pick b x y)
picked P true x y p q = p
picked P false x y p q = q

module _ (p : ℕ → Bool) (s : List ℕ) (i e : ℕ) where
  pub span-end : e ≤ i → span_to p s i e ≡ i
  unfolding span
  span-end h = rw (none i e h)

  pub span-stop : i < e → p (get_or s i 0) ≡ false → span_to p s i e ≡ i
  unfolding span
  span-stop h q = rw (more i e h, q)

  pub span_go : i < e → p (get_or s i 0) ≡ true → span_to p s i e ≡ span_to p s (i + 1) e
  unfolding span
  span_go h q = rw (more i e h, q)

  pub back_end : e ≤ i → back_to p s i e ≡ i
  unfolding back
  back_end h = rw (none i e h)

  pub back-stop : i < e → p (get_or s (e - 1) 0) ≡ false → back_to p s i e ≡ e
  unfolding back
  back-stop h q =
      let a : i + (e - (i + 1)) ≡ e - 1 = omega arith in
      let b : e - 1 + 1 ≡ e = omega arith in
      rw (more i e h, a, q, b)

  pub back_go : i < e → p (get_or s (e - 1) 0) ≡ true → back_to p s i e ≡ back_to p s i (e - 1)
  unfolding back
  back_go h q =
      let a : i + (e - (i + 1)) ≡ e - 1 = omega arith in
      let b : e - (i + 1) ≡ e - 1 - i = omega arith in
      rw (more i e h, a, q, b)

pub span-low : (p : ℕ → Bool) (s : List ℕ) (n i : ℕ) → i ≤ span p s n i
unfolding span
span-low p s zero i = le_refl i
span-low p s (suc n) i =
    let h : i + 1 ≤ span p s n (i + 1) = span-low p s n (i + 1) in
    picked (λ j. i ≤ j) (p (get_or s i 0)) (span p s n (i + 1)) i (omega arith) (le_refl i)

pub span-high : (p : ℕ → Bool) (s : List ℕ) (n i : ℕ) → span p s n i ≤ i + n
unfolding span
span-high p s zero i = omega arith
span-high p s (suc n) i =
    let h : span p s n (i + 1) ≤ i + 1 + n = span-high p s n (i + 1) in
    picked (λ j. j ≤ i + suc n) (p (get_or s i 0)) (span p s n (i + 1)) i (omega arith) (omega arith)

module _ (s : List ℕ) (i e k : ℕ) where
  pub closing_end : e ≤ i → closing_to s i e k ≡ i
  unfolding closing
  closing_end h = rw (none i e h)

  pub closing-stop : i < e → opened (get_or s i 0) k ≡ 0 → closing_to s i e k ≡ i
  unfolding closing
  closing-stop h q = rw (more i e h, eq-eqb (opened (get_or s i 0) k) 0 q)

  pub closing_go : (j : ℕ) → i < e → opened (get_or s i 0) k ≡ j → ¬ (j ≡ 0) → closing_to s i e k ≡ closing_to s (i + 1) e j
  unfolding closing
  closing_go j h q z = rw (more i e h, q, ne_eqb j 0 z)

pub closing-low : (s : List ℕ) (n i k : ℕ) → i ≤ closing s n i k
unfolding closing
closing-low s zero i k = le_refl i
closing-low s (suc n) i k =
    let h : i + 1 ≤ closing s n (i + 1) (opened (get_or s i 0) k) = closing-low s n (i + 1) (opened (get_or s i 0) k) in
    picked (λ j. i ≤ j) (eqb (opened (get_or s i 0) k) 0) i (closing s n (i + 1) (opened (get_or s i 0) k)) (le_refl i) (omega arith)

-- a blank lies inside: all that trimming needs to know of blanks
pub blank_at-fits : (s : List ℕ) (i e : ℕ) → blank_at s i e ≤ e - i
unfolding blank_at
blank_at-fits s i e =
    ⊎_elim
    (λ (h : e ≤ i). rw (le-ltb i e h) (omega arith))
    (λ (h : i < e). rw (lt-ltb i e h) (picked (λ j. j ≤ e - i) (is_blank (get_or s i 0)) 1 0 (omega arith) (omega arith)))
    (le_or_lt e i)

pub blank_before-fits : (s : List ℕ) (i e : ℕ) → blank_before s i e ≤ e - i
unfolding blank_before
blank_before-fits s i e =
    ⊎_elim
    (λ (h : e ≤ i). rw (le-ltb i e h) (omega arith))
    (λ (h : i < e). rw (lt-ltb i e h) (picked (λ j. j ≤ e - i) (is_blank (get_or s (e - 1) 0)) 1 0 (omega arith) (omega arith)))
    (le_or_lt e i)

-- more fuel than there are bytes left changes nothing
module _ (width : List ℕ → ℕ → ℕ → ℕ) (fits : (s : List ℕ) (i e : ℕ) → width s i e ≤ e - i) where
  skip_fuel : (s : List ℕ) (e n m i : ℕ) → e - i ≤ n → e - i ≤ m → skip width s e n i ≡ skip width s e m i
  unfolding skip
  skip_fuel s e zero zero i a b = refl
  skip_fuel s e zero (suc m) i a b =
      let z : width s i e ≡ 0 = omega (arith, fits s i e) in
      rw (eq-eqb (width s i e) 0 z)
  skip_fuel s e (suc n) zero i a b =
      let z : width s i e ≡ 0 = omega (arith, fits s i e) in
      rw (eq-eqb (width s i e) 0 z)
  skip_fuel s e (suc n) (suc m) i a b =
      ⊎_elim
      (λ (z : width s i e ≡ 0). rw (eq-eqb (width s i e) 0 z))
      (λ (z : ¬ (width s i e ≡ 0)). rw (ne_eqb (width s i e) 0 z) (skip_fuel s e n m (i + width s i e) (omega arith) (omega arith)))
      (zero_or (width s i e))

  pub skip-low : (s : List ℕ) (e n i : ℕ) → i ≤ skip width s e n i
  unfolding skip
  skip-low s e zero i = le_refl i
  skip-low s e (suc n) i =
      let h : i + width s i e ≤ skip width s e n (i + width s i e) = skip-low s e n (i + width s i e) in
      picked (λ j. i ≤ j) (eqb (width s i e) 0) i (skip width s e n (i + width s i e)) (le_refl i) (omega arith)

  pub skip_stop : (s : List ℕ) (i e w : ℕ) → w ≡ width s i e → w ≡ 0 → skip_to width s i e ≡ i
  unfolding skip
  skip_stop s i e w q z = go (e - i)
    where
      go : (n : ℕ) → skip width s e n i ≡ i
      go zero = refl
      go (suc n) = rw (← q, eq-eqb w 0 z)

  pub skip_go : (s : List ℕ) (i e w : ℕ) → w ≡ width s i e → ¬ (w ≡ 0) → skip_to width s i e ≡ skip_to width s (i + w) e
  unfolding skip
  skip_go s i e w q z =
      let f : w ≤ e - i = rw q (fits s i e) in
      let m : e - i ≡ suc (e - (i + 1)) = omega arith in
      rw (m, ← q, ne_eqb w 0 z) (skip_fuel s e (e - (i + 1)) (e - (i + w)) (i + w) (omega arith) (omega arith))

skip_back_fuel : (s : List ℕ) (i n m e : ℕ) → e - i ≤ n → e - i ≤ m → skip_back s i n e ≡ skip_back s i m e
unfolding skip_back
skip_back_fuel s i zero zero e a b = refl
skip_back_fuel s i zero (suc m) e a b =
    let z : blank_before s i e ≡ 0 = omega (arith, blank_before-fits s i e) in
    rw (eq-eqb (blank_before s i e) 0 z)
skip_back_fuel s i (suc n) zero e a b =
    let z : blank_before s i e ≡ 0 = omega (arith, blank_before-fits s i e) in
    rw (eq-eqb (blank_before s i e) 0 z)
skip_back_fuel s i (suc n) (suc m) e a b =
    ⊎_elim
    (λ (z : blank_before s i e ≡ 0). rw (eq-eqb (blank_before s i e) 0 z))
    (λ (z : ¬ (blank_before s i e ≡ 0)). rw (ne_eqb (blank_before s i e) 0 z) (skip_back_fuel s i n m (e - blank_before s i e) (omega arith) (omega arith)))
    (zero_or (blank_before s i e))

module _ (s : List ℕ) (i e w : ℕ) where
  pub trim_end-stop : w ≡ blank_before s i e → w ≡ 0 → trim_end s i e ≡ e
  unfolding skip_back
  trim_end-stop q z = go (e - i)
    where
      go : (n : ℕ) → skip_back s i n e ≡ e
      go zero = refl
      go (suc n) = rw (← q, eq-eqb w 0 z)

  pub trim_end_go : w ≡ blank_before s i e → ¬ (w ≡ 0) → trim_end s i e ≡ trim_end s i (e - w)
  unfolding skip_back
  trim_end_go q z =
      let f : w ≤ e - i = rw q (blank_before-fits s i e) in
      let m : e - i ≡ suc (e - (i + 1)) = omega arith in
      rw (m, ← q, ne_eqb w 0 z) (skip_back_fuel s i (e - (i + 1)) (e - w - i) (e - w) (omega arith) (omega arith))

-- a digit's value, range by range
module _ (b : ℕ) where
  pub digit-below : b < 48 → 16 ≡ digit_of b
  digit-below h = simp (lt-leb 48 b h, lt-leb 65 b (omega arith), lt-leb 97 b (omega arith))

  pub digit-decimal : 48 ≤ b → b ≤ 57 → b - 48 ≡ digit_of b
  digit-decimal h k = simp (le-leb 48 b h, le-leb b 57 k)

  pub digit-between : 57 < b → b < 65 → 16 ≡ digit_of b
  digit-between h k = simp (lt-leb b 57 h, le-leb 48 b (omega arith), lt-leb 65 b k, lt-leb 97 b (omega arith))

  pub digit_upper : 65 ≤ b → b ≤ 70 → b - 55 ≡ digit_of b
  digit_upper h k = simp (le-leb 48 b (omega arith), lt-leb b 57 (omega arith), le-leb 65 b h, le-leb b 70 k)

  pub digit_middle : 70 < b → b < 97 → 16 ≡ digit_of b
  digit_middle h k = simp (le-leb 48 b (omega arith), lt-leb b 57 (omega arith), le-leb 65 b (omega arith), lt-leb b 70 h, lt-leb 97 b k)

  pub digit-lower : 97 ≤ b → b ≤ 102 → b - 87 ≡ digit_of b
  digit-lower h k = simp (le-leb 48 b (omega arith), lt-leb b 57 (omega arith), le-leb 65 b (omega arith), lt-leb b 70 (omega arith), le-leb 97 b h, le-leb b 102 k)

  pub digit-above : 102 < b → 16 ≡ digit_of b
  digit-above h = simp (le-leb 48 b (omega arith), lt-leb b 57 (omega arith), le-leb 65 b (omega arith), lt-leb b 70 (omega arith), le-leb 97 b (omega arith), lt-leb b 102 h)

-- scans by blocks
module _ (p : ℕ → Bool) (s : List ℕ) where
  span-over : (n i e : ℕ) → i + n ≤ e → ((j : ℕ) → i ≤ j → j < i + n → p (get_or s j 0) ≡ true) → span_to p s i e ≡ span_to p s (i + n) e
  span-over zero i e h f = let z : i ≡ i + 0 = omega arith in ap (λ (j : ℕ). span_to p s j e) z
  span-over (suc n) i e h f =
      let z : i + 1 + n ≡ i + suc n = omega arith in
      span_go p s i e (omega arith) (f i (le_refl i) (omega arith))
      ∙ span-over n (i + 1) e (omega arith) (λ j a b. f j (omega arith) (omega arith))
      ∙ ap (λ (j : ℕ). span_to p s j e) z

  pub passed-span : (i e r : ℕ) → Passed p s i e r → span_to p s i e ≡ span_to p s r e
  passed-span i e r f =
      let l = f.low in
      let z : i + (r - i) ≡ r = omega arith in
      span-over (r - i) i e (omega (arith, f.high)) (λ j a b. f.all j a (omega arith)) ∙ ap (λ (j : ℕ). span_to p s j e) z

-- a byte above both parentheses opens and closes nothing
pub opened-none : (b k : ℕ) → 41 < b → opened b k ≡ k
opened-none b k h = rw (ne_eqb b 40 (λ z. omega arith), ne_eqb b 41 (λ z. omega arith))

closing-over : (s : List ℕ) (k : ℕ) → 0 < k → (n i e : ℕ) → i + n ≤ e → ((j : ℕ) → i ≤ j → j < i + n → ltb 41 (get_or s j 0) ≡ true) → closing_to s i e k ≡ closing_to s (i + n) e k
closing-over s k z zero i e h f = let q : i ≡ i + 0 = omega arith in ap (λ (j : ℕ). closing_to s j e k) q
closing-over s k z (suc n) i e h f =
    let q : i + 1 + n ≡ i + suc n = omega arith in
    closing_go s i e k k (omega arith) (opened-none (get_or s i 0) k (ltb-true 41 (get_or s i 0) (f i (le_refl i) (omega arith)))) (λ w. omega arith)
    ∙ closing-over s k z n (i + 1) e (omega arith) (λ j a b. f j (omega arith) (omega arith))
    ∙ ap (λ (j : ℕ). closing_to s j e k) q

pub passed-closing : (s : List ℕ) (i e k r : ℕ) → 0 < k → Passed (λ b. ltb 41 b) s i e r → closing_to s i e k ≡ closing_to s r e k
passed-closing s i e k r z f =
    let l = f.low in
    let q : i + (r - i) ≡ r = omega arith in
    closing-over s k z (r - i) i e (omega (arith, f.high)) (λ j a b. f.all j a (omega arith)) ∙ ap (λ (j : ℕ). closing_to s j e k) q

-- no byte above the decimal digits has a value below ten
pub no-decimal : (b : ℕ) → 57 < b → 10 ≤ digit_of b
no-decimal b z =
    ⊎_elim (λ (h : 103 ≤ b). rw (← digit-above b h) (omega arith))
    (λ (h : b < 103). ⊎_elim (λ (k : 97 ≤ b). rw (← digit-lower b k (omega arith)) (omega arith))
    (λ (k : b < 97). ⊎_elim (λ (l : 71 ≤ b). rw (← digit_middle b l k) (omega arith))
    (λ (l : b < 71). ⊎_elim (λ (m : 65 ≤ b). rw (← digit_upper b m (omega arith)) (omega arith))
    (λ (m : b < 65). rw (← digit-between b z m) (omega arith))
    (le_or_lt 65 b)) (le_or_lt 71 b)) (le_or_lt 97 b)) (le_or_lt 103 b)

-- one step of a scan, by the byte that is looked at
pub ruleset spans = (span-end, span-stop, span_go)

pub ruleset backs = (back_end, back-stop, back_go)

pub ruleset skips = (skip_stop, skip_go, blank_at-fits)

pub ruleset trims = (trim_end-stop, trim_end_go)

pub ruleset closings = (closing_end, passed-closing)
