-- A text inside a longer one: scanning it finds the same places, moved on.
use mathlib.Core.Path.{◌≡◌, refl, ap}
use mathlib.Core.List.{List}
use mathlib.Core.Bool.{Bool, true, false}
use Prim.Native.Nat.compare
use Prim.Native.Nat.{ℕ, zero, suc, ◌+◌, ◌-◌, ◌≤◌, ◌<◌, compare}
use native.Mathlib.Omega.{arith}
use lib.ListN.{get_or}
use lib.Dec.{ltb, leb, eqb, is_le, compare_is_eq}
use borrow.Author.Tests.{ltb-true, leb-true, eqb-true}
use Rattle.scan.specs.Scan.{pick, blank_at, blank_before, span, span_to, back, back_to, skip, skip_to, skip_back, trim_start, trim_end, past, opened, closing, closing_to}
use Rattle.scan.proofs.Laws.{blank_at-fits, blank_before-fits}

-- what s has at each of its first n places, w has k places further on
pub record Window (w s : List ℕ) (k n : ℕ) : Type 0 where
  pub same : (i : ℕ) → i < n → get_or w (k + i) 0 ≡ get_or s i 0

-- a place of w, and the one of s that it is, not beyond the window
pub record On (k n x y : ℕ) : Type 0 where
  pub is : x ≡ k + y
  pub fits : y ≤ n

-- two choices by one test, related in either case
both : {A B : Type 0} (R : A → B → Type 0) (b : Bool) {x u : A} {y z : B} → (b ≡ true → R x y) → R u z → R (pick b x u) (pick b y z)
both R true f r = f refl
both R false f r = r

-- the same, with what the test says
module _ {A B : Type 0} (R : A → B → Type 0) {x u : A} {y z : B} where
  pub either : (b : Bool) → R x y → R u z → R (pick b x u) (pick b y z)
  either b q r = both R b (λ t. q) r

  pub if_eq : (i e : ℕ) → (i ≡ e → R x y) → R u z → R (pick (eqb i e) x u) (pick (eqb i e) y z)
  if_eq i e f r = both R (eqb i e) (λ t. f (eqb-true i e t)) r

  pub if_le : (i e : ℕ) → (i ≤ e → R x y) → R u z → R (pick (leb i e) x u) (pick (leb i e) y z)
  if_le i e f r = both R (leb i e) (λ t. f (leb-true i e t)) r

  pub if_lt : (i e : ℕ) → (i < e → R x y) → R u z → R (pick (ltb i e) x u) (pick (ltb i e) y z)
  if_lt i e f r = both R (ltb i e) (λ t. f (ltb-true i e t)) r

-- two places of w compare as the two of s
compare_on : (k i' i e' e : ℕ) → i' ≡ k + i → e' ≡ k + e → compare i' e' ≡ compare i e
compare_on zero i' i e' e h g =
    let a : i' ≡ i = omega arith in
    let b : e' ≡ e = omega arith in
    rw (a, b)
compare_on (suc k) i' i e' e h g =
    let a : i' ≡ suc (k + i) = omega arith in
    let b : e' ≡ suc (k + e) = omega arith in
    rw (a, b, compare.suc-suc (k + i) (k + e)) (compare_on k (k + i) i (k + e) e refl refl)

module _ {k n : ℕ} where
  pub on : (i : ℕ) → i ≤ n → On k n (k + i) i
  on i h = record { is = refl; fits = h }

  pub next : {i' i : ℕ} → On k n i' i → i < n → On k n (i' + 1) (i + 1)
  next h l = record { is = omega arith; fits = omega arith }

  before : {i' i : ℕ} → On k n i' i → 0 < i → On k n (i' - 1) (i - 1)
  before h l = record { is = omega arith; fits = omega arith }

  module _ {i' i e' e : ℕ} (h : On k n i' i) (g : On k n e' e) where
    pub gap : e' - i' ≡ e - i
    gap = omega arith

    pub ltb_on : ltb i' e' ≡ ltb i e
    ltb_on = ap is_le (compare_on k (suc i') (suc i) e' e (omega arith) g.is)

    pub leb_on : leb i' e' ≡ leb i e
    leb_on = ap is_le (compare_on k i' i e' e h.is g.is)

    pub eqb_on : eqb i' e' ≡ eqb i e
    eqb_on = ap compare_is_eq (compare_on k i' i e' e h.is g.is)

module _ {w s : List ℕ} {k n : ℕ} (v : Window w s k n) where
  pub byte : {i' i : ℕ} → On k n i' i → i < n → get_or w i' 0 ≡ get_or s i 0
  byte {i'} {i} h l = rw h.is (v.same i l)

  span-from : (p : ℕ → Bool) (m : ℕ) {i' i : ℕ} → On k n i' i → i + m ≤ n → On k n (span p w m i') (span p s m i)
  unfolding span
  span-from p zero h l = h
  span-from p (suc m) {i'} {i} h l = rw (byte h (omega arith)) (either (On k n) (p (get_or s i 0)) (span-from p m (next h (omega arith)) (omega arith)) h)

  back_from : (p : ℕ → Bool) (m : ℕ) {i' i : ℕ} → On k n i' i → i + m ≤ n → On k n (back p w i' m) (back p s i m)
  unfolding back
  back_from p zero h l = h
  back_from p (suc m) {i'} {i} h l =
      let g : On k n (i' + m) (i + m) = record { is = omega arith; fits = omega arith } in
      rw (byte g (omega arith)) (either (On k n) (p (get_or s (i + m) 0)) (back_from p m h (omega arith)) (next g (omega arith)))

  closing-from : (m : ℕ) {i' i : ℕ} (c : ℕ) → On k n i' i → i + m ≤ n → On k n (closing w m i' c) (closing s m i c)
  unfolding closing
  closing-from zero c h l = h
  closing-from (suc m) {i'} {i} c h l =
      rw (byte h (omega arith)) (either (On k n) (eqb (opened (get_or s i 0) c) 0) h (closing-from m (opened (get_or s i 0) c) (next h (omega arith)) (omega arith)))

  -- a piece that lies inside and is as wide in both texts
  module _ (width : List ℕ → ℕ → ℕ → ℕ) (inside : (s : List ℕ) (i e : ℕ) → width s i e ≤ e - i)
      (wide : (i' i e' e : ℕ) → On k n i' i → On k n e' e → width w i' e' ≡ width s i e) where
    skip-from : (m : ℕ) {i' i e' e : ℕ} → On k n i' i → On k n e' e → On k n (skip width w e' m i') (skip width s e m i)
    unfolding skip
    skip-from zero h g = h
    skip-from (suc m) {i'} {i} {e'} {e} h g =
        let l = inside s i e in
        rw (wide i' i e' e h g) (either (On k n) (eqb (width s i e) 0) h (skip-from m (record { is = omega arith; fits = omega arith }) g))

    pub skip_on : {i' i e' e : ℕ} → On k n i' i → On k n e' e → On k n (skip_to width w i' e') (skip_to width s i e)
    skip_on {i'} {i} {e'} {e} h g = rw (gap h g) (skip-from (e - i) h g)

  module _ {i' i e' e : ℕ} (h : On k n i' i) (g : On k n e' e) where
    pub span_on : (p : ℕ → Bool) → On k n (span_to p w i' e') (span_to p s i e)
    span_on p = rw (gap h g) (span-from p (e - i) h (omega arith))

    pub back_on : (p : ℕ → Bool) → On k n (back_to p w i' e') (back_to p s i e)
    back_on p = rw (gap h g) (back_from p (e - i) h (omega arith))

    pub closing_on : (c : ℕ) → On k n (closing_to w i' e' c) (closing_to s i e c)
    closing_on c = rw (gap h g) (closing-from (e - i) c h (omega arith))

    pub past_on : (p : ℕ → Bool) → On k n (past p w i' e') (past p s i e)
    past_on p = rw (ltb_on h g) (if_lt (On k n) i e (λ l. rw (byte h (omega arith)) (either (On k n) (p (get_or s i 0)) (next h (omega arith)) h)) h)

    blank-at : blank_at w i' e' ≡ blank_at s i e
    unfolding blank_at
    blank-at = rw (ltb_on h g) (if_lt ◌≡◌ i e (λ l. rw (byte h (omega arith))) refl)

    blank-before : blank_before w i' e' ≡ blank_before s i e
    unfolding blank_before
    blank-before = rw (ltb_on h g) (if_lt ◌≡◌ i e (λ l. rw (byte (before g (omega arith)) (omega arith))) refl)

  pub trim_start_on : {i' i e' e : ℕ} → On k n i' i → On k n e' e → On k n (trim_start w i' e') (trim_start s i e)
  trim_start_on = skip_on blank_at blank_at-fits (λ i' i e' e h g. blank-at h g)

  skip_back-from : (m : ℕ) {i' i e' e : ℕ} → On k n i' i → On k n e' e → On k n (skip_back w i' m e') (skip_back s i m e)
  unfolding skip_back
  skip_back-from zero h g = g
  skip_back-from (suc m) {i'} {i} {e'} {e} h g =
      let l = blank_before-fits s i e in
      rw (blank-before h g) (either (On k n) (eqb (blank_before s i e) 0) g (skip_back-from m h (record { is = omega arith; fits = omega arith })))

  pub trim_end_on : {i' i e' e : ℕ} → On k n i' i → On k n e' e → On k n (trim_end w i' e') (trim_end s i e)
  trim_end_on {i'} {i} {e'} {e} h g = rw (gap h g) (skip_back-from (e - i) h g)
