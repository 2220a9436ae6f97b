-- What a scan of the text from i to e gives lies between i and e.
use mathlib.Core.Path.{◌≡◌, refl}
use mathlib.Core.List.{List}
use mathlib.Core.Bool.{Bool, true, false}
use Prim.Native.Nat.{ℕ, zero, suc, ◌+◌, ◌-◌, ◌≤◌, ◌<◌}
use native.Mathlib.Omega.{arith}
use native.Mathlib.Nat.{le_refl}
use lib.ListN.{get_or}
use lib.Dec.{ltb, eqb}
use borrow.Author.Tests.{ltb-true, ltb-false}
use Rattle.scan.specs.Scan.{pick, blank_at, blank_before, span_to, past, skip, skip_back, trim_start, trim_end}
use Rattle.scan.proofs.Laws.{picked, span-high, skip-low, blank_at-fits, blank_before-fits}

-- a test's two branches, each with what the test says
pub tested : {A : Type 0} (P : A → Type 0) (i e : ℕ) {x y : A} → (i < e → P x) → (e ≤ i → P y) → P (pick (ltb i e) x y)
tested P i e {x} {y} f g = go (ltb i e) refl
  where
    go : (b : Bool) → ltb i e ≡ b → P (pick b x y)
    go true t = f (ltb-true i e t)
    go false t = g (ltb-false i e t)

pub span_to-high : (p : ℕ → Bool) (s : List ℕ) (i e : ℕ) → i ≤ e → span_to p s i e ≤ e
span_to-high p s i e h = omega (arith, span-high p s (e - i) i)

pub past-high : (p : ℕ → Bool) (s : List ℕ) (i e : ℕ) → i ≤ e → past p s i e ≤ e
past-high p s i e h = tested (λ (j : ℕ). j ≤ e) i e (λ (l : i < e). picked (λ (j : ℕ). j ≤ e) (p (get_or s i 0)) _ _ (omega arith) h) (λ (l : e ≤ i). h)

skip-high : (s : List ℕ) (e n i : ℕ) → i ≤ e → skip blank_at s e n i ≤ e
unfolding skip
skip-high s e zero i h = h
skip-high s e (suc n) i h =
    let f = blank_at-fits s i e in
    picked (λ (j : ℕ). j ≤ e) (eqb (blank_at s i e) 0) _ _ h (skip-high s e n (i + blank_at s i e) (omega arith))

pub trim_start-low : (s : List ℕ) (i e : ℕ) → i ≤ trim_start s i e
trim_start-low s i e = skip-low _ blank_at-fits s e (e - i) i

pub trim_start-high : (s : List ℕ) (i e : ℕ) → i ≤ e → trim_start s i e ≤ e
trim_start-high s i e h = skip-high s e (e - i) i h

skip_back-high : (s : List ℕ) (i n e : ℕ) → skip_back s i n e ≤ e
unfolding skip_back
skip_back-high s i zero e = le_refl e
skip_back-high s i (suc n) e =
    let h : skip_back s i n (e - blank_before s i e) ≤ e - blank_before s i e = skip_back-high s i n (e - blank_before s i e) in
    picked (λ (j : ℕ). j ≤ e) (eqb (blank_before s i e) 0) _ _ (le_refl e) (omega arith)

pub trim_end-high : (s : List ℕ) (i e : ℕ) → trim_end s i e ≤ e
trim_end-high s i e = skip_back-high s i (e - i) e

skip_back-low : (s : List ℕ) (i n e : ℕ) → i ≤ e → i ≤ skip_back s i n e
unfolding skip_back
skip_back-low s i zero e h = h
skip_back-low s i (suc n) e h =
    let f = blank_before-fits s i e in
    picked (λ (j : ℕ). i ≤ j) (eqb (blank_before s i e) 0) _ _ h (skip_back-low s i n (e - blank_before s i e) (omega arith))

pub trim_end-low : (s : List ℕ) (i e : ℕ) → i ≤ e → i ≤ trim_end s i e
trim_end-low s i e h = skip_back-low s i (e - i) e h
