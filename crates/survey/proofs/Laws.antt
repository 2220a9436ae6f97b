-- Laws of a first look.
use mathlib.Core.Path.{◌≡◌, refl}
use mathlib.Core.List.{List}
use mathlib.Core.Bool.{Bool, true, false}
use mathlib.Core.Logic.{⊎_elim}
use Prim.Native.Nat.{ℕ, zero, suc, ◌+◌, ◌-◌, ◌≤◌, ◌<◌}
use native.Mathlib.Omega.{arith}
use native.Mathlib.Nat.{zero-add, le_refl, le_trans}
use lib.Dec.{eqb}
use lib.ListN.{get_or, length, take, drop}
use Rattle.std.specs.Prelude.{count_by, cond}
use Rattle.std.proofs.Common.{drop-cons, add-one}
use Rattle.std.proofs.lemmas.List.Sums.{sum_by-cons}
use borrow.Author.Tests.{eq-eqb}
use Rattle.scan.proofs.Laws.{more, le_or_lt, picked, span-low, passed-span}
use Rattle.scan.specs.Scan.{pick, span_to, back, back_to}
use Rattle.numeral.specs.Numeral.{is_digit}
use Rattle.survey.specs.Survey.{slashes, slashes_to, Ten, Unplain, ten, exponent}

-- ---- backslashes, one byte more

module _ (s : List ℕ) (i e : ℕ) where
  pub slashes-one : i < e → get_or s i 0 ≡ 92 → slashes_to s i e ≡ slashes_to s (i + 1) e + 1
  unfolding slashes
  slashes-one h q = rw (more i e h, eq-eqb (get_or s i 0) 92 q)

pub slashes-counted : (s : List ℕ) (n i : ℕ) → i + n ≤ length s → count_by (λ b. eqb b 92) (take n (drop i s)) ≡ slashes s n i
unfolding slashes
slashes-counted s zero i h = refl
slashes-counted s (suc n) i h =
    let lt : i < length s = omega arith in
    rw (drop-cons s i 0, ← add-one i, sum_by-cons (λ b. cond (eqb b 92) 1 0)) (go (eqb (get_or s i 0) 92) _ _ (slashes-counted s n (i + 1) (omega arith)))
  where
    go : (b : Bool) (a c : ℕ) → a ≡ c → cond b 1 0 + a ≡ pick b (c + 1) c
    go true a c h = omega arith
    go false a c h = omega arith

-- ---- runs of digits

back-high : (p : ℕ → Bool) (s : List ℕ) (i n : ℕ) → back p s i n ≤ i + n
unfolding back
back-high p s i zero = omega arith
back-high p s i (suc n) = let h : back p s i n ≤ i + n = back-high p s i n in picked (λ (r : ℕ). r ≤ i + suc n) (p (get_or s (i + n) 0)) _ _ (omega arith) (omega arith)

-- where all bytes from j to e pass, a scan back from e gets to j
back-far : (p : ℕ → Bool) (s : List ℕ) (i n j : ℕ) → i ≤ j → j ≤ i + n → ((k : ℕ) → j ≤ k → k < i + n → p (get_or s k 0) ≡ true) → back p s i n ≤ j
unfolding back
back-far p s i zero j a b f = a
back-far p s i (suc n) j a b f =
    ⊎_elim
    (λ (h : j ≤ i + n). rw (f (i + n) h (omega arith)) (back-far p s i n j a h (λ k l m. f k l (omega arith))))
    (λ (h : i + n < j). picked (λ (r : ℕ). r ≤ j) (p (get_or s (i + n) 0)) _ _ (le_trans (back-high p s i n) (omega arith)) (omega arith))
    (le_or_lt j (i + n))

-- ten digits from j on, which k is among, are no more than stand around k
pub ten-around : (s : List ℕ) (i k e j : ℕ) → i ≤ j → j ≤ k → k < j + 10 → j + 10 ≤ e → Ten s j → span_to is_digit s k e - back_to is_digit s i k ≤ 9 → ⊥
ten-around s i k e j a b c h t f =
    let z : i + (k - i) ≡ k = omega arith in
    let l : back_to is_digit s i k ≤ j = back-far is_digit s i (k - i) j a (omega arith) (λ m u v. t m u (omega arith)) in
    let q = passed-span is_digit s k e (j + 10) (record { low = omega arith; high = h; all = λ m u v. t m (omega arith) v }) in
    let r : j + 10 ≤ span_to is_digit s k e = rw q (span-low is_digit s (e - (j + 10)) (j + 10)) in
    omega arith

-- one place in ten looked at, after those before k
pub ten_more : (s : List ℕ) (i k e : ℕ) → i + 9 ≤ k → (is_digit (get_or s k 0) ≡ true → span_to is_digit s k e - back_to is_digit s i k ≤ 9)
    → ((j : ℕ) → i ≤ j → j + 9 < k → j + 10 ≤ e → Ten s j → ⊥)
    → (j : ℕ) → i ≤ j → j < k + 1 → j + 10 ≤ e → Ten s j → ⊥
ten_more s i k e l look before j a b d t =
    ⊎_elim (λ (h : k ≤ j + 9). ten-around s i k e j a (omega arith) (omega arith) d t (look (t k (omega arith) (omega arith)))) (λ (h : j + 9 < k). before j a h d t) (le_or_lt k (j + 9))

-- ---- a wider text

pub unplain_wider : {s : List ℕ} {top i j k e : ℕ} → i ≤ j → k ≤ e → Unplain s top j k → Unplain s top i e
unplain_wider a b (ten m l h t) = ten m (omega arith) (omega arith) t
unplain_wider a b (exponent m l h t u) = exponent m (omega arith) (omega arith) t u

-- backslashes from i to k and from k to e
slashes-add : (s : List ℕ) (n m i : ℕ) → slashes s (n + m) i ≡ slashes s n i + slashes s m (i + n)
unfolding slashes
slashes-add s zero m i = let z : i + 0 ≡ i = omega arith in rw (z, zero-add m, zero-add (slashes s m i))
slashes-add s (suc n) m i =
    let z : suc n + m ≡ suc (n + m) = omega arith in
    let y : i + suc n ≡ i + 1 + n = omega arith in
    rw (z, y) (go (eqb (get_or s i 0) 92) _ _ _ (slashes-add s n m (i + 1)))
  where
    go : (b : Bool) (a c d : ℕ) → a ≡ c + d → pick b (a + 1) a ≡ pick b (c + 1) c + d
    go true a c d h = omega arith
    go false a c d h = h

pub slashes-split : (s : List ℕ) (i k e : ℕ) → i ≤ k → k ≤ e → slashes_to s i e ≡ slashes_to s i k + slashes_to s k e
slashes-split s i k e a b =
    let z : e - i ≡ k - i + (e - k) = omega arith in
    let y : i + (k - i) ≡ k = omega arith in
    rw (z, slashes-add s (k - i) (e - k) i, y)

-- those of a part are among those of the whole
pub slashes-inside : (s : List ℕ) (i j k e : ℕ) → i ≤ j → j ≤ k → k ≤ e → slashes_to s j k ≤ slashes_to s i e
slashes-inside s i j k e a b c = omega (arith, slashes-split s i j e a (le_trans b c), slashes-split s j k e b c)

slashes-few : (s : List ℕ) (n i : ℕ) → slashes s n i ≤ n
unfolding slashes
slashes-few s zero i = le_refl 0
slashes-few s (suc n) i = let h : slashes s n (i + 1) ≤ n = slashes-few s n (i + 1) in picked (λ (m : ℕ). m ≤ suc n) (eqb (get_or s i 0) 92) _ _ (omega arith) (omega arith)

pub slashes-most : (s : List ℕ) (i e : ℕ) → slashes_to s i e ≤ e - i
slashes-most s i e = slashes-few s (e - i) i
