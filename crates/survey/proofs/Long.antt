-- A numeral that is too long, and a number beyond ±1,000,000,000, leave ten digits or an exponent in the text.
use mathlib.Core.Path.{◌≡◌, refl, sym, ◌∙◌}
use mathlib.Core.List.{List}
use mathlib.Core.Bool.{Bool, true, false, true≢false}
use mathlib.Core.Logic.{◌⊎◌, ⊎_elim}
use Prim.Native.Nat.{ℕ, zero, suc, ◌+◌, ◌-◌, ◌*◌, ◌^◌, ◌≤◌, ◌<◌}
use native.Mathlib.Omega.{arith}
use native.Mathlib.Nat.{le_refl, lt_of_lt_of_le, lt_of_le_of_lt, one-mul, pow-le-pow_right}
use lib.Dec.{ltb, leb, eqb, lit<}
use lib.IntN.{ℤ, pos, neg_ℤ, nat_abs}
use lib.Ieee.{Float}
use lib.ListN.{get_or}
use borrow.Author.Tests.{lt-ltb, le-ltb, le-leb, lt-leb, ne_eqb, ltb-true, leb-true, eqb-true}
use Rattle.scan.specs.Scan.{pick, is_blank, span, span_to, past}
use Rattle.scan.proofs.Laws.{le_or_lt, zero_or, span-low, span-high, span-end, span-stop, passed-span, picked}
use Rattle.numeral.specs.declared.Decimal.{Decimal}
use Rattle.numeral.specs.Numeral.{is_digit, is_sign, is_minus, is_point, is_e, value, most, whole_number, I32, whole, i32_of, split_at, exponent_at, F32, number, too_long_lem, before, behind, most_digits, limited, most_exponent_digits, exponent_start, exponent_of, ends_at, f32_of}
use Rattle.numeral.proofs.Laws.{f32-empty, f32-rest, f32-number, value-below, no_digit_below, no_digit_above}
use Rattle.survey.specs.Survey.{Ten, is_exponent, is_stop, ends_field, Unplain, ten, exponent}

-- ---- bytes that a scan passes

span-all : (p : ℕ → Bool) (s : List ℕ) (n i k : ℕ) → i ≤ k → k < span p s n i → p (get_or s k 0) ≡ true
unfolding span
span-all p s zero i k a b = absurd (omega arith)
span-all p s (suc n) i k a b = go (p (get_or s i 0)) refl b (λ l h. span-all p s n (i + 1) k l h)
  where
    go : (t : Bool) → p (get_or s i 0) ≡ t → k < pick t (span p s n (i + 1)) i → (i + 1 ≤ k → k < span p s n (i + 1) → p (get_or s k 0) ≡ true) → p (get_or s k 0) ≡ true
    go true e h f =
        ⊎_elim
        (λ (l : k ≤ i). let z : k ≡ i = omega arith in rw z e)
        (λ (l : i < k). f (omega arith) h)
        (le_or_lt k i)
    go false e h f = absurd (omega arith)

-- more than nine digits
ten-of : (s : List ℕ) (n i j : ℕ) → j ≡ span is_digit s n i → 9 < j - i → Ten s i
ten-of s n i j q h k a b = span-all is_digit s n i k a (rw (← q) (omega arith))

-- where a byte was passed, it is of the class
past_is : (p : ℕ → Bool) (s : List ℕ) (i e : ℕ) → i < past p s i e → p (get_or s i 0) ≡ true
past_is p s i e h = go (ltb i e) (p (get_or s i 0)) refl h
  where
    go : (t u : Bool) → p (get_or s i 0) ≡ u → i < pick t (pick u (i + 1) i) i → p (get_or s i 0) ≡ true
    go true true e h = e
    go true false e h = absurd (omega arith)
    go false u e h = absurd (omega arith)

past-least : (p : ℕ → Bool) (s : List ℕ) (i e : ℕ) → (i ≤ past p s i e) × (past p s i e ≤ i + 1)
past-least p s i e = picked (λ (j : ℕ). (i ≤ j) × (j ≤ i + 1)) (ltb i e) _ _ (picked (λ (j : ℕ). (i ≤ j) × (j ≤ i + 1)) (p (get_or s i 0)) _ _ (omega arith, le_refl (i + 1)) (le_refl i, omega arith)) (le_refl i, omega arith)

-- ---- the end of a field

-- at q stands what ends a field, or the text ends
abbrev pub Ends : List ℕ → ℕ → ℕ → Type 0
Ends s top q = (q ≡ top) ⊎ (is_stop (get_or s q 0) ≡ true)

pub blank_stops : (b : ℕ) → is_blank b ≡ true → is_stop b ≡ true
unfolding is_stop
blank_stops b e = rw e

pub byte_stops : (b c : ℕ) → eqb b c ≡ true → is_stop c ≡ true → is_stop b ≡ true
byte_stops b c e f = rw (eqb-true b c e) f

-- no digit does
stop_no_digit : (b : ℕ) → is_stop b ≡ true → is_digit b ≡ false
unfolding is_stop
stop_no_digit b e =
    ⊎_elim
    (λ (h : 48 ≤ b). ⊎_elim
    (λ (k : 58 ≤ b). no_digit_above b (omega arith))
    (λ (k : b < 58). absurd (true≢false (sym e ∙ rw (ne_eqb b 32 (λ z. omega arith), lt-leb b 13 (omega arith), le-leb 9 b (omega arith), ne_eqb b 41 (λ z. omega arith), ne_eqb b 44 (λ z. omega arith), ne_eqb b 92 (λ z. omega arith)))))
    (le_or_lt 58 b))
    (λ (h : b < 48). no_digit_below b h)
    (le_or_lt 48 b)

-- digits that fill a field are all the digits there are
span_fills : (s : List ℕ) (top i b : ℕ) → i ≤ b → b ≤ top → Ends s top b → span_to is_digit s i b ≡ b → span_to is_digit s i top ≡ b
span_fills s top i b l h f q =
    passed-span is_digit s i top b (record { low = l; high = h; all = λ j m n. span-all is_digit s (b - i) i j m (rw q n) })
    ∙ ⊎_elim
    (λ (z : b ≡ top). span-end is_digit s b top (omega arith))
    (λ (z : is_stop (get_or s b 0) ≡ true). ⊎_elim
    (λ (m : top ≤ b). span-end is_digit s b top m)
    (λ (m : b < top). span-stop is_digit s b top m (stop_no_digit (get_or s b 0) z))
    (le_or_lt top b))
    f

-- ---- numerals

module _ (s : List ℕ) (top a b : ℕ) (high : b ≤ top) (ends : Ends s top b) where
  abbrev d : Decimal
  d = split_at s a b

  record Split : Type 0 where
    from : (a ≤ d.from) × (d.from ≤ a + 1)
    whole_is : d.whole ≡ span_to is_digit s d.from b
    whole-low : d.from ≤ d.whole
    fraction : (d.whole ≤ d.fraction) × (d.fraction ≤ d.whole + 1)
    point : d.whole < d.fraction → is_point (get_or s d.whole 0) ≡ true
    end_is : d.end ≡ span_to is_digit s d.fraction b
    end_low : d.fraction ≤ d.end

  split : Split
  unfolding split_at
  split =
      let i = past is_sign s a b in
      let w = span_to is_digit s i b in
      let f = past is_point s w b in
      record {
        from = past-least is_sign s a b;
        whole_is = refl;
        whole-low = span-low is_digit s (b - i) i;
        fraction = past-least is_point s w b;
        point = past_is is_point s w b;
        end_is = refl;
        end_low = span-low is_digit s (b - f) f;
      }

  abbrev Numeric : ℕ → Type 0
  Numeric k = pick (is_point (get_or s k 0)) true (is_digit (get_or s k 0)) ≡ true

  a-digit : (k : ℕ) → is_digit (get_or s k 0) ≡ true → Numeric k
  a-digit k e = rw e (picked (λ (t : Bool). t ≡ true) (is_point (get_or s k 0)) true true refl refl)

  -- the last byte of a numeral's digits is a digit or a point
  last : ¬ (d.whole - d.from + (d.end - d.fraction) ≡ 0) → (a < d.end) × Numeric (d.end - 1)
  last h =
      let u = split in
      ⊎_elim
      (λ (l : d.end ≤ d.fraction). ⊎_elim
      (λ (m : d.fraction ≤ d.whole).
      let n : d.from < d.whole = omega (arith, u.end_low, u.fraction, u.whole-low) in
      (omega (arith, u.end_low, u.fraction, u.from), a-digit (d.end - 1) (span-all is_digit s (b - d.from) d.from (d.end - 1) (omega (arith, u.end_low, u.fraction)) (rw (← u.whole_is) (omega (arith, u.end_low, u.fraction))))))
      (λ (m : d.whole < d.fraction).
      let z : d.end - 1 ≡ d.whole = omega (arith, u.end_low, u.fraction) in
      (omega (arith, u.end_low, u.from, u.whole-low), rw (z, u.point m)))
      (le_or_lt d.fraction d.whole))
      (λ (l : d.fraction < d.end). (omega (arith, u.from, u.whole-low, u.fraction), a-digit (d.end - 1) (span-all is_digit s (b - d.fraction) d.fraction (d.end - 1) (omega arith) (rw (← u.end_is) (omega arith)))))
      (le_or_lt d.end d.fraction)

  -- an exponent begins with an e and goes on to the end of its field
  exponent-is : (i : ℕ) → exponent_at s i b ≡ true → (is_e (get_or s i 0) ≡ true) × (ends_field s i top ≡ true)
  unfolding exponent_at ends_field
  exponent-is i e = go (ltb i x) (ltb d' b) (eqb (span_to is_digit s d' b) b) refl refl refl e
    where
      x : ℕ
      x = past is_e s i b

      d' : ℕ
      d' = past is_sign s x b

      go : (t u v : Bool) → ltb i x ≡ t → ltb d' b ≡ u → eqb (span_to is_digit s d' b) b ≡ v → pick t (pick u v false) false ≡ true → (is_e (get_or s i 0) ≡ true) × (pick (ltb (span_to is_digit s (past is_sign s (i + 1) top) top) top) (is_stop (get_or s (span_to is_digit s (past is_sign s (i + 1) top) top) 0)) true ≡ true)
      go true true true p q r f =
          let l : i < x = ltb-true i x p in
          let m : d' < b = ltb-true d' b q in
          let n : x ≡ i + 1 = omega (arith, past-least is_e s i b) in
          let o : x ≤ d' = (past-least is_sign s x b).0 in
          let y : past is_sign s (i + 1) top ≡ d' = rw (lt-ltb (i + 1) top (omega arith), n, lt-ltb (i + 1) b (omega arith)) in
          let w : span_to is_digit s d' top ≡ b = span_fills s top d' b (omega arith) high ends (eqb-true (span_to is_digit s d' b) b r) in
          (past_is is_e s i b l, rw (y, w) (⊎_elim (λ (z : b ≡ top). rw (le-ltb b top (omega arith))) (λ (z : is_stop (get_or s b 0) ≡ true). rw z (picked (λ (t : Bool). t ≡ true) (ltb b top) true true refl refl)) ends))
      go true true false p q r f = absurd (true≢false (sym f))
      go true false v p q r f = absurd (true≢false (sym f))
      go false u v p q r f = absurd (true≢false (sym f))

  exponent-here : ¬ (d.whole - d.from + (d.end - d.fraction) ≡ 0) → d.end < b → exponent_at s d.end b ≡ true → Unplain s top a b
  unfolding is_exponent
  exponent-here h l e =
      let u = last h in
      let z : d.end - 1 + 1 ≡ d.end = omega (arith, u.0) in
      let x = exponent-is d.end e in
      exponent (d.end - 1) (omega (arith, u.0)) (omega (arith, u.0)) (rw (z, x.0) u.1) (rw z x.1)

  -- a run of more than nine digits from i on
  ten-here : (i j : ℕ) → a ≤ i → j ≡ span_to is_digit s i b → 9 < j - i → Unplain s top a b
  ten-here i j l q h = ten i l (omega (arith, span-high is_digit s (b - i) i)) (ten-of s (b - i) i j q h)

  pub long_unplain : (k : ℕ) → f32_of s a b ≡ too_long_lem k → Unplain s top a b
  long_unplain k q =
      let u = split in
      ⊎_elim
      (λ (z : d.whole - d.from + (d.end - d.fraction) ≡ 0). none (f32-empty s a b d refl z))
      (λ (z : ¬ (d.whole - d.from + (d.end - d.fraction) ≡ 0)). ⊎_elim
      (λ (l : b ≤ d.end). ⊎_elim
      (λ (n : d.whole - d.from ≤ 9). ⊎_elim
      (λ (m : d.end - d.fraction ≤ 9). absurd (let w : ◌≡◌ {A = ℕ} 0 1 = cc (f32-number s a b d refl z l n m) in omega arith))
      (λ (m : 9 < d.end - d.fraction). ten-here d.fraction d.end (omega (arith, u.from, u.whole-low, u.fraction)) u.end_is m)
      (le_or_lt (d.end - d.fraction) 9))
      (λ (n : 9 < d.whole - d.from). ten-here d.from d.whole (omega (arith, u.from)) u.whole_is n)
      (le_or_lt (d.whole - d.from) 9))
      (λ (l : d.end < b). rest z l (exponent_at s d.end b) refl)
      (le_or_lt b d.end))
      (zero_or (d.whole - d.from + (d.end - d.fraction)))
    where
      none : F32.none ≡ f32_of s a b → Unplain s top a b
      none e = absurd (let w : ◌≡◌ {A = ℕ} 0 1 = cc in omega arith)

      rest : ¬ (d.whole - d.from + (d.end - d.fraction) ≡ 0) → d.end < b → (t : Bool) → exponent_at s d.end b ≡ t → Unplain s top a b
      rest z l true e = exponent-here z l e
      rest z l false e = none (f32-rest s a b d refl z (rw (lt-ltb _ _ l) e))

-- ---- where a numeral that is too long begins

module _ (s : List ℕ) (a b : ℕ) where
  abbrev at : Decimal
  at = split_at s a b

  abbrev AtFront : F32 → Type 0
  AtFront F32.none = Unit
  AtFront (too_long_lem k) = k ≡ a
  AtFront (number x) = Unit

  limited-front : (x : ℤ) (y : Float) → AtFront (limited a at x y)
  limited-front x y = picked AtFront (leb (before (at.whole - at.from) x) most_digits) _ _ (picked AtFront (leb (behind (at.end - at.fraction) x) most_digits) _ _ tt refl) refl

  at_front : AtFront (f32_of s a b)
  unfolding f32_of
  at_front =
      picked AtFront (eqb (at.whole - at.from + (at.end - at.fraction)) 0) _ _ tt
      (picked AtFront (ends_at s at.end b) _ _ (picked AtFront (leb (b - exponent_start s at.end b) most_exponent_digits) _ _ (limited-front (exponent_of s at.end b) _) refl) tt)

  -- where there is no text there is no numeral
  nowhere : b ≤ a → f32_of s a b ≡ F32.none
  unfolding split_at
  nowhere h =
      let e : split_at s a b ≡ record { from = a; whole = a; fraction = a; end = a } = simp (le-ltb a b h, span-end is_digit s a b h) in
      sym (f32-empty s a b (record { from = a; whole = a; fraction = a; end = a }) (sym e) (omega arith))

  -- it is named by its first byte
  pub long-first : (k : ℕ) → f32_of s a b ≡ too_long_lem k → (k ≡ a) × (a < b)
  long-first k e =
      ⊎_elim
      (λ (h : b ≤ a). absurd (let z : ◌≡◌ {A = ℕ} 0 1 = cc (nowhere h) in omega arith))
      (λ (h : a < b). (rw e at at_front, h))
      (le_or_lt b a)

-- ---- whole numbers

module _ (s : List ℕ) (top a b : ℕ) where
  -- one above 1,000,000,000 has ten digits
  ten-digits : (i : ℕ) → a ≤ i → 1000000000 ≤ whole_number 10 s i b → whole_number 10 s i b < most → Unplain s top a b
  unfolding whole_number
  ten-digits i l h g = go (ltb i b) (eqb (span_to is_digit s i b) b) refl h g
    where
      go : (t u : Bool) → eqb (span_to is_digit s i b) b ≡ u → 1000000000 ≤ pick t (pick u (value 10 s (b - i) i 0) most) most → pick t (pick u (value 10 s (b - i) i 0) most) most < most → Unplain s top a b
      go true true e h g =
          let q : b ≡ span_to is_digit s i b = sym (eqb-true (span_to is_digit s i b) b e) in
          ⊎_elim
          (λ (n : b - i ≤ 9). absurd (below n (value-below 10 s (lit< tt) (b - i) i 0 b q) h))
          (λ (n : 9 < b - i). ten i l (omega arith) (ten-of s (b - i) i b q n))
          (le_or_lt (b - i) 9)
        where
          below : b - i ≤ 9 → value 10 s (b - i) i 0 < 1 * 10 ^ (b - i) → 1000000000 ≤ value 10 s (b - i) i 0 → ⊥
          below n v h = let w : value 10 s (b - i) i 0 < 1000000000 = lt_of_lt_of_le (rw one-mul at v) (pow-le-pow_right (lit< tt) n) in omega arith
      go true false e h g = absurd (omega arith)
      go false u e h g = absurd (omega arith)

  size : (v : ℕ) → nat_abs (neg_ℤ (pos v)) ≡ v
  size zero = refl
  size (suc n) = refl

  pub far_unplain : (z : ℤ) → i32_of s a b ≡ whole z → 1000000000 < nat_abs z → Unplain s top a b
  unfolding i32_of
  far_unplain z q h =
      let i = past is_sign s a b in
      let v = whole_number 10 s i b in
      go (eqb (past is_minus s a b) a) (leb v 2147483647) (leb v 2147483648) refl refl q
    where
      i : ℕ
      i = past is_sign s a b

      v : ℕ
      v = whole_number 10 s i b

      far : 1000000000 < v → v ≤ 2147483648 → Unplain s top a b
      far m n = ten-digits i (past-least is_sign s a b).0 (omega arith) (lt_of_le_of_lt n (lit< tt))

      go : (t x y : Bool) → leb v 2147483647 ≡ x → leb v 2147483648 ≡ y → pick t (pick x (whole (pos v)) I32.none) (pick y (whole (neg_ℤ (pos v))) I32.none) ≡ whole z → Unplain s top a b
      go true true y e f q = let w : pos v ≡ z = cc in far (rw (← w) at h) (omega (arith, leb-true v 2147483647 e))
      go true false y e f q = absurd (let w : ◌≡◌ {A = ℕ} 0 1 = cc in omega arith)
      go false x true e f q = let w : neg_ℤ (pos v) ≡ z = cc in far (rw (size v) at (rw (← w) at h)) (leb-true v 2147483648 f)
      go false x false e f q = absurd (let w : ◌≡◌ {A = ℕ} 0 1 = cc in omega arith)
