-- Laws of digits and of what they write.
use mathlib.Core.Path.{◌≡◌, refl, sym, ap, ◌∙◌}
use mathlib.Core.List.{List}
use mathlib.Core.Bool.{Bool, true, false}
use mathlib.Core.Logic.{⊎_elim}
use Prim.Native.Nat.{ℕ, zero, suc, ◌+◌, ◌-◌, ◌*◌, ◌^◌, ◌%◌, ◌≤◌, ◌<◌, min}
use native.Mathlib.Omega.{arith}
use native.Mathlib.Numerals.{add-one}
use native.Mathlib.Nat.{le_refl, le_trans, le-mul_of_pos_right, min-eq_left, min-eq_right, min-le_right, mul-le-mul_right, pow-zero, pow-suc, pow-succ', pow-le-pow_right, mul_assoc, add-mul, one-mul, lt_of_lt_of_le, lt_of_le_of_lt, add-le-add, mul-le-mul, mul-le-mul_left}
use lib.ListN.{get_or}
use lib.Dec.{ltb, leb, lit<}
use Rattle.std.specs.Prelude.{Option, Some, None}
use lib.IntN.{ℤ, pos, neg_ℤ}
use lib.Ieee.{Float}
use lib.Pow.{pow-add}
use borrow.Author.Tests.{eq-eqb, ne_eqb, le-ltb, le-leb, lt-leb, ltb-true}
use Rattle.scan.specs.Scan.{pick, digit_of, digit, span, span_to, past}
use Rattle.scan.proofs.Laws.{le_or_lt, more, none, span-low, digit-below, digit-decimal, digit-between, digit_upper, digit_middle, digit-lower, digit-above, no-decimal}
use Rattle.float.specs.Float.{to_word}
use Rattle.numeral.specs.declared.Numeral.{Numeral}
use Rattle.numeral.specs.declared.Numeral.TheVariants.{No, Word}
use Rattle.numeral.specs.declared.Decimal.{Decimal}
use Rattle.numeral.specs.Numeral.{is_digit, is_sign, is_minus, value, most, whole_number, word_of_i32, I32, i32_of, up_to, split_at, F32, digits_of, before, behind, float_of, limited, exponent_start, exponent_of, with_exponent, ends_at, f32_of}

-- a digit's value, or 16
pub digit-most : (b : ℕ) → digit_of b ≤ 16
digit-most b =
    ⊎_elim (λ (h : 103 ≤ b). rw (← digit-above b h) (omega arith))
    (λ (h : b < 103). ⊎_elim (λ (k : 97 ≤ b). rw (← digit-lower b k (omega arith)) (omega arith))
    (λ (k : b < 97). ⊎_elim (λ (l : 71 ≤ b). rw (← digit_middle b l k) (omega arith))
    (λ (l : b < 71). ⊎_elim (λ (m : 65 ≤ b). rw (← digit_upper b m (omega arith)) (omega arith))
    (λ (m : b < 65). ⊎_elim (λ (n : 58 ≤ b). rw (← digit-between b n m) (omega arith))
    (λ (n : b < 58). ⊎_elim (λ (o : 48 ≤ b). rw (← digit-decimal b o (omega arith)) (omega arith))
    (λ (o : b < 48). rw (← digit-below b o) (omega arith))
    (le_or_lt 48 b)) (le_or_lt 58 b)) (le_or_lt 65 b)) (le_or_lt 71 b)) (le_or_lt 97 b)) (le_or_lt 103 b)

-- one digit more is one power more
one_more : (radix p a d : ℕ) {v : ℕ} → d < radix → v < (a * radix + d + 1) * p → v < (a + 1) * (radix * p)
one_more radix p a d h k =
    let l : a * radix + d + 1 ≤ (a + 1) * radix = rw (add-mul a 1 radix, one-mul radix) (omega arith) in
    rw (← mul_assoc (a + 1) radix p) (lt_of_lt_of_le k (mul-le-mul_right p l))

module _ (radix : ℕ) (s : List ℕ) where
  -- one step of a value
  pub value-end : (i e a : ℕ) → e ≤ i → value radix s (e - i) i a ≡ a
  unfolding value
  value-end i e a h = rw (none i e h)

  pub value_go : (i e a : ℕ) → i < e → value radix s (e - i) i a ≡ value radix s (e - (i + 1)) (i + 1) (a * radix + digit_of (get_or s i 0))
  unfolding value
  value_go i e a h = rw (more i e h)

  -- more digits make no less
  pub value_grows : 0 < radix → (n i a : ℕ) → a ≤ value radix s n i a
  unfolding value
  value_grows r zero i a = le_refl a
  value_grows r (suc n) i a =
      let d = digit_of (get_or s i 0) in
      let m : a ≤ a * radix = le-mul_of_pos_right a r in
      let g : a * radix + d ≤ value radix s n (i + 1) (a * radix + d) = value_grows r n (i + 1) (a * radix + d) in
      omega arith

  -- a value that is capped on the way is capped at the end
  value-capped : 0 < radix → (m n i a : ℕ) → min m (value radix s n i (min m a)) ≡ min m (value radix s n i a)
  value-capped r m n i a =
      ⊎_elim
      (λ (h : a ≤ m). rw (min-eq_right h))
      (λ (h : m < a).
      let l : m ≤ a = omega arith in
      let p : m ≤ value radix s n i a = le_trans l (value_grows r n i a) in
      rw (min-eq_left l, min-eq_left (value_grows r n i m), min-eq_left p))
      (le_or_lt a m)

  pub value_turn : 0 < radix → (m i e a b : ℕ) → i < e → b ≡ min m (a * radix + digit_of (get_or s i 0)) → min m (value radix s (e - i) i a) ≡ min m (value radix s (e - (i + 1)) (i + 1) b)
  value_turn r m i e a b h q = rw (q, value-capped r m (e - (i + 1)) (i + 1) (a * radix + digit_of (get_or s i 0)), value_go i e a h)

  -- the digits of a span write less than the radix to the power of their number
  pub value-below : 0 < radix → (n i a j : ℕ) → j ≡ span (digit radix) s n i → value radix s (j - i) i a < (a + 1) * radix ^ (j - i)
  unfolding span
  value-below r zero i a j q =
      let z : j - i ≡ 0 = omega arith in
      rw (value-end i j a (omega arith), z, pow-zero) (omega arith)
  value-below r (suc n) i a j q = go (ltb (digit_of (get_or s i 0)) radix) refl (λ k. value-below r n (i + 1) (a * radix + digit_of (get_or s i 0)) j k)
    where
      d : ℕ
      d = digit_of (get_or s i 0)

      go : (t : Bool) → ltb d radix ≡ t → (j ≡ span (digit radix) s n (i + 1) → value radix s (j - (i + 1)) (i + 1) (a * radix + d) < (a * radix + d + 1) * radix ^ (j - (i + 1))) → value radix s (j - i) i a < (a + 1) * radix ^ (j - i)
      go true w f =
          let k : j ≡ span (digit radix) s n (i + 1) = rw w at q in
          let l : i + 1 ≤ j = rw k (span-low (digit radix) s n (i + 1)) in
          let h : i < j = omega arith in
          rw (value_go i j a h, more i j h, pow-succ') (one_more radix (radix ^ (j - (i + 1))) a d (ltb-true d radix w) (f k))
      go false w f =
          let k : j ≡ i = rw w at q in
          let z : j - i ≡ 0 = omega arith in
          rw (value-end i j a (omega arith), z, pow-zero) (omega arith)

-- a limit below the cap
pub up_to-capped : (m w l : ℕ) → l < m → up_to (min m w) l ≡ up_to w l
up_to-capped m w l h =
    ⊎_elim
    (λ (k : w ≤ m). rw (min-eq_right k))
    (λ (k : m < w).
    let n : m ≤ w = omega arith in
    let o : l < w = omega arith in
    rw (min-eq_left n, lt-leb m l h, lt-leb w l o))
    (le_or_lt w m)

-- what is below the cap is not capped
pub uncapped : (m w v : ℕ) → v ≡ min m w → v < m → w ≡ v
uncapped m w v q h =
    ⊎_elim
    (λ (k : w ≤ m). sym (q ∙ min-eq_right k))
    (λ (k : m < w).
    let n : m ≤ w = omega arith in
    let z : v ≡ m = q ∙ min-eq_left n in
    absurd (omega arith))
    (le_or_lt w m)

-- the word of a number, where there is one
abbrev pub of_word : Option ℕ → Numeral
of_word None = No
of_word (Some w) = Word w

-- the words of both signs
plus_word : (t : Bool) (v : ℕ) → word_of_i32 (pick t (I32.whole (pos v)) I32.none) ≡ of_word (pick t (Some v) None)
plus_word true v = refl
plus_word false v = refl

minus_word : (v y : ℕ) → v ≤ 2147483648 → y < 2 ^ 32 → (y + v) % 2 ^ 32 ≡ 0 → to_word (neg_ℤ (pos v)) ≡ y
minus_word zero y h f m = omega arith
minus_word (suc n) y h f m = omega arith

some_up_to : (v l w : ℕ) → Some w ≡ up_to v l → (w ≡ v) × (v ≤ l)
some_up_to v l w q =
    ⊎_elim (λ (h : v ≤ l). let e = rw (le-leb v l h) at q in (cc, h)) (λ (h : l < v). let e = rw (lt-leb v l h) at q in absurd (cc)) (le_or_lt v l)

none_up_to : (v l : ℕ) → ◌≡◌ {A = Option ℕ} None (up_to v l) → l < v
none_up_to v l q = ⊎_elim (λ (h : v ≤ l). let e = rw (le-leb v l h) at q in absurd (cc)) (λ (h : l < v). h) (le_or_lt v l)

-- an i32 by its sign, at j behind a minus, and its size v, capped
module _ (s : List ℕ) (a b i j v : ℕ) (p : i ≡ past is_sign s a b) (m : j ≡ past is_minus s a b) (q : v ≡ min most (whole_number 10 s i b)) where
  pub i32_plus : j ≡ a → of_word (up_to v 2147483647) ≡ word_of_i32 (i32_of s a b)
  unfolding i32_of
  i32_plus h =
      rw (← p, ← m, eq-eqb j a h, q, plus_word (leb (whole_number 10 s i b) 2147483647) (whole_number 10 s i b))
      (ap of_word (up_to-capped most (whole_number 10 s i b) 2147483647 (lit< tt)))

  pub i32_minus : (w y : ℕ) → ¬ (j ≡ a) → Some w ≡ up_to v 2147483648 → y < 2 ^ 32 → (y + w) % 2 ^ 32 ≡ 0 → Word y ≡ word_of_i32 (i32_of s a b)
  unfolding i32_of
  i32_minus w y h u f z =
      let x = some_up_to v 2147483648 w u in
      let e : whole_number 10 s i b ≡ v = uncapped most (whole_number 10 s i b) v q (lt_of_le_of_lt x.1 (lit< tt)) in
      rw (← p, ← m, ne_eqb j a h, e, le-leb v 2147483648 x.1, minus_word v y x.1 f (rw x.0 at z))

  pub i32_far : ¬ (j ≡ a) → ◌≡◌ {A = Option ℕ} None (up_to v 2147483648) → No ≡ word_of_i32 (i32_of s a b)
  unfolding i32_of
  i32_far h u =
      let k : v ≤ whole_number 10 s i b = rw q (min-le_right most (whole_number 10 s i b)) in
      rw (← p, ← m, ne_eqb j a h, lt-leb (whole_number 10 s i b) 2147483648 (lt_of_lt_of_le (none_up_to v 2147483648 u) k))

-- a numeral by the digits on both sides of its point
module _ (a : ℕ) (d : Decimal) (x : ℤ) (y : Float) where
  pub limit_before : 9 < before (d.whole - d.from) x → F32.too_long_lem a ≡ limited a d x y
  limit_before k = rw (lt-leb _ _ k)

  module _ (k : before (d.whole - d.from) x ≤ 9) where
    pub limit_behind : 9 < behind (d.end - d.fraction) x → F32.too_long_lem a ≡ limited a d x y
    limit_behind l = rw (le-leb _ _ k, lt-leb _ _ l)

    pub limit_number : behind (d.end - d.fraction) x ≤ 9 → F32.number y ≡ limited a d x y
    limit_number l = rw (le-leb _ _ k, le-leb _ _ l)

-- no exponent shifts by 0
module _ (s : List ℕ) (i b : ℕ) (l : b ≤ i) where
  pub no-exponent_start : exponent_start s i b ≡ i
  no-exponent_start = rw (le-ltb i b l, le-ltb i b l)

  pub no-exponent : exponent_of s i b ≡ pos 0
  no-exponent = rw (no-exponent_start, le-ltb i b l, le-ltb i b l, le-ltb i i (le_refl i), value-end 10 s i b 0 l)

no_exponent_says : (s : List ℕ) (a b : ℕ) (d : Decimal) → b ≤ d.end → (y : ℤ → Float) → limited a d (pos 0) (y (pos 0)) ≡ with_exponent s a b d y
no_exponent_says s a b d l y =
    let z : b - d.end ≡ 0 = omega arith in
    rw (no-exponent s d.end b l, no-exponent_start s d.end b l, z)

-- a numeral by its text
module _ (s : List ℕ) (a b : ℕ) (d : Decimal) (q : d ≡ split_at s a b) where
  pub f32-empty : d.whole - d.from + (d.end - d.fraction) ≡ 0 → F32.none ≡ f32_of s a b
  unfolding f32_of
  f32-empty h = rw (← q, eq-eqb _ _ h)

  module _ (h : ¬ (d.whole - d.from + (d.end - d.fraction) ≡ 0)) where
    pub f32-rest : ends_at s d.end b ≡ false → F32.none ≡ f32_of s a b
    unfolding f32_of
    f32-rest e = rw (← q, ne_eqb _ _ h, e)

    pub f32_says : ends_at s d.end b ≡ true → with_exponent s a b d (float_of s a b d) ≡ f32_of s a b
    unfolding f32_of
    f32_says e = rw (← q, ne_eqb _ _ h, e)

    -- with nothing behind its digits
    module _ (l : b ≤ d.end) where
      pub f32-plain : limited a d (pos 0) (float_of s a b d (pos 0)) ≡ f32_of s a b
      f32-plain = no_exponent_says s a b d l (float_of s a b d) ∙ f32_says (rw (le-ltb _ _ l))

      pub f32_long : 9 < d.whole - d.from → F32.too_long_lem a ≡ f32_of s a b
      f32_long k = limit_before a d (pos 0) _ (omega arith) ∙ f32-plain

      module _ (k : d.whole - d.from ≤ 9) where
        pub f32_long_fraction : 9 < d.end - d.fraction → F32.too_long_lem a ≡ f32_of s a b
        f32_long_fraction o = limit_behind a d (pos 0) _ (omega arith) (omega arith) ∙ f32-plain

        pub f32-number : d.end - d.fraction ≤ 9 → F32.number (float_of s a b d (pos 0)) ≡ f32_of s a b
        f32-number o = limit_number a d (pos 0) _ (omega arith) (omega arith) ∙ f32-plain

-- so many digits write less than ten to that power
module _ (s : List ℕ) (a b : ℕ) (d : Decimal) (q : d ≡ split_at s a b) where
  pub whole_is : d.whole ≡ span_to is_digit s d.from b
  unfolding split_at
  whole_is = rw q

  pub end_is : d.end ≡ span_to is_digit s d.fraction b
  unfolding split_at
  end_is = rw q

  pub digits-below : digits_of s d < 10 ^ (d.whole - d.from + (d.end - d.fraction))
  digits-below =
      let w = value 10 s (d.whole - d.from) d.from 0 in
      let h : w < 10 ^ (d.whole - d.from) = rw (one-mul (10 ^ (d.whole - d.from))) at (value-below 10 s (lit< tt) (b - d.from) d.from 0 d.whole whole_is) in
      lt_of_lt_of_le (value-below 10 s (lit< tt) (b - d.fraction) d.fraction w d.end end_is)
      (rw (pow-add 10 (d.whole - d.from) (d.end - d.fraction)) (mul-le-mul_right (10 ^ (d.end - d.fraction)) (rw (add-one w) h)))

-- what is no decimal digit
pub no_digit_below : (b : ℕ) → b < 48 → is_digit b ≡ false
no_digit_below b h = rw (← digit-below b h)

pub no_digit_above : (b : ℕ) → 57 < b → is_digit b ≡ false
no_digit_above b h = le-ltb (digit_of b) 10 (no-decimal b h)

-- one digit more of a run
pub run_below : (start a d n : ℕ) → a < (start + 1) * 10 ^ n → d ≤ 9 → a * 10 + d < (start + 1) * 10 ^ (n + 1)
run_below start a d n h k = rw (add-one n, pow-suc, ← mul_assoc (start + 1) (10 ^ n) 10) (omega arith)

pub run_nine : (start n : ℕ) → n ≤ 9 → (start + 1) * 10 ^ n ≤ (start + 1) * 1000000000
run_nine start n h = mul-le-mul_left (start + 1) (pow-le-pow_right (lit< tt) h)

-- ---- for a function each

pub ruleset values = (value_turn, value-end, min-eq_right)

pub ruleset i32s = (i32_minus, i32_far)

pub ruleset f32s = (f32-empty, f32-rest, f32_long, f32_long_fraction)
