-- `sqrt binary32 x` is the correctly rounded root of x: every other f32 is farther from √x, and there is never a tie. The theorem is `nearest-root`, at the end; its words stand in specs/Root.antt, `NearestRoot`.
-- Values are counted in units of the smallest f32: n is x in squares of it, g the root, and b any other value.
use Rattle.std.proofs.Common.{◌≡◌, ℕ, zero, suc, ◌+◌, ◌-◌, ◌*◌, ◌/◌, ◌%◌, ◌^◌, ◌<◌, ◌≤◌, true, false, ◌&&◌, T, eqb, ltb, leb, ◌⊎◌, sym, ap, ◌∙◌, subst, inl, inr, ⊎_elim, le_trans, le_of_eq, lt_of_lt_of_le, lt_of_le_of_lt, le_of_lt, mul-le-mul_right, mul_assoc, div-lt_iff_lt-mul, eq-zero-or-pos, mul-lt-mul_of_pos_right, mul-pos, lt_of_not-le, le-div_iff_mul-le, mul_right_comm, not-le_of_lt, div-mul-le_self, add-one, arith, lit<, ltb→lt, pow_pos, pow_mono, pow-add, shl_lt}
use Prim.Native.Nat.{compare, Ordering}
use native.Mathlib.Nat.{eq_of_mul-eq-mul_right}
use native.Mathlib.Decide.{dec_le}
use lib.Pow.{pow-lt}
use lib.Ieee.{Float, nan, inf, fin, binary32, up, down, size, nearest, odd, units, fits, to_bits}
use lib.Ieee.Digits.{size-le, size_reaches}
use lib.Ieee.Fits.{and_r, down_pos, kept-lt, nearest-le, odd-fits, cond-fits, inf-fits}
use lib.Ieee.Exact.{HasValue, units_val}
use lib.Ieee.Positive.{positive}
use Rattle.decimal.proofs.Law.{cmp, Cmp, pow-back}
use Rattle.float.proofs.Units.{Grid, on_grid}
use Rattle.root.specs.Root.{square, isqrt, closest_root, root_units, square_units, sqrt, Farther, NearestRoot}
use Rattle.root.proofs.Law.{square_mono, square-back, square-mul, isqrt-is, sqrt-is, start-low, start-high}

multiple : (m j k : ℕ) → k ≤ j → m * 2 ^ j ≡ m * 2 ^ (j - k) * 2 ^ k
multiple m j k h = ap (λ (x : ℕ). m * x) (ap (λ (x : ℕ). 2 ^ x) split ∙ pow-add 2 (j - k) k) ∙ sym (mul_assoc m (2 ^ (j - k)) (2 ^ k))
  where
    split : j ≡ j - k + k
    split = omega arith

-- ---- no such value lies between q * 2 ^ k and (q + 1) * 2 ^ k
gap : (b q k : ℕ) → Grid b → (2 ^ 23 ≤ q) ⊎ (k ≡ 0) → (b ≤ q * 2 ^ k) ⊎ ((q + 1) * 2 ^ k ≤ b)
gap b q k (m, j, small, is) big = elim (dec_le k j) [ yes h ↦ near h | no h ↦ far (lt_of_not-le h) ]
  where
    near : k ≤ j → (b ≤ q * 2 ^ k) ⊎ ((q + 1) * 2 ^ k ≤ b)
    near h =
        let c = m * 2 ^ (j - k) in
        let e : b ≡ c * 2 ^ k = is ∙ multiple m j k h in
        elim (dec_le c q) [
          | yes l ↦ inl (le_trans (le_of_eq e) (mul-le-mul_right (2 ^ k) l))
          | no l ↦ inr (le_trans (mul-le-mul_right (2 ^ k) (next q c l)) (le_of_eq (sym e)))
        ]
      where
        next : (q c : ℕ) → ¬ (c ≤ q) → q + 1 ≤ c
        next q c h = omega arith

    far : j < k → (b ≤ q * 2 ^ k) ⊎ ((q + 1) * 2 ^ k ≤ b)
    far h =
        inl (le_trans (le_of_eq is) (le_trans (le_of_lt (shl_lt 24 j small)) (le_trans (pow_mono (one j k h)) (le_trans (le_of_eq (pow-add 2 23 k)) (mul-le-mul_right (2 ^ k) (⊎_elim (λ l. l) (λ z. none z h) big))))))
      where
        one : (j k : ℕ) → j < k → 24 + j ≤ 23 + k
        one j k h = omega arith

        none : k ≡ 0 → j < k → 2 ^ 23 ≤ q
        none z h = absurd (no j k z h)
          where
            no : (j k : ℕ) → k ≡ 0 → j < k → ⊥
            no j k z h = omega arith

-- ---- g, one of a and c, against b outside of them
module _ (n a c b : ℕ) (outside : (b ≤ a) ⊎ (c ≤ b)) where
  low_side : square a ≤ n → 4 * n < square (a + c) → Farther n a b
  low_side h l = (
    (λ (s : b < a). omega (arith, square_mono (b + a + 1) (a + a) (omega arith))),
    (λ (s : a < b). ⊎_elim (λ (u : b ≤ a). absurd (not-le_of_lt s u)) (λ (u : c ≤ b). lt_of_lt_of_le l (square_mono (a + c) (b + a) (omega arith))) outside),
  )

  high_side : n < square c → square (a + c) < 4 * n → Farther n c b
  high_side h l = (
    (λ (s : b < c). ⊎_elim (λ (u : b ≤ a). lt_of_le_of_lt (square_mono (b + c) (a + c) (omega arith)) l) (λ (u : c ≤ b). absurd (not-le_of_lt s u)) outside),
    (λ (s : c < b). omega (arith, square_mono (c + c) (b + c) (omega arith))),
  )

sum : (q p : ℕ) → (2 * q + 1) * p ≡ q * p + (q + 1) * p
sum q p = omega arith

-- what `nearest` makes of q, where there is no tie: q or q + 1, times p
middle : (n q p b : ℕ) (o : Ordering) → (b ≤ q * p) ⊎ ((q + 1) * p ≤ b) → square (q * p) ≤ n → n < square ((q + 1) * p) → Cmp o (4 * n) (square ((2 * q + 1) * p)) → (4 * n ≡ square ((2 * q + 1) * p) → ⊥) → Farther n (nearest q o * p) b
middle n q p b Ordering.lt u h k s t = low_side n (q * p) ((q + 1) * p) b u h (rw sum at s)
middle n q p b Ordering.gt u h k s t = subst (λ (x : ℕ). Farther n (x * p) b) (add-one q) (high_side n (q * p) ((q + 1) * p) b u k (rw sum at s))
middle n q p b Ordering.eq u h k s t = absurd (t s)

-- ---- the theorem
module _ (n m j : ℕ) (range : n < 2 ^ 426) (small : m < 2 ^ 24) (is : n ≡ m * 2 ^ j) where
  abbrev k : ℕ
  k = size (isqrt n) - 24

  abbrev q : ℕ
  q = isqrt n / 2 ^ k

  from : square (q * 2 ^ k) ≤ n
  from = le_trans (square_mono (q * 2 ^ k) (isqrt n) (div-mul-le_self (isqrt n) (2 ^ k))) (isqrt-is n).0

  upto : isqrt n + 1 ≤ (q + 1) * 2 ^ k
  upto = step (isqrt n) _ ((div-lt_iff_lt-mul {x = isqrt n} {y = q + 1} (pow_pos k)).0 (omega arith))
    where
      step : (a b : ℕ) → a < b → a + 1 ≤ b
      step a b h = omega arith

  long : (2 ^ 23 ≤ q) ⊎ (k ≡ 0)
  long =
      elim (dec_le 24 (size (isqrt n))) [
        | yes h ↦ inl ((le-div_iff_mul-le (pow_pos k)).1 (le_trans (le_of_eq (sym (pow-add 2 23 k))) (size_reaches (isqrt n) (23 + k) (room (size (isqrt n)) h))))
        | no h ↦ inr (none (size (isqrt n)) h)
      ]
    where
      room : (s : ℕ) → 24 ≤ s → 23 + (s - 24) < s
      room s h = omega arith

      none : (s : ℕ) → ¬ (24 ≤ s) → s - 24 ≡ 0
      none s h = omega arith

  k_hi : k ≤ 189
  k_hi = less (size (isqrt n)) (size-le (isqrt n) 213 (square-back (isqrt n) (2 ^ 213) (lt_of_le_of_lt (isqrt-is n).0 range)))
    where
      less : (s : ℕ) → s ≤ 213 → s - 24 ≤ 189
      less s h = omega arith

  abbrev g : ℕ
  g = closest_root n k * 2 ^ k

  kept : closest_root n k ≤ 2 ^ 24
  unfolding closest_root
  kept = le_trans (nearest-le q (compare (4 * n) (square ((2 * q + 1) * 2 ^ k)))) (kept-lt 24 (isqrt n))

  finite : g < 2 ^ 277
  finite = lt_of_le_of_lt (mul-le-mul_right (2 ^ k) kept) (lt_of_le_of_lt (le_of_eq (sym (pow-add 2 24 k))) (pow-lt (fine k k_hi)))
    where
      fine : (k : ℕ) → k ≤ 189 → 24 + k < 277
      fine k h = omega arith

  pub root-fits : T (fits binary32 (root_units binary32 n))
  unfolding root_units units
  root-fits = cond-fits binary32 (ltb g (2 ^ 277)) (odd 25 false (closest_root n k) k 149) (inf false) (odd-fits binary32 25 false (closest_root n k) k (lt_of_le_of_lt kept (lit< tt)) kept finite) (inf-fits binary32 false)

  pub has_value : HasValue (root_units binary32 n) false g (2 ^ 149)
  unfolding root_units
  has_value = units_val binary32 false (closest_root n k) k finite

  -- n is a multiple of 4 ^ k, and no odd square is a multiple of 4
  deep : k + k ≤ j
  deep = ⊎_elim (λ (h : 2 ^ 23 ≤ q). room k j (pow-back (46 + (k + k)) (24 + j) (lt_of_le_of_lt (large h) (lt_of_le_of_lt from (lt_of_le_of_lt (le_of_eq is) (shl_lt 24 j small)))))) (none k j) long
    where
      large : 2 ^ 23 ≤ q → 2 ^ (46 + (k + k)) ≤ square (q * 2 ^ k)
      large h =
          le_trans (le_of_eq (pow-add 2 46 (k + k) ∙ ap (λ (x : ℕ). 2 ^ 46 * x) (pow-add 2 k k)))
          (le_trans (mul-le-mul_right (square (2 ^ k)) (square_mono (2 ^ 23) q h)) (le_of_eq (sym (square-mul q (2 ^ k)))))

      room : (k j : ℕ) → 46 + (k + k) < 24 + j → k + k ≤ j
      room k j h = omega arith

      none : (k j : ℕ) → k ≡ 0 → k + k ≤ j
      none k j z = omega arith

  no_tie : 4 * n ≡ square ((2 * q + 1) * 2 ^ k) → ⊥
  no_tie e =
      let M = m * 2 ^ (j - (k + k)) in
      let p = square (2 ^ k) in
      uneven M q
      (eq_of_mul-eq-mul_right p (mul-pos (pow_pos k) (pow_pos k)) (4 * M) (square (2 * q + 1))
      (mul_assoc 4 M p ∙ ap (λ (x : ℕ). 4 * (M * x)) (sym (pow-add 2 k k)) ∙ ap (λ (x : ℕ). 4 * x) (sym (is ∙ multiple m j (k + k) deep)) ∙ e ∙ square-mul (2 * q + 1) (2 ^ k)))
    where
      uneven : (m q : ℕ) → 4 * m ≡ square (2 * q + 1) → ⊥
      uneven m q h = omega arith

  pub best : (y : Float) (b : ℕ) → T (fits binary32 y) → HasValue y false b (2 ^ 149) → Farther n g b
  unfolding closest_root
  best y b f h =
      middle n q (2 ^ k) b (compare (4 * n) (square ((2 * q + 1) * 2 ^ k))) (gap b q k (on_grid y false b f h) long)
      from
      (lt_of_lt_of_le (isqrt-is n).1 (square_mono (isqrt n + 1) ((q + 1) * 2 ^ k) upto))
      (cmp (4 * n) (square ((2 * q + 1) * 2 ^ k)))
      no_tie

-- ---- of a float
in-range : (x : Float) → T (fits binary32 x) → T (positive x) → square_units binary32 x < 2 ^ 426
unfolding fits
in-range nan f p = absurd p
in-range (inf s) f p = absurd p
in-range (fin true m e) f p = absurd p
in-range (fin false zero e) f p = absurd p
in-range (fin false (suc m) e) f p =
    (div-lt_iff_lt-mul (down_pos e)).1
    (lt_of_lt_of_le (mul-lt-mul_of_pos_right (ltb→lt (suc m * up e) (2 ^ 128 * down e) (and_r (eqb (suc m % 2) 1 && ltb (suc m) (2 ^ 24) && leb (down e) (2 ^ 149)) (ltb (suc m * up e) (2 ^ 128 * down e)) f)) (pow_pos 298))
    (le_of_eq (mul_right_comm (2 ^ 128) (down e) (2 ^ 298))))

square_on_grid : (x : Float) → T (fits binary32 x) → T (positive x) → Grid (square_units binary32 x)
square_on_grid x f p =
    let b = to_bits binary32 x in
    ⊎_elim
    (λ (z : b / 2 ^ 23 ≡ 0). (b % 2 ^ 23, 149, omega arith, sym (start-low x f p z).0))
    (λ (h : 0 < b / 2 ^ 23). (b % 2 ^ 23 + 2 ^ 23, b / 2 ^ 23 + 148, omega arith, sym (start-high x f p h).0))
    (eq-zero-or-pos (b / 2 ^ 23))

-- THE THEOREM, for every finite x above zero
pub nearest-root : (x : Float) → T (fits binary32 x) → T (positive x) → NearestRoot x (sqrt binary32 x)
nearest-root x f p =
    let n = square_units binary32 x in
    let (m, j, small, is) = square_on_grid x f p in
    let r = in-range x f p in
    subst (λ (v : Float). NearestRoot x v) (sym (sqrt-is x p)) (root-fits n m j r small is, g n m j r small is, has_value n m j r small is, best n m j r small is)

-- so a function that answers `sqrt` promises both
pub told : (x r : Float) → T (fits binary32 x) → r ≡ sqrt binary32 x → (r ≡ sqrt binary32 x) × (T (positive x) → NearestRoot x r)
told x r f e = (e, λ (p : T (positive x)). subst (λ (v : Float). NearestRoot x v) (sym e) (nearest-root x f p))
