-- A fraction of magnitude at most 1,000,000,000 has a value in reach, and what is in reach is cut or rounded to a whole number of magnitude at most 1,000,000,000.
use Rattle.std.proofs.Common.{◌≡◌, ℕ, zero, suc, ◌+◌, ◌-◌, ◌*◌, ◌/◌, ◌^◌, ◌<◌, ◌≤◌, min, Bool, true, false, cond, not, ◌&&◌, ◌||◌, T, eqb, ltb, ℤ, pos, neg_ℤ, nat_abs, sym, refl, subst, le_trans, le_of_eq, le_of_lt, div-lt_iff_lt-mul, mul-pos, mul-one, arith, lit<, eqb→eq, ltb→lt, lt→ltb}
use lib.Signed.{non_neg}
use lib.Dec.{eqb_refl}
use lib.Ieee.{Float, nan, inf, fin, Format, binary32, prec, emax, low, up, down, size, odd, units, round, neg, lt, le, to_signed}
use lib.Ieee.Fits.{round_is, and_i, and_l, and_r, down_pos}
use lib.Ieee.Order.{round_mono}
use lib.Ieee.Nearest.{closest}
use Rattle.decimal.proofs.Law.{neg_round}
use Rattle.float.specs.Float.{zero as +0, max_zero, billion, in_reach_lem, round_size, round_away}
use Rattle.float.proofs.Sign.{above_cases}

-- neither a NaN nor below zero
abbrev pub unsigned : Float → Bool
unsigned nan = false
unsigned (inf s) = not s
unsigned (fin s m e) = not s

units_up : (f : Format) (q k : ℕ) → T (unsigned (units f false q k))
unfolding units odd
units_up f q k = go (ltb (q * 2 ^ k) (2 ^ (low f + suc (emax f)))) q
  where
    go : (b : Bool) (q : ℕ) → T (unsigned (cond b (odd (suc (prec f)) false q k (low f)) (inf false)))
    go true zero = tt
    go true (suc q) = tt
    go false q = tt

pub round_up : (f : Format) (a b : ℕ) → T (unsigned (round f false a b))
round_up f a b = subst (λ (v : Float). T (unsigned v)) (sym (round_is f false a b)) (units_up f (closest (a * 2 ^ low f) (b * 2 ^ k)) k)
  where
    k : ℕ
    k = size (a * 2 ^ low f / b) - prec f

a-billion : round binary32 false 1000000000 1 ≡ billion
unfolding round
a-billion = refl

or_l : (a b : Bool) → T a → T (a || b)
or_l true b t = tt
or_l false b t = absurd t

swap : (l e f : Bool) → (T e → T f) → T (l || (e && true)) → T (l || (f && true))
swap true e f g t = tt
swap false true true g t = tt
swap false true false g t = g tt
swap false false f g t = absurd t

-- less or equal, as `le` has it
pub or_le : (a b : ℕ) (t : Bool) → T (ltb a b || (eqb a b && t)) → a ≤ b
or_le a b t = go (ltb a b) (ltb→lt a b)
  where
    go : (s : Bool) → (T s → a < b) → T (s || (eqb a b && t)) → a ≤ b
    go true f h = le_of_lt (f tt)
    go false f h = le_of_eq (eqb→eq a b (and_l (eqb a b) t h))

flip : (a b : ℕ) → T (eqb a b) → T (eqb b a)
flip a b t = subst (λ (x : ℕ). T (eqb b x)) (sym (eqb→eq a b t)) (eqb_refl b)

within : (v : Float) → T (unsigned v) → T (le v billion) → T (in_reach_lem v) × T (in_reach_lem (neg v))
unfolding neg le in_reach_lem
within nan u h = absurd u
within (inf true) u h = absurd u
within (inf false) u h = absurd h
within (fin true m e) u h = absurd u
within (fin false m e) u h =
    let a = 1000000000 * down e in
    let b = m * up e * 1 in (
      and_i (le (neg billion) (fin false m e)) (le (fin false m e) billion) (or_l (ltb 0 (a + b)) (eqb a b && (false || eqb a 0)) (lt→ltb 0 (a + b) (omega (arith, big)))) h,
      and_i (le (neg billion) (fin true m e)) (le (fin true m e) billion) (swap (ltb b a) (eqb b a) (eqb a b) (flip b a) h) (or_l (ltb 0 (b + a)) (eqb b a && (false || eqb b 0)) (lt→ltb 0 (b + a) (omega (arith, big)))),
    )
  where
    big : 0 < 1000000000 * down e
    big = mul-pos (lit< tt) (down_pos e)

-- a fraction of magnitude at most 1,000,000,000
pub fraction-in_reach : (s : Bool) (n d : ℕ) → 0 < d → n ≤ 1000000000 * d → T (in_reach_lem (round binary32 s n d))
fraction-in_reach s n d D h = go s
  where
    both : T (in_reach_lem (round binary32 false n d)) × T (in_reach_lem (neg (round binary32 false n d)))
    both = within (round binary32 false n d) (round_up binary32 n d) (subst (λ (v : Float). T (le (round binary32 false n d) v)) a-billion (round_mono binary32 n d 1000000000 1 D (lit< tt) (le_trans (le_of_eq (mul-one n)) h)))

    go : (s : Bool) → T (in_reach_lem (round binary32 s n d))
    go false = both.0
    go true = subst (λ (v : Float). T (in_reach_lem v)) (neg_round binary32 n d) both.1

-- ---- whole numbers
pub size-in_reach : (s : Bool) (m : ℕ) (e : ℤ) → T (in_reach_lem (fin s m e)) → m * up e ≤ 1000000000 * down e
unfolding in_reach_lem le neg
size-in_reach s m e = go s
  where
    low : m * up e * 1 ≤ 1000000000 * down e → m * up e ≤ 1000000000 * down e
    low h = le_trans (le_of_eq (sym (mul-one (m * up e)))) h

    go : (s : Bool) → T (in_reach_lem (fin s m e)) → m * up e ≤ 1000000000 * down e
    go true h =
        let a = 1000000000 * down e in
        let b = m * up e * 1 in
        low (or_le b a true (swap (ltb b a) (eqb a b) (eqb b a) (flip a b) (and_l (le (neg billion) (fin true m e)) (le (fin true m e) billion) h)))
    go false h = low (or_le (m * up e * 1) (1000000000 * down e) true (and_r (le (neg billion) (fin false m e)) (le (fin false m e) billion) h))

nat_abs-neg : (n : ℕ) → nat_abs (neg_ℤ (pos n)) ≡ n
nat_abs-neg zero = refl
nat_abs-neg (suc n) = refl

signed-size : (s : Bool) (n : ℕ) → n ≤ 1000000000 → nat_abs (cond s (neg_ℤ (pos (min n (2 ^ 31)))) (pos (min n (2 ^ 31 - 1)))) ≤ 1000000000
signed-size true n h = le_trans (le_of_eq (nat_abs-neg (min n (2 ^ 31)))) (omega arith)
signed-size false n h = omega arith

module _ (n d : ℕ) (D : 0 < d) (h : n ≤ 1000000000 * d) where
  cut-size : n / d ≤ 1000000000
  cut-size = under (n / d) ((div-lt_iff_lt-mul D).1 (omega arith))
    where
      under : (k : ℕ) → k < 1000000001 → k ≤ 1000000000
      under k l = omega arith

  round-size : (2 * n + d) / (2 * d) ≤ 1000000000
  round-size = under ((2 * n + d) / (2 * d)) ((div-lt_iff_lt-mul {y = 1000000001} (omega arith)).1 (more n d D h))
    where
      under : (k : ℕ) → k < 1000000001 → k ≤ 1000000000
      under k l = omega arith

      more : (n d : ℕ) → 0 < d → n ≤ 1000000000 * d → 2 * n + d < 1000000001 * (2 * d)
      more n d D h = omega arith

pub cut-in_reach : (x : Float) → T (in_reach_lem x) → nat_abs (to_signed 31 x) ≤ 1000000000
unfolding in_reach_lem le neg to_signed
cut-in_reach nan h = absurd h
cut-in_reach (inf true) h = absurd h
cut-in_reach (inf false) h = absurd h
cut-in_reach (fin s m e) h = signed-size s (m * up e / down e) (cut-size (m * up e) (down e) (down_pos e) (size-in_reach s m e h))

pub round_in_reach : (x : Float) → T (in_reach_lem x) → nat_abs (round_away x) ≤ 1000000000
unfolding in_reach_lem le neg round_away
round_in_reach nan h = absurd h
round_in_reach (inf true) h = absurd h
round_in_reach (inf false) h = absurd h
round_in_reach (fin s m e) h = signed-size s (round_size (fin s m e)) (round-size (m * up e) (down e) (down_pos e) (size-in_reach s m e h))

-- ---- max(0.0)
pub max_zero-in_reach : (x : Float) → T (in_reach_lem x) → T (in_reach_lem (max_zero x))
unfolding max_zero in_reach_lem le neg
max_zero-in_reach x h = go (lt +0 x)
  where
    go : (t : Bool) → T (in_reach_lem (cond t x +0))
    go true = h
    go false = tt

pub round_max_zero : (x : Float) → T (non_neg (round_away (max_zero x)))
unfolding max_zero round_away
round_max_zero x = go (lt +0 x) (above_cases (λ (y : Float). T (non_neg (round_away y))) tt (λ (m : ℕ) (e : ℤ). tt) x)
  where
    go : (t : Bool) → (T t → T (non_neg (round_away x))) → T (non_neg (round_away (cond t x +0)))
    go true f = f tt
    go false f = tt
