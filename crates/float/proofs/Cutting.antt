-- A float cut or rounded to a whole number: what is at least a bound and what is below it, and a half added in f64, where nothing is lost.
use Rattle.std.proofs.Common.{◌≡◌, ℕ, zero, suc, ◌+◌, ◌-◌, ◌*◌, ◌/◌, ◌^◌, ◌<◌, ◌≤◌, min, true, false, cond, T, ℤ, pos, negsuc, neg_ℤ, ◌+ℤ◌, ◌-ℤ◌, sym, refl, ap, ◌∙◌, subst, true≢false, le_of_eq, lt_of_lt_of_le, lt_of_le_of_lt, mul_assoc, mul_comm, mul-pos, div-lt_iff_lt-mul, arith, lit<, lit≤, ltb-false, lt→ltb, lt-ltb, zero-lt-suc, pow_pos, pow-add, shl_lt}
use lib.Pow.{pow_mono}
use native.Mathlib.Nat.{mul_right_comm, le-div_iff_mul-le, mul-lt-mul_of_pos_right, lt_of_not-le, lt_of_mul-lt-mul_right, div-eq_of_lt, mul-mul-mul_comm, pow-suc}
use lib.Dec.{eqb→eq}
use lib.Ieee.{Float, nan, inf, fin, binary32, binary64, up, down, fits, round, sum, add, lt, le, neg, of_bits, to_signed, to_unsigned}
use lib.Ieee.Fits.{up_pos, down_pos, and_r}
use lib.Ieee.Exact.{HasValue, round_exact}
use lib.Ieee.Nearest.{div_same}
use lib.Ieee.Order.{le_of_values}
use Rattle.std.specs.Float.{minus_one, two_to, ◌<ᶠ◌}
use Rattle.std.specs.Int.{saturate_to_bits}
use Rattle.decimal.proofs.Law.{pow-back}
use Rattle.float.proofs.Reach.{or_le}
use Rattle.float.proofs.Sign.{is_below, below_cases}
use Rattle.float.proofs.Round.{few}
use Rattle.float.specs.Inner.{whole_part, half_up, whole_by}
use Rattle.float.specs.Float.{round_away, round_byte}

-- ---- against a bound above zero, of k * up c / down c
under : (k : ℕ) (c : ℤ) (m : ℕ) (e : ℤ) → le (fin false k c) (fin false m e) ≡ false → m * up e * down c < k * up c * down e
under k c m e h = lt_of_not-le (λ l. subst T h (le_of_values (fin false k c) (fin false m e) (k * up c) (down c) (m * up e) (down e) (down_pos c) (down_pos e) (refl, refl) (refl, refl) l))

module _ (k : ℕ) (c : ℤ) where
  short : (P : Float → Type 0) → P nan → P (inf true) → ((m : ℕ) (e : ℤ) → P (fin true m e)) → ((m : ℕ) (e : ℤ) → m * up e * down c < k * up c * down e → P (fin false m e)) → (x : Float) → le (fin false k c) x ≡ false → P x
  unfolding le
  short P n i t f nan h = n
  short P n i t f (inf true) h = i
  short P n i t f (inf false) h = absurd (true≢false h)
  short P n i t f (fin true m e) h = t m e
  short P n i t f (fin false m e) h = f m e (under k c m e h)

  reached : 0 < k → (P : Float → Type 0) → P (inf false) → ((m : ℕ) (e : ℤ) → k * up c * down e ≤ m * up e * down c → P (fin false m e)) → (x : Float) → T (le (fin false k c) x) → P x
  unfolding le
  reached K P i f nan h = absurd h
  reached K P i f (inf true) h = absurd h
  reached K P i f (inf false) h = i
  reached K P i f (fin true m e) h = absurd (none (k * up c * down e) (mul-pos (mul-pos K (up_pos c)) (down_pos e)) (eqb→eq (k * up c * down e) 0 (and_r _ _ h)))
    where
      none : (n : ℕ) → 0 < n → n ≡ 0 → ⊥
      none n l e = omega arith
  reached K P i f (fin false m e) h = f m e (or_le (k * up c * down e) (m * up e * down c) true h)

  -- and below another, of n * 2 ^ j
  between : 0 < k → (n j : ℕ) (P : Float → Type 0) → ((m : ℕ) (e : ℤ) → k * up c * down e ≤ m * up e * down c → m * up e * 1 < n * 2 ^ j * down e → P (fin false m e)) → (x : Float) → T (le (fin false k c) x) → le (fin false n (pos j)) x ≡ false → P x
  unfolding le
  between K n j P f = reached K (λ x. le (fin false n (pos j)) x ≡ false → P x) (λ h. absurd (true≢false h)) (λ m e l h. f m e l (under n (pos j) m e h))

-- ---- n / d as a whole number, a half going up
module _ (n d : ℕ) (D : 0 < d) where
  twice : 0 < 2 * d
  twice = omega arith

  at_least : (k : ℕ) → k * d ≤ n → k ≤ half_up n d
  at_least k h = (le-div_iff_mul-le twice).1 (more (k * d) (k * (2 * d)) n d h (sym (mul_assoc k 2 d) ∙ ap (λ x. x * d) (mul_comm k 2) ∙ mul_assoc 2 k d))
    where
      more : (a b n d : ℕ) → a ≤ n → b ≡ 2 * a → b ≤ 2 * n + d
      more a b n d h e = omega arith

  below_half : 2 * n < d → half_up n d ≡ 0
  below_half h = div-eq_of_lt (omega arith)

-- ---- a whole number of 64 binary digits, cut from n / d
abbrev pub Cut : Float → ℕ → Type 0
Cut v n = (to_unsigned 64 v ≡ n) × (minus_one <ᶠ v) × (v <ᶠ two_to 64)

cut : (v : Float) (n d : ℕ) → 0 < d → HasValue v false n d → n < 2 ^ 32 * d → Cut v (n / d)
unfolding to_unsigned lt
cut nan n d D h l = absurd h
cut (inf s) n d D h l = absurd h
cut (fin true m e) n d D h l = absurd (true≢false h.0)
cut (fin false m e) n d D h l =
    let few : n / d < 2 ^ 32 = (div-lt_iff_lt-mul D).1 l in (
      ap (λ x. min x (2 ^ 64 - 1)) (div_same (m * up e) (down e) n d (down_pos e) D h.1) ∙ whole (n / d) few,
      lt→ltb 0 (1 * 1 * down e + m * up e * 1) (low (down e) (m * up e) (down_pos e)),
      lt→ltb (m * up e * 1) (1 * 2 ^ 64 * down e) (high (m * up e) (down e) (lt_of_mul-lt-mul_right d (lt_of_le_of_lt (le_of_eq h.1) (lt_of_lt_of_le (mul-lt-mul_of_pos_right l (down_pos e)) (le_of_eq (mul_right_comm (2 ^ 32) d (down e))))))),
    )
  where
    whole : (q : ℕ) → q < 2 ^ 32 → min q (2 ^ 64 - 1) ≡ q
    whole q h = omega arith

    low : (d n : ℕ) → 0 < d → 0 < 1 * 1 * d + n * 1
    low d n h = omega arith

    high : (n d : ℕ) → n < 2 ^ 32 * d → n * 1 < 1 * 2 ^ 64 * d
    high n d h = omega arith

-- ---- an f32 from a half to 2 ^ 31, and a half
exact : (m : ℕ) (e : ℤ) → T (fits binary32 (fin false m e)) → 1 * 1 * down e ≤ m * up e * 2 → m * up e * 1 < 1 * 2 ^ 31 * down e
    → let n = 2 * (m * up e) + down e in let d = 2 * down e in HasValue (round binary64 false n d) false n d
exact m (pos k) f h l =
    let n = 2 * (m * 2 ^ k) + 1 in
    let small : n < 2 ^ 53 = most (m * 2 ^ k) l in
    round_exact binary64 false n 2 n 1073 (lit< tt) small (lt_of_lt_of_le (shl_lt 53 1073 small) (lit≤ tt)) (ap (λ x. n * x) (pow-add 2 1073 1) ∙ sym (mul_assoc n (2 ^ 1073) 2))
  where
    most : (n : ℕ) → n * 1 < 1 * 2 ^ 31 * 1 → 2 * n + 1 < 2 ^ 53
    most n h = omega arith
exact m (negsuc a) f h l =
    let n = 2 * (m * 1) + 2 ^ suc a in
    let q = m + 2 ^ a in
    let p = pow-suc 2 a in
    let c = (few false m (negsuc a) f).0 in
    let small : q < 2 ^ 53 = most m (2 ^ a) (2 ^ suc a) p c h in
    let j : a < 24 = pow-back a 24 (lower m (2 ^ a) (2 ^ suc a) p c h) in
    round_exact binary64 false n (2 * 2 ^ suc a) q (1073 - a) (mul-pos (lit< tt) (pow_pos (suc a))) small
    (lt_of_lt_of_le (shl_lt 53 (1073 - a) small) (pow_mono (room a)))
    (ap (λ x. x * 2 ^ 1074) (doubled m (2 ^ a) (2 ^ suc a) p) ∙ ap (λ x. q * 2 * x) (ap (λ x. 2 ^ x) (split a j) ∙ pow-add 2 (1073 - a) (suc a)) ∙ mul-mul-mul_comm q 2 (2 ^ (1073 - a)) (2 ^ suc a))
  where
    most : (m p r : ℕ) → r ≡ p * 2 → m < 2 ^ 24 → 1 * 1 * r ≤ m * 1 * 2 → m + p < 2 ^ 53
    most m p r e h l = omega arith

    lower : (m p r : ℕ) → r ≡ p * 2 → m < 2 ^ 24 → 1 * 1 * r ≤ m * 1 * 2 → p < 2 ^ 24
    lower m p r e h l = omega arith

    doubled : (m p r : ℕ) → r ≡ p * 2 → 2 * (m * 1) + r ≡ (m + p) * 2
    doubled m p r e = omega arith

    room : (a : ℕ) → 53 + (1073 - a) ≤ 1074 + 1024
    room a = omega arith

    split : (a : ℕ) → a < 24 → 1074 ≡ 1073 - a + suc a
    split a h = omega arith

-- ---- up to 2 ^ 31
least : (q : ℕ) → q < 2 ^ 31 + 1 → min q (2 ^ 31) ≡ q
least q h = omega arith

module _ (x : Float) (f : T (fits binary32 x)) (h : le (of_bits binary32 0x3F000000) x ≡ true) (l : le (of_bits binary32 0x4F000000) x ≡ false) where
  pub half_added : Cut (add binary64 x (of_bits binary64 0x3FE0000000000000)) (whole_by half_up x)
  unfolding of_bits add sum whole_by
  half_added = between 1 (negsuc 0) (lit< tt) 1 31 (λ y. T (fits binary32 y) → Cut (add binary64 y (fin false 1 (negsuc 0))) (whole_by half_up y)) one x (subst T (sym h) tt) l f
    where
      same : (a b : ℕ) → a * 2 + 1 * 1 * b ≡ 2 * a + b
      same a b = omega arith

      one : (m : ℕ) (e : ℤ) → 1 * 1 * down e ≤ m * up e * 2 → m * up e * 1 < 1 * 2 ^ 31 * down e → T (fits binary32 (fin false m e)) → Cut (round binary64 false (m * up e * 2 + 1 * 1 * down e) (down e * 2)) (min (half_up (m * up e) (down e)) (2 ^ 31))
      one m e a b f =
          let n = 2 * (m * up e) + down e in
          let d = 2 * down e in
          let D : 0 < d = twice (m * up e) (down e) (down_pos e) in
          let q : n / d < 2 ^ 31 + 1 = (div-lt_iff_lt-mul D).1 (most (m * up e) (down e) (down_pos e) b) in
          rw (same (m * up e) (down e), mul_comm (down e) 2, least (n / d) q) (cut (round binary64 false n d) n d D (exact m e f a b) (fewer (m * up e) (down e) b))
        where
          most : (n d : ℕ) → 0 < d → n * 1 < 1 * 2 ^ 31 * d → 2 * n + d < (2 ^ 31 + 1) * (2 * d)
          most n d D h = omega arith

          fewer : (n d : ℕ) → n * 1 < 1 * 2 ^ 31 * d → 2 * n + d < 2 ^ 32 * (2 * d)
          fewer n d h = omega arith

  pub sum_above : minus_one <ᶠ add binary64 x (of_bits binary64 0x3FE0000000000000)
  sum_above = half_added.1

  pub sum_below : add binary64 x (of_bits binary64 0x3FE0000000000000) <ᶠ two_to 64
  sum_below = half_added.2

module _ (x : Float) (h : le (of_bits binary32 0x3F800000) x ≡ true) (l : le (of_bits binary32 0x4F000000) x ≡ false) where
  pub whole_between : Cut x (whole_by whole_part x)
  unfolding of_bits whole_by
  whole_between = between 1 (pos 0) (lit< tt) 1 31 (λ y. Cut y (whole_by whole_part y)) (λ m e a b. one m e b) x (subst T (sym h) tt) l
    where
      most : (n d : ℕ) → 0 < d → n * 1 < 1 * 2 ^ 31 * d → n < (2 ^ 31 + 1) * d
      most n d D h = omega arith

      fewer : (n d : ℕ) → n * 1 < 1 * 2 ^ 31 * d → n < 2 ^ 32 * d
      fewer n d h = omega arith

      one : (m : ℕ) (e : ℤ) → m * up e * 1 < 1 * 2 ^ 31 * down e → Cut (fin false m e) (min (whole_part (m * up e) (down e)) (2 ^ 31))
      one m e b =
          let n = m * up e in
          let d = down e in
          rw (least (n / d) ((div-lt_iff_lt-mul (down_pos e)).1 (most n d (down_pos e) b))) (cut (fin false m e) n d (down_pos e) (refl, refl) (fewer n d b))

  pub whole_above : minus_one <ᶠ x
  whole_above = whole_between.1

  pub whole_below : x <ᶠ two_to 64
  whole_below = whole_between.2

-- ---- beyond, and below the first
module _ (size : ℕ → ℕ → ℕ) (low : (n d : ℕ) → 0 < d → 2 ^ 31 * d ≤ n → 2 ^ 31 ≤ size n d) where
  high : (x : Float) → le (of_bits binary32 0x4F000000) x ≡ true → 2 ^ 31 ≡ whole_by size x
  unfolding of_bits whole_by
  high x h = reached 1 (pos 31) (lit< tt) (λ y. 2 ^ 31 ≡ whole_by size y) refl (λ m e l. capped (size (m * up e) (down e)) (low (m * up e) (down e) (down_pos e) (omega (arith, l)))) x (subst T (sym h) tt)
    where
      capped : (q : ℕ) → 2 ^ 31 ≤ q → 2 ^ 31 ≡ min q (2 ^ 31)
      capped q h = omega arith

pub whole_high : (x : Float) → le (of_bits binary32 0x4F000000) x ≡ true → 2 ^ 31 ≡ whole_by whole_part x
whole_high = high whole_part (λ n d D h. (le-div_iff_mul-le D).1 h)

pub nearest_high : (x : Float) → le (of_bits binary32 0x4F000000) x ≡ true → 2 ^ 31 ≡ whole_by half_up x
nearest_high = high half_up (λ n d D h. at_least n d D (2 ^ 31) h)

pub whole_low : (x : Float) → le (of_bits binary32 0x3F800000) x ≡ false → 0 ≡ whole_by whole_part x
unfolding of_bits whole_by
whole_low x h = short 1 (pos 0) (λ y. 0 ≡ whole_by whole_part y) refl refl (λ m e. refl) (λ m e l. none (m * up e) (down e) l) x h
  where
    none : (n d : ℕ) → n * 1 < 1 * 1 * d → 0 ≡ min (n / d) (2 ^ 31)
    none n d l = ap (λ q. min q (2 ^ 31)) (sym (div-eq_of_lt (omega arith)))

pub nearest_low : (x : Float) → le (of_bits binary32 0x3F000000) x ≡ false → 0 ≡ whole_by half_up x
unfolding of_bits whole_by
nearest_low x h = short 1 (negsuc 0) (λ y. 0 ≡ whole_by half_up y) refl refl (λ m e. refl) (λ m e l. none (m * up e) (down e) (down_pos e) l) x h
  where
    none : (n d : ℕ) → 0 < d → n * 2 < 1 * 1 * d → 0 ≡ min (half_up n d) (2 ^ 31)
    none n d D l = ap (λ q. min q (2 ^ 31)) (sym (below_half n d D (omega arith)))

pub by_fits : (size : ℕ → ℕ → ℕ) (x : Float) → whole_by size x ≤ 2 ^ 31
unfolding whole_by
by_fits size nan = lit≤ tt
by_fits size (inf true) = lit≤ tt
by_fits size (inf false) = lit≤ tt
by_fits size (fin true m e) = lit≤ tt
by_fits size (fin false m e) = most (size (m * up e) (down e))
  where
    most : (q : ℕ) → min q (2 ^ 31) ≤ 2 ^ 31
    most q = omega arith

-- ---- a byte of it
byte : (q : ℕ) → min (min q (2 ^ 31)) 255 ≡ min q 255
byte q = omega arith

pub byte_nearest : (x : Float) → min (whole_by half_up x) 255 ≡ round_byte x
unfolding whole_by round_byte
byte_nearest nan = refl
byte_nearest (inf true) = refl
byte_nearest (inf false) = refl
byte_nearest (fin true m e) = refl
byte_nearest (fin false m e) = byte (half_up (m * up e) (down e))

pub byte_cut : (x : Float) → min (whole_by whole_part x) 255 ≡ to_unsigned 8 x
unfolding whole_by to_unsigned
byte_cut nan = refl
byte_cut (inf true) = refl
byte_cut (inf false) = refl
byte_cut (fin true m e) = refl
byte_cut (fin false m e) = byte (whole_part (m * up e) (down e))

-- ---- with its sign
Signed : (ℕ → ℕ → ℕ) → Float → ℤ
Signed size nan = pos 0
Signed size (inf s) = cond s (neg_ℤ (pos (2 ^ 31))) (pos (2 ^ 31 - 1))
Signed size (fin s m e) = cond s (neg_ℤ (pos (min (size (m * up e) (down e)) (2 ^ 31)))) (pos (min (size (m * up e) (down e)) (2 ^ 31 - 1)))

-- from 0 downward
minus : (q : ℕ) → saturate_to_bits 31 (pos 0 -ℤ pos (min q (2 ^ 31))) ≡ neg_ℤ (pos (min q (2 ^ 31)))
minus q = go (min q (2 ^ 31)) (omega arith)
  where
    go : (n : ℕ) → n ≤ 2 ^ 31 → saturate_to_bits 31 (pos 0 -ℤ pos n) ≡ neg_ℤ (pos n)
    go zero h = refl
    go (suc n) h = rw (lt-ltb 0 (suc n) (zero-lt-suc n)) (ap negsuc (one_less n h))
      where
        one_less : (n : ℕ) → suc n ≤ 2 ^ 31 → min (suc n - 1) (2 ^ 31 - 1) ≡ n
        one_less n h = omega arith

module _ (size : ℕ → ℕ → ℕ) (none : (d : ℕ) → 0 < d → size 0 d ≡ 0) where
  below : (x : Float) → lt x (of_bits binary32 0) ≡ true → saturate_to_bits 31 (pos 0 -ℤ pos (whole_by size (neg x))) ≡ Signed size x
  unfolding neg whole_by Signed
  below x h = below_cases (λ y. saturate_to_bits 31 (pos 0 -ℤ pos (whole_by size (neg y))) ≡ Signed size y) refl (λ m e. minus (size (suc m * up e) (down e))) x (is_below x h)

  from : (x : Float) → lt x (of_bits binary32 0) ≡ false → saturate_to_bits 31 (pos 0 +ℤ pos (whole_by size x)) ≡ Signed size x
  unfolding lt of_bits whole_by Signed
  from nan h = refl
  from (inf true) h = absurd (true≢false h)
  from (inf false) h = refl
  from (fin true m e) h = rw (zero_of (m * up e) (down e) (ltb-false 0 (m * up e * 1 + 0 * 1 * down e) h), none (down e) (down_pos e)) refl
    where
      zero_of : (n d : ℕ) → n * 1 + 0 * 1 * d ≤ 0 → n ≡ 0
      zero_of n d l = omega arith
  from (fin false m e) h = ap pos (capped (size (m * up e) (down e)))
    where
      capped : (q : ℕ) → min (0 + min q (2 ^ 31)) (2 ^ 31 - 1) ≡ min q (2 ^ 31 - 1)
      capped q = omega arith

rounded : (x : Float) → Signed half_up x ≡ round_away x
unfolding Signed round_away
rounded nan = refl
rounded (inf s) = refl
rounded (fin s m e) = refl

whole_cut : (x : Float) → Signed whole_part x ≡ to_signed 31 x
unfolding Signed to_signed
whole_cut nan = refl
whole_cut (inf s) = refl
whole_cut (fin s m e) = refl

pub away_down : (x : Float) → lt x (of_bits binary32 0) ≡ true → saturate_to_bits 31 (pos 0 -ℤ pos (whole_by half_up (neg x))) ≡ round_away x
away_down x h = below half_up (λ d D. below_half 0 d D D) x h ∙ rounded x

pub away_up : (x : Float) → lt x (of_bits binary32 0) ≡ false → saturate_to_bits 31 (pos 0 +ℤ pos (whole_by half_up x)) ≡ round_away x
away_up x h = from half_up (λ d D. below_half 0 d D D) x h ∙ rounded x

pub cut_from_below : (x : Float) → lt x (of_bits binary32 0) ≡ true → saturate_to_bits 31 (pos 0 -ℤ pos (whole_by whole_part (neg x))) ≡ to_signed 31 x
cut_from_below x h = below whole_part (λ d D. div-eq_of_lt D) x h ∙ whole_cut x

pub cut_up : (x : Float) → lt x (of_bits binary32 0) ≡ false → saturate_to_bits 31 (pos 0 +ℤ pos (whole_by whole_part x)) ≡ to_signed 31 x
cut_up x h = from whole_part (λ d D. div-eq_of_lt D) x h ∙ whole_cut x
