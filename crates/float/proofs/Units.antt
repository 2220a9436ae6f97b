-- An f32's size in units of the smallest f32, 2 ^ -149: a whole number of them, with few digits.
use Rattle.std.proofs.Common.{◌≡◌, ℕ, zero, suc, ◌+◌, ◌-◌, ◌*◌, ◌%◌, ◌^◌, ◌<◌, ◌≤◌, Bool, true, false, ◌&&◌, T, eqb, ltb, leb, ℤ, pos, negsuc, sym, refl, ap, ◌∙◌, subst, lt_of_le_of_lt, mul_assoc, zero-mul, mul-one, arith, lit<, ltb→lt, leb→le, pow_pos, pow-add}
use native.Mathlib.Nat.{eq_of_mul-eq-mul_right}
use lib.Ieee.{Float, nan, inf, fin, binary32, up, down, fits}
use lib.Ieee.Fits.{and_l, and_r, down_pos}
use lib.Ieee.Exact.{HasValue}
use lib.Ieee.Positive.{positive, value_pos}
use Rattle.decimal.proofs.Law.{pow-back}

-- m * 2 ^ j units, with m below 2 ^ 24: an f32 has no other sizes
abbrev pub Grid : ℕ → Type 0
Grid b = (m : ℕ) × (j : ℕ) × (m < 2 ^ 24) × (b ≡ m * 2 ^ j)

-- `fits` of a value that is not 0, taken apart
pub parts : (s : Bool) (m : ℕ) (e : ℤ) → T (fits binary32 (fin s (suc m) e)) → (suc m < 2 ^ 24) × (down e ≤ 2 ^ 149) × (suc m * up e < 2 ^ 128 * down e)
unfolding fits
parts s m e f =
    let odd = eqb (suc m % 2) 1 in
    let few = ltb (suc m) (2 ^ 24) in
    let fine = leb (down e) (2 ^ 149) in
    let ends = ltb (suc m * up e) (2 ^ 128 * down e) in
    let h = and_l (odd && few && fine) ends f in (
      ltb→lt (suc m) (2 ^ 24) (and_r odd few (and_l (odd && few) fine h)),
      leb→le (down e) (2 ^ 149) (and_r (odd && few) fine h),
      ltb→lt (suc m * up e) (2 ^ 128 * down e) (and_r (odd && few && fine) ends f),
    )

abbrev InUnits : Bool → Float → Type 0
InUnits s x = (b : ℕ) × HasValue x s b (2 ^ 149) × Grid b

pub own_units : (s : Bool) (m : ℕ) (e : ℤ) → T (fits binary32 (fin s m e)) → InUnits s (fin s m e)
unfolding fits
own_units s zero e f = (0, (refl, ap (λ (x : ℕ). x * 2 ^ 149) (zero-mul (up e)) ∙ zero-mul (2 ^ 149) ∙ sym (zero-mul (down e))), (0, 0, pow_pos 24, refl))
own_units s (suc m) (pos a) f = (
  suc m * 2 ^ (a + 149),
  (refl, mul_assoc (suc m) (2 ^ a) (2 ^ 149) ∙ ap (λ (x : ℕ). suc m * x) (sym (pow-add 2 a 149)) ∙ sym (mul-one (suc m * 2 ^ (a + 149)))),
  (suc m, a + 149, (parts s m (pos a) f).0, refl),
)
own_units s (suc m) (negsuc a) f = (
  suc m * 2 ^ (149 - suc a),
  (
    refl,
    ap (λ (x : ℕ). x * 2 ^ 149) (mul-one (suc m))
        ∙ ap (λ (x : ℕ). suc m * x) (ap (λ (x : ℕ). 2 ^ x) (split (suc a) low) ∙ pow-add 2 (149 - suc a) (suc a))
        ∙ sym (mul_assoc (suc m) (2 ^ (149 - suc a)) (2 ^ suc a)),
  ),
  (suc m, 149 - suc a, (parts s m (negsuc a) f).0, refl),
)
  where
    low : suc a ≤ 149
    low = below (suc a) (pow-back (suc a) 150 (lt_of_le_of_lt (parts s m (negsuc a) f).1 (lit< tt)))
      where
        below : (n : ℕ) → n < 150 → n ≤ 149
        below n h = omega arith

    split : (n : ℕ) → n ≤ 149 → 149 ≡ 149 - n + n
    split n h = omega arith

-- whatever the size is known to be
pub on_grid : (x : Float) (s : Bool) (b : ℕ) → T (fits binary32 x) → HasValue x s b (2 ^ 149) → Grid b
on_grid nan s b f h = absurd h
on_grid (inf t) s b f h = absurd h
on_grid (fin t m e) s b f h = let o = own_units t m e f in subst Grid (eq_of_mul-eq-mul_right (down e) (down_pos e) o.0 b (sym o.1.1 ∙ h.1)) o.2

-- above zero
pub in_units : (x : Float) → T (fits binary32 x) → T (positive x) → (b : ℕ) × HasValue x false b (2 ^ 149) × Grid b × (0 < b)
in_units nan f p = absurd p
in_units (inf s) f p = absurd p
in_units (fin true m e) f p = absurd p
in_units (fin false m e) f p = let o = own_units false m e f in (o.0, o.1, o.2, value_pos (fin false m e) o.0 (2 ^ 149) p (pow_pos 149) o.1)
