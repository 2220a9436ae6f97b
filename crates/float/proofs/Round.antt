-- A float rounded to a whole number, and that number cast: nothing is lost on the way.
use Rattle.std.proofs.Common.{◌≡◌, ℕ, zero, suc, ◌+◌, ◌-◌, ◌*◌, ◌/◌, ◌^◌, ◌<◌, min, Bool, true, false, cond, T, ℤ, pos, negsuc, neg_ℤ, sym, refl, ap, ◌∙◌, subst, le_of_eq, lt_of_lt_of_le, lt_of_le_of_lt, mul_assoc, mul-one, zero-mul, div-lt_iff_lt-mul, mul-div_cancel, arith, lit<, lit≤, pow_pos, pow-add, shl_lt}
use lib.Ieee.{Float, nan, inf, fin, binary32, up, down, fits, round, to_signed, to_unsigned}
use lib.Ieee.Fits.{down_pos}
use lib.Ieee.Exact.{HasValue, round_exact}
use Rattle.std.specs.Float.{float_round, round_with}
use Rattle.float.proofs.Units.{parts}
use Rattle.float.specs.Float.{round_size, round_away, round_byte}

-- what a cast makes of a whole number
abbrev Signed : Bool → ℕ → ℤ
Signed s q = cond s (neg_ℤ (pos (min q (2 ^ 31)))) (pos (min q (2 ^ 31 - 1)))

cut : (v : Float) (s : Bool) (q : ℕ) → HasValue v s q 1 → (to_signed 31 v ≡ Signed s q) × (to_unsigned 8 v ≡ cond s 0 (min q 255))
unfolding to_signed to_unsigned
cut nan s q h = absurd h
cut (inf t) s q h = absurd h
cut (fin t m e) s q h =
    let size : m * up e / down e ≡ q = ap (λ n. n / down e) (sym (mul-one (m * up e)) ∙ h.1) ∙ mul-div_cancel q (down_pos e) in
    (ap (λ n. Signed t n) size ∙ ap (λ b. Signed b q) h.0, ap (λ n. cond t 0 (min n 255)) size ∙ ap (λ b. cond b 0 (min q 255)) h.0)

-- an f32 has 24 digits and an end
pub few : (s : Bool) (m : ℕ) (e : ℤ) → T (fits binary32 (fin s m e)) → (m < 2 ^ 24) × (m * up e < 2 ^ 128 * down e)
few s zero e f = (lit< tt, omega (arith, zero-mul (up e), down_pos e))
few s (suc m) e f = let p = parts s m e f in (p.0, p.2)

-- the whole number that is nearest to it is an f32 too
exact : (s : Bool) (m : ℕ) (e : ℤ) → T (fits binary32 (fin s m e)) → let q = round_size (fin s m e) in HasValue (round binary32 s q 1) s q 1
exact s m (pos k) f =
    let w = few s m (pos k) f in
    let q : round_size (fin s m (pos k)) ≡ m * 2 ^ k = half (m * 2 ^ k) in
    let n : m * 2 ^ k * 2 ^ 149 ≡ m * 2 ^ (k + 149) = mul_assoc m (2 ^ k) (2 ^ 149) ∙ ap (λ x. m * x) (sym (pow-add 2 k 149)) in
    rw q (round_exact binary32 s (m * 2 ^ k) 1 m (k + 149) (lit< tt) w.0
    (lt_of_le_of_lt (le_of_eq (sym n)) (shl_lt 128 149 (omega (arith, w.1))))
    (n ∙ sym (mul-one (m * 2 ^ (k + 149)))))
  where
    half : (n : ℕ) → (2 * n + 1) / (2 * 1) ≡ n
    half n = omega arith
exact s m (negsuc a) f =
    let q = round_size (fin s m (negsuc a)) in
    let small : q < 2 ^ 24 = below q m ((div-lt_iff_lt-mul (twice (2 ^ suc a) (pow_pos (suc a)))).1 (more m (2 ^ suc a) (pow_pos (suc a)))) (few s m (negsuc a) f).0 in
    round_exact binary32 s q 1 q 149 (lit< tt) small (lt_of_lt_of_le (shl_lt 24 149 small) (lit≤ tt)) (sym (mul-one (q * 2 ^ 149)))
  where
    twice : (d : ℕ) → 0 < d → 0 < 2 * d
    twice d h = omega arith

    more : (m d : ℕ) → 0 < d → 2 * (m * 1) + d < (m + 1) * (2 * d)
    more m zero h = elim h [ ]
    more m (suc d) h = omega arith

    below : (q m : ℕ) → q < m + 1 → m < 2 ^ 24 → q < 2 ^ 24
    below q m h k = omega arith

rounded : (x : Float) → T (fits binary32 x) → (to_signed 31 (float_round binary32 x) ≡ round_away x) × (to_unsigned 8 (float_round binary32 x) ≡ round_byte x)
unfolding round_with to_signed to_unsigned round_away round_byte
rounded nan f = (refl, refl)
rounded (inf s) f = (refl, refl)
rounded (fin false m e) f = cut _ false (round_size (fin false m e)) (exact false m e f)
rounded (fin true m e) f = cut _ true (round_size (fin true m e)) (exact true m e f)

pub round_away_is : (x r : Float) → fits binary32 x ≡ true → r ≡ float_round binary32 x → to_signed 31 r ≡ round_away x
round_away_is x r f e = rw e (rounded x (subst T (sym f) tt)).0

pub round_byte_is : (x r : Float) → fits binary32 x ≡ true → r ≡ float_round binary32 x → to_unsigned 8 r ≡ round_byte x
round_byte_is x r f e = rw e (rounded x (subst T (sym f) tt)).1
