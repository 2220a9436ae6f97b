-- One turn of each loop, and its end.
use mathlib.Core.Path.{◌≡◌, refl, sym, ap, ◌∙◌, subst}
use Prim.Native.Nat.{ℕ, zero, suc, ◌+◌, ◌-◌, ◌*◌, ◌/◌, ◌%◌, ◌^◌, ◌≤◌, ◌<◌}
use native.Mathlib.Nat.{not-suc-le-zero, mul_assoc, pow-succ', one-le-pow, mul-div_cancel, mul-mod_left, div-add-mod', add-zero, one-mul, mod-eq_of_lt, lt_of_le_of_lt, lt_of_lt_of_le, le_of_eq}
use lib.Pow.{pow-lt, pow_pos}
use native.Mathlib.Omega.{arith}
use mathlib.Core.Bool.{Bool, true, false, cond, ◌&&◌, true≢false}
use lib.Dec.{T, lit≤, eqb, eqb→eq}
use lib.Ieee.{Float, nan, inf, fin, binary32, mul, eq, of_bits, fits, up, down}
use lib.Ieee.Fits.{and_l, and_r, down_pos}
use lib.Ieee.Back.{whole_unique}
use Rattle.float.specs.Float.{zero as +0, one}
use Rattle.root.specs.Root.{sqrt}
use Rattle.root.specs.Inner.{part}
use Rattle.power.specs.Power.{times, if_one, roots, power256, steps, power_up}

pub times_step : (i j : ℕ) (x p : Float) → i + 1 ≡ j → times i x (mul binary32 p x) ≡ times j x p
unfolding times
times_step i zero x p h = absurd (omega arith)
times_step i (suc j) x p h = let same : i ≡ j = omega arith in ap (λ (n : ℕ). times n x (mul binary32 p x)) same

-- y is the root of r, and q is p with it
pub roots_step : (d v : ℕ) (r p y q : Float) → 1 ≤ d → y ≡ sqrt binary32 r → q ≡ if_one (v / 2 ^ (d - 1) % 2) y p → roots (d - 1) v y q ≡ roots d v r p
unfolding roots
roots_step zero v r p y q h e f = absurd (not-suc-le-zero h)
roots_step (suc d) v r p y q h e f =
    ap (λ (z : Float). roots (suc d - 1) v y z) f ∙ ap (λ (n : ℕ). roots n v y (if_one (v / 2 ^ n % 2) y p)) (less d) ∙ ap (λ (z : Float). roots d v z (if_one (v / 2 ^ d % 2) z p)) e
  where
    less : (i : ℕ) → suc i - 1 ≡ i
    less i = omega arith

-- the same by digits: s are those of m's root
pub near_step : (d v m s : ℕ) (p y q : Float) → 1 ≤ d → part s ≡ sqrt binary32 (part m) → y ≡ part s → q ≡ if_one (v / 2 ^ (d - 1) % 2) y p → roots (d - 1) v (part s) q ≡ roots d v (part m) p
near_step d v m s p y q h e is f = roots_step d v (part m) p (part s) q h e (f ∙ ap (λ (z : Float). if_one (v / 2 ^ (d - 1) % 2) z p) is)

pub times_end : (i : ℕ) (x p : Float) → i ≤ 0 → times i x p ≡ p
unfolding times
times_end zero x p h = refl
times_end (suc i) x p h = absurd (not-suc-le-zero h)

pub if_some : (d : ℕ) (y p : Float) → d ≡ 1 → if_one d y p ≡ mul binary32 p y
unfolding if_one
if_some d y p e = ap (λ (n : ℕ). if_one n y p) e

pub if_zero : (d : ℕ) (y p : Float) → d ≡ 0 → if_one d y p ≡ p
unfolding if_one
if_zero d y p e = ap (λ (n : ℕ). if_one n y p) e

-- `1 << d`
pub one_shifted : (d : ℕ) → d ≤ 8 → 1 * 2 ^ d % 2 ^ 32 ≡ 2 ^ d
one_shifted d h = mod-eq_of_lt (lt_of_le_of_lt (le_of_eq (one-mul (2 ^ d))) (pow-lt {j = 32} (omega arith))) ∙ one-mul (2 ^ d)

pub shifted_pos : (d : ℕ) → d ≤ 8 → 0 < 1 * 2 ^ d % 2 ^ 32
shifted_pos d h = lt_of_lt_of_le (pow_pos d) (le_of_eq (sym (one_shifted d h)))

-- where a digit is left there are some
pub some_digits : (d v : ℕ) → 0 < v % (1 * 2 ^ d % 2 ^ 32) → 1 ≤ d
some_digits zero v h = omega arith
some_digits (suc d) v h = omega arith

-- digits that are all 0 leave p as it is
no-roots : (d w v : ℕ) (r p : Float) → v ≡ w * 2 ^ d → roots d v r p ≡ p
unfolding roots
no-roots zero w v r p e = refl
no-roots (suc d) w v r p e =
    let y = sqrt binary32 r in
    let f : v ≡ w * 2 * 2 ^ d = e ∙ ap (λ (n : ℕ). w * n) (pow-succ' 2 d) ∙ sym (mul_assoc w 2 (2 ^ d)) in
    let digit : v / 2 ^ d % 2 ≡ 0 = ap (λ (n : ℕ). n / 2 ^ d % 2) f ∙ ap (λ (n : ℕ). n % 2) (mul-div_cancel (w * 2) (one-le-pow d 2 (lit≤ tt))) ∙ mul-mod_left w 2 in
    ap (λ (q : Float). roots d v y q) (if_zero (v / 2 ^ d % 2) y p digit) ∙ no-roots d (w * 2) v y p f

pub roots_end : (d v : ℕ) (r p : Float) → d ≤ 8 → v % (1 * 2 ^ d % 2 ^ 32) ≤ 0 → roots d v r p ≡ p
roots_end d v r p small h = no-roots d (v / 2 ^ d) v r p (sym (div-add-mod' v (2 ^ d)) ∙ ap (λ (n : ℕ). v / 2 ^ d * 2 ^ d + n) none ∙ add-zero (v / 2 ^ d * 2 ^ d))
  where
    zero_of : (n : ℕ) → n ≤ 0 → n ≡ 0
    zero_of n h = omega arith

    none : v % 2 ^ d ≡ 0
    none = ap (λ (n : ℕ). v % n) (sym (one_shifted d small)) ∙ zero_of (v % (1 * 2 ^ d % 2 ^ 32)) h

pub a_one : of_bits binary32 1065353216 ≡ one
unfolding of_bits
a_one = refl

-- ---- of 1 every power is 1
one-times : (n : ℕ) → times n one one ≡ one
unfolding times mul
one-times zero = refl
one-times (suc n) = one-times n

one-root : sqrt binary32 one ≡ one
unfolding sqrt
one-root = refl

if_one-one : (d : ℕ) → if_one d one one ≡ one
unfolding if_one mul
if_one-one zero = refl
if_one-one (suc d) = refl

one-roots : (d v : ℕ) → roots d v one one ≡ one
unfolding roots
one-roots zero v = refl
one-roots (suc d) v =
    ap (λ (y : Float). roots d v y (if_one (v / 2 ^ d % 2) y one)) one-root ∙ ap (λ (p : Float). roots d v one p) (if_one-one (v / 2 ^ d % 2)) ∙ one-roots d v

pub one_power : (v : ℕ) → power256 one v ≡ one
unfolding power256
one_power v = ap (λ (p : Float). roots 8 v one p) (one-times (v / 256)) ∙ one-roots 8 v

-- what equals 1 is 1
pub is_one : (x : Float) → T (fits binary32 x) → eq x one ≡ true → x ≡ one
unfolding eq fits
is_one nan f e = absurd (true≢false (sym e))
is_one (inf s) f e = absurd (true≢false (sym e))
is_one (fin true m k) f e =
    let a = m * up k * 1 in
    let b = 1 * down k in
    let t : T (eqb a b && eqb a 0) = subst T (sym e) tt in
    absurd (no a (down k) (down_pos k) (eqb→eq a b (and_l (eqb a b) (eqb a 0) t)) (eqb→eq a 0 (and_r (eqb a b) (eqb a 0) t)))
  where
    no : (a n : ℕ) → 0 < n → a ≡ 1 * n → a ≡ 0 → ⊥
    no a n h i j = omega arith
is_one (fin false m k) f e =
    let a = m * up k * 1 in
    let b = 1 * down k in
    whole_unique binary32 (fin false m k) one false 1 f tt (refl, eqb→eq a b (and_l (eqb a b) true (subst T (sym e) tt))) (refl, refl)

pub of_one : (x a : Float) → fits binary32 x ≡ true → eq x (of_bits binary32 0) ≡ false → eq x (of_bits binary32 1065353216) ≡ true → of_bits binary32 1065353216 ≡ power_up x a
unfolding power_up of_bits
of_one x a f z e =
    sym
    (ap (λ (t : Bool). cond t +0 (power256 x (steps a))) z
    ∙ ap (λ (y : Float). power256 y (steps a)) (is_one x (subst T (sym f) tt) e)
    ∙ one_power (steps a))
