-- At its first millisecond a stage of \fade gives the alpha that it starts from.
use mathlib.Core.Path.{◌≡◌, refl, sym, ap, ◌∙◌, subst}
use mathlib.Core.Bool.{Bool, true, false, cond, true≢false}
use Prim.Native.Nat.{ℕ, zero, suc, ◌+◌, ◌-◌, ◌*◌, ◌^◌, ◌≤◌, ◌<◌}
use native.Mathlib.Nat.{le_trans, lt_of_le_of_lt, sub-le, sub-zero, add-zero, mul-one, mul-zero, zero-mul, mul_assoc, mul_comm, mul-pos, mul-sub, zero-lt-suc}
use native.Mathlib.Omega.{arith}
use lib.Dec.{T, ltb, ltb→lt, le→leb, lt→ltb, lit≤, lit<}
use lib.IntN.{ℤ, pos, negsuc, ◌-ℤ◌, sub_ℕ, +ℤ_invr}
use lib.Signed.{lt_z, ◌<ℤ◌}
use lib.Ieee.{Float, nan, inf, fin, binary32, up, down, round, add, sub, neg, mul, div, of_int, to_unsigned, in_float}
use lib.Ieee.Exact.{HasValue}
use lib.Ieee.Fits.{down_pos, up_pos}
use lib.Ieee.Scale.{round_same, finite}
use lib.Ieee.Order.{round_mono}
use lib.Ieee.Positive.{above, above_of_le}
use lib.Ieee.Back.{round_whole, unsigned_back}
use borrow.Author.Tests.{ne_eqb, le-ltb}
use Rattle.float.specs.Float.{lerp}
use Rattle.state.specs.Mix.{quotient, of_nat, lerp_bytes, cut_between}

-- ---- 0 of any number of milliseconds above 0 is 0

abbrev nought : Bool → Float
nought s = fin s 0 (pos 0)

nought_of_one : (s : Bool) → round binary32 s 0 1 ≡ nought s
unfolding round
nought_of_one true = refl
nought_of_one false = refl

nought_of : (s : Bool) (n d : ℕ) → n ≡ 0 → 0 < d → round binary32 s n d ≡ nought s
nought_of s n d e h = round_same binary32 s n d 0 1 h (zero-lt-suc 0) (omega arith) ∙ nought_of_one s

one-above : T (above (round binary32 false 1 1))
unfolding round
one-above = tt

above-int : (n : ℕ) → T (above (of_int binary32 (pos (suc n))))
unfolding of_int
above-int n = above_of_le (round binary32 false 1 1) (round binary32 false (suc n) 1) one-above (round_mono binary32 1 1 (suc n) 1 (zero-lt-suc 0) (zero-lt-suc 0) (omega arith))

over-above : (y : Float) → T (above y) → div binary32 (nought false) y ≡ nought false
unfolding div
over-above nan h = absurd h
over-above (inf true) h = absurd h
over-above (inf false) h = refl
over-above (fin true m e) h = absurd h
over-above (fin false m e) h =
    let p : 0 < m = ltb→lt 0 m h in
    rw (ne_eqb m 0 (λ z. omega arith)) (nought_of false (0 * down e) (m * up e * 1) (zero-mul (down e)) (mul-pos (mul-pos p (up_pos e)) (zero-lt-suc 0)))

none-int : of_int binary32 (pos 0) ≡ nought false
unfolding of_int
none-int = nought_of false 0 1 refl (zero-lt-suc 0)

quotient-none : (z : ℤ) → pos 0 <ℤ z → quotient (pos 0) z ≡ nought false
unfolding quotient
quotient-none (pos zero) h = absurd h.lt
quotient-none (pos (suc n)) h = ap (λ (x : Float). div binary32 x (of_int binary32 (pos (suc n)))) none-int ∙ over-above (of_int binary32 (pos (suc n))) (above-int n)
quotient-none (negsuc n) h = absurd h.lt

-- the milliseconds from x to a later y
above-sub : (a b : ℕ) → b < a → T (lt_z (pos 0) (sub_ℕ a b))
above-sub a b h = rw (le-ltb a b (omega arith)) (lt→ltb 0 (a - b) (omega arith))

gap : (x y : ℤ) → T (lt_z x y) → T (lt_z (pos 0) (y -ℤ x))
gap (pos zero) (pos b) h = let k = ltb→lt 0 b h in lt→ltb 0 (b + 0) (omega arith)
gap (pos (suc a)) (pos b) h = above-sub b (suc a) (ltb→lt (suc a) b h)
gap (pos a) (negsuc b) h = absurd h
gap (negsuc a) (pos b) h = lt→ltb 0 (b + suc a) (omega arith)
gap (negsuc a) (negsuc b) h = let k = ltb→lt b a h in above-sub (suc a) (suc b) (omega arith)

-- ---- nothing of the way from one byte to another

-- x is the whole number n
abbrev Is : Float → ℕ → Type 0
Is x n = HasValue x false n 1

byte-is : (n : ℕ) → n ≤ 255 → Is (of_nat n) n
unfolding of_int
byte-is n h = round_whole binary32 false n (le_trans h (lit≤ tt))

valued_finite : (x : Float) (s : Bool) (n : ℕ) → HasValue x s n 1 → T (finite x)
valued_finite nan s n h = h
valued_finite (inf t) s n h = h
valued_finite (fin t m e) s n h = tt

whole-finite : (s : Bool) (n : ℕ) → n ≤ 255 → T (finite (round binary32 s n 1))
whole-finite s n h = valued_finite (round binary32 s n 1) s n (round_whole binary32 s n (le_trans h (lit≤ tt)))

-- a difference over a common divisor
less : (s : Bool) (a b p q c : ℕ) → p ≡ a * c → q ≡ b * c → 0 < c → a ≤ 255 → T (finite (round binary32 s (p - q) c))
less s a b p q c e f C h =
    let g : (p - q) * 1 ≡ (a - b) * c = mul-one (p - q) ∙ rw (e, f, mul_comm a c, mul_comm b c, mul_comm (a - b) c, mul-sub c a b) in
    subst (λ (x : Float). T (finite x)) (sym (round_same binary32 s (p - q) c (a - b) 1 C (zero-lt-suc 0) g)) (whole-finite s (a - b) (le_trans (sub-le a b) h))

either-finite : (b : Bool) (x y : Float) → T (finite x) → T (finite y) → T (finite (cond b x y))
either-finite true x y p q = p
either-finite false x y p q = q

cross : (v d e n : ℕ) → v * 1 ≡ n * d → v * e ≡ n * (d * e)
cross v d e n h = ap (λ (z : ℕ). z * e) (sym (mul-one v) ∙ h) ∙ mul_assoc n d e

sub-finite : (x y : Float) (a b : ℕ) → Is x a → Is y b → a ≤ 255 → b ≤ 255 → T (finite (sub binary32 x y))
unfolding sub add neg
sub-finite nan y a b p q h k = elim p [ ]
sub-finite (inf _) y a b p q h k = elim p [ ]
sub-finite (fin true m e) y a b p q h k = absurd (true≢false p.0)
sub-finite (fin false m e) nan a b p q h k = elim q [ ]
sub-finite (fin false m e) (inf _) a b p q h k = elim q [ ]
sub-finite (fin false m e) (fin true n d) a b p q h k = absurd (true≢false q.0)
sub-finite (fin false m e) (fin false n d) a b p q h k =
    let c = down e * down d in
    let C : 0 < c = mul-pos (down_pos e) (down_pos d) in
    let P : m * up e * down d ≡ a * c = cross (m * up e) (down e) (down d) a p.1 in
    let Q : n * up d * down e ≡ b * c = cross (n * up d) (down d) (down e) b q.1 ∙ ap (λ (z : ℕ). b * z) (mul_comm (down d) (down e)) in
    either-finite (ltb (m * up e * down d) (n * up d * down e)) _ _
    (less true b a (n * up d * down e) (m * up e * down d) c Q P C k)
    (less false a b (m * up e * down d) (n * up d * down e) c P Q C h)

-- 0 times what is finite is 0, of one sign or the other
data Nought : Float → Type 0 where
  is : (s : Bool) → Nought (nought s)

none_of_it : (x : Float) → T (finite x) → Nought (mul binary32 x (nought false))
unfolding mul
none_of_it nan h = absurd h
none_of_it (inf s) h = absurd h
none_of_it (fin s m e) h = rw (nought_of _ (m * up e * 0) (down e * 1) (mul-zero (m * up e)) (mul-pos (down_pos e) (zero-lt-suc 0))) (is _)

whole_again : (m : ℕ) (e : ℤ) (a : ℕ) → Is (fin false m e) a → (n : ℕ) → n ≡ m * up e * 1 → round binary32 false n (down e * 1) ≡ round binary32 false a 1
whole_again m e a h n q =
    round_same binary32 false n (down e * 1) a 1 (mul-pos (down_pos e) (zero-lt-suc 0)) (zero-lt-suc 0) (mul-one n ∙ q ∙ h.1 ∙ ap (λ (z : ℕ). a * z) (sym (mul-one (down e))))

-- and adds nothing to a whole number
adds_none : (x y : Float) (a : ℕ) → Is x a → Nought y → add binary32 x y ≡ of_nat a
unfolding add of_int
adds_none nan y a h z = elim h [ ]
adds_none (inf _) y a h z = elim h [ ]
adds_none (fin true m e) y a h z = absurd (true≢false h.0)
adds_none (fin false m e) y a h (is true) =
    rw (zero-mul (down e), le-ltb (m * up e * 1) 0 (omega arith)) (whole_again m e a h (m * up e * 1 - 0) (sub-zero (m * up e * 1)))
adds_none (fin false m e) y a h (is false) = rw (zero-mul (down e)) (whole_again m e a h (m * up e * 1 + 0) (add-zero (m * up e * 1)))

module _ (a b : ℕ) (A : a ≤ 255) (B : b ≤ 255) where
  lerp-none : lerp_bytes a b (nought false) ≡ of_nat a
  unfolding lerp_bytes lerp
  lerp-none = adds_none (of_nat a) (mul binary32 (sub binary32 (of_nat b) (of_nat a)) (nought false)) a (byte-is a A) (none_of_it (sub binary32 (of_nat b) (of_nat a)) (sub-finite (of_nat b) (of_nat a) b a (byte-is b B) (byte-is a A) B A))

  byte-back : to_unsigned 8 (of_nat a) ≡ a
  unfolding in_float
  byte-back = (unsigned_back binary32 8 a (le→leb a (2 ^ 24) (le_trans A (lit≤ tt))) (lt_of_le_of_lt A (lit< tt))).1

  cut-none : cut_between a b (nought false) ≡ a
  unfolding cut_between
  cut-none = ap (to_unsigned 8) lerp-none ∙ byte-back

  pub stage-start : (x y : ℤ) → x <ℤ y → cut_between a b (quotient (x -ℤ x) (y -ℤ x)) ≡ a
  stage-start x y h = rw (+ℤ_invr x, quotient-none (y -ℤ x) (record { lt = gap x y h.lt })) cut-none
