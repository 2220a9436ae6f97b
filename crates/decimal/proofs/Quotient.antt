-- A quotient of two whole numbers that are floats is one division.
use mathlib.Core.Path.{◌≡◌, sym, ap, ◌∙◌}
use mathlib.Core.Bool.{Bool, false, cond}
use Prim.Native.Nat.{ℕ, ◌*◌, ◌^◌, ◌<◌}
use native.Mathlib.Nat.{mul-one, mul_assoc, mul_comm, mul_left_comm, mul-pos, lt_of_lt_of_le, pow-le-pow_right}
use native.Mathlib.Omega.{arith}
use lib.Dec.{T, lit<, lit≤, eqb, le→leb}
use borrow.Author.Tests.{ne_eqb}
use lib.IntN.{ℤ, pos}
use lib.Pow.{shl_lt}
use lib.Ieee.{Float, nan, inf, fin, binary32, up, down, unlike, round, div, of_int, in_float}
use lib.Ieee.Fits.{down_pos}
use lib.Ieee.Exact.{HasValue, round_exact}
use lib.Ieee.Positive.{first_pos}
use lib.Ieee.Scale.{round_same}
use Rattle.decimal.proofs.Law.{ten_pos}

div_fin : (s t : Bool) (m n : ℕ) (e d : ℤ) → ¬ (n ≡ 0) → div binary32 (fin s m e) (fin t n d) ≡ round binary32 (unlike s t) (m * up e * down d) (n * up d * down e)
unfolding div
div_fin s t m n e d h = ap (λ (b : Bool). cond b (cond (eqb m 0) nan (inf (unlike s t))) (round binary32 (unlike s t) (m * up e * down d) (n * up d * down e))) (ne_eqb n 0 h)

div_at : (x y : Float) (a b : ℕ) → HasValue x false a 1 → HasValue y false b 1 → 0 < b → div binary32 x y ≡ round binary32 false a b
div_at nan y a b h k p = absurd h
div_at (inf s) y a b h k p = absurd h
div_at (fin s m e) nan a b h k p = absurd k
div_at (fin s m e) (inf t) a b h k p = absurd k
div_at (fin s m e) (fin t n d) a b h k p =
    let u : m * up e ≡ a * down e = sym (mul-one (m * up e)) ∙ h.1 in
    let v : n * up d ≡ b * down d = sym (mul-one (n * up d)) ∙ k.1 in
    let z : 0 < n * up d = rw v (mul-pos p (down_pos d)) in
    let n0 : 0 < n = first_pos n (up d) z in
    let w : a * down e * down d * b ≡ a * (b * down d * down e) = simp (mul_assoc, mul_comm, mul_left_comm) in
    div_fin s t m n e d (λ q. omega arith)
    ∙ ap (λ (g : Bool). round binary32 (unlike g t) (m * up e * down d) (n * up d * down e)) h.0
    ∙ ap (λ (g : Bool). round binary32 (unlike false g) (m * up e * down d) (n * up d * down e)) k.0
    ∙ round_same binary32 false (m * up e * down d) (n * up d * down e) a b (mul-pos z (down_pos e)) p
    (ap (λ (x : ℕ). x * down d * b) u ∙ w ∙ ap (λ (x : ℕ). a * (x * down e)) (sym v))

whole_float : (n : ℕ) → n < 16777216 → HasValue (of_int binary32 (pos n)) false n 1
unfolding of_int
whole_float n h = round_exact binary32 false n 1 n 149 (lit< tt) h (lt_of_lt_of_le (shl_lt 24 149 h) (lit≤ tt)) (sym (mul-one (n * 2 ^ 149)))

pub quotient : (n p : ℕ) → n < 16777216 → p < 16777216 → 0 < p → div binary32 (of_int binary32 (pos n)) (of_int binary32 (pos p)) ≡ round binary32 false n p
quotient n p h k z = div_at (of_int binary32 (pos n)) (of_int binary32 (pos p)) n p (whole_float n h) (whole_float p k) z

-- ---- by a power of ten
small : (n : ℕ) → n < 8 → 10 ^ n < 16777216
small n h = omega (arith, pow-le-pow_right {n = 10} (lit< tt) {i = n} {j = 7} (omega arith))

pub ten_float : (n p : ℕ) → p ≡ 10 ^ n → n < 8 → T (in_float binary32 (pos p))
unfolding in_float
ten_float n p e h = le→leb p 16777216 (omega (arith, small n h))

pub by_ten : (m n p : ℕ) → p ≡ 10 ^ n → m < 16777216 → n < 8 → div binary32 (of_int binary32 (pos m)) (of_int binary32 (pos p)) ≡ round binary32 false m (10 ^ n)
by_ten m n p e g h = rw e (quotient m (10 ^ n) g (small n h) (ten_pos n))
