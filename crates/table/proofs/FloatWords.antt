-- Which words are those of floats in range: without the sign, at most the bits of 1,000,000,000.
use mathlib.Core.Path.{◌≡◌, refl, sym, ap, ◌∙◌}
use mathlib.Core.Bool.{Bool, true, false, cond, ◌&&◌, ◌||◌}
use mathlib.Core.Logic.{⊎_elim}
use Prim.Native.Nat.{ℕ, zero, suc, ◌+◌, ◌*◌, ◌/◌, ◌%◌, ◌^◌, ◌≤◌, ◌<◌}
use native.Mathlib.Nat.{le_trans, eq-or-lt_of_le, mul-one, mul-pos, mul-le-mul_right, le_of_mul-le-mul_right}
use native.Mathlib.Omega.{arith}
use lib.IntN.{ℤ}
use lib.Dec.{lit<, leb, ltb, eqb}
use lib.Pow.{pow_pos, pow_mono}
use lib.Ieee.{Float, nan, inf, fin, binary32, up, down, neg, le, odd, of_fields, of_bits}
use lib.Ieee.Fits.{down_pos}
use lib.Ieee.Exact.{HasValue, odd_sign}
use lib.Ieee.Order.{transfer}
use borrow.Author.Tests.{lt-ltb, le-ltb, le-leb, lt-leb, eq-eqb, ne_eqb, eqb-true}
use Rattle.scan.proofs.Laws.{le_or_lt}
use Rattle.float.specs.Float.{in_reach_lem}

-- ---- by the size of a float

same-leb : (a b c d : ℕ) → (a ≤ b → c ≤ d) → (c ≤ d → a ≤ b) → leb a b ≡ leb c d
same-leb a b c d f g =
    ⊎_elim
    (λ h. le-leb a b h ∙ sym (le-leb c d (f h)))
    (λ h. lt-leb a b h ∙ sym (lt-leb c d (⊎_elim (λ k. absurd (clash a b h (g k))) (λ k. k) (le_or_lt c d))))
    (le_or_lt a b)
  where
    clash : (a b : ℕ) → b < a → a ≤ b → ⊥
    clash a b h k = omega arith

-- less or equal, as `le` has it
or_leb : (a b : ℕ) (t : Bool) → (a ≡ b → t ≡ true) → (b < a → t ≡ false) → (ltb a b || (t && true)) ≡ leb a b
or_leb a b t f g = ⊎_elim (λ h. ⊎_elim (λ e. rw (le-ltb a b (omega arith), f e, le-leb a b h)) (λ l. rw (lt-ltb a b l, le-leb a b h)) (eq-or-lt_of_le h)) (λ h. rw (le-ltb a b (omega arith), g h, lt-leb a b h)) (le_or_lt a b)

and_true : (t : Bool) → (t && true) ≡ t
and_true true = refl
and_true false = refl

fin_reach : (s : Bool) (m : ℕ) (e : ℤ) → in_reach_lem (fin s m e) ≡ leb (m * up e) (1000000000 * down e)
unfolding in_reach_lem le neg
fin_reach s m e = go s ∙ ap (λ (x : ℕ). leb x (1000000000 * down e)) (mul-one (m * up e))
  where
    big : 0 < 1000000000 * down e
    big = mul-pos (lit< tt) (down_pos e)

    go : (s : Bool) → in_reach_lem (fin s m e) ≡ leb (m * up e * 1) (1000000000 * down e)
    go false =
        let a = 1000000000 * down e in
        let b = m * up e * 1 in
        ap (λ (t : Bool). (t || (eqb a b && (false || eqb a 0))) && (ltb b a || (eqb b a && true))) (lt-ltb 0 (a + b) (omega (arith, big)))
        ∙ or_leb b a (eqb b a) (λ h. eq-eqb b a h) (λ h. ne_eqb b a (λ k. omega arith))
    go true =
        let a = 1000000000 * down e in
        let b = m * up e * 1 in
        ap (λ (t : Bool). (ltb b a || (eqb a b && true)) && (t || (eqb b a && (false || eqb b 0)))) (lt-ltb 0 (b + a) (omega (arith, big)))
        ∙ and_true (ltb b a || (eqb a b && true))
        ∙ or_leb b a (eqb a b) (λ h. eq-eqb a b (sym h)) (λ h. ne_eqb a b (λ k. omega arith))

value-reach : (v : Float) (s : Bool) (a c : ℕ) → 0 < c → HasValue v s a c → in_reach_lem v ≡ leb a (1000000000 * c)
value-reach nan s a c C h = absurd h
value-reach (inf t) s a c C h = absurd h
value-reach (fin t m e) s a c C h =
    fin_reach t m e
    ∙ same-leb (m * up e) (1000000000 * down e) a (1000000000 * c)
    (λ k. less a (1000000000 * c) (transfer a 1000000000 c 1 (m * up e) 1000000000 (down e) 1 (down_pos e) (lit< tt) (sym h.1) refl (more (m * up e) (1000000000 * down e) k)))
    (λ k. less (m * up e) (1000000000 * down e) (transfer (m * up e) 1000000000 (down e) 1 a 1000000000 c 1 C (lit< tt) h.1 refl (more a (1000000000 * c) k)))
  where
    less : (x y : ℕ) → x * 1 ≤ y → x ≤ y
    less x y k = omega arith

    more : (x y : ℕ) → x ≤ y → x * 1 ≤ y
    more x y k = omega arith

-- ---- by the exponent's field and the digits

-- against k of the smallest values, for 1 (`omega` takes no number as large as 2 ^ 149)
tiny : (t k : ℕ) → t < 2 ^ 23 → 0 < k → t * 1 ≤ 1000000000 * k
tiny t k h g = omega arith

small : (y k : ℕ) → y ≤ 2 ^ 5 * k → 2 ^ 24 * y ≤ 1000000000 * k
small y k h = omega arith

large : (y z k : ℕ) → 0 < k → 2 ^ 7 * k ≤ y → 2 ^ 23 * y ≤ z → 1000000000 * k < z
large y z k g h l = omega arith

cancel : (a b c : ℕ) → 0 < c → a * c ≤ b * c → a ≤ b
cancel a b c g h = le_of_mul-le-mul_right h g

-- 1,000,000,000 is 15,625,000 * 2 ^ 6: the field is 156
size-reach : (x t : ℕ) → t < 2 ^ 23 → leb ((2 ^ 23 + t) * 2 ^ x) (1000000000 * 2 ^ 149) ≡ leb (suc x * 2 ^ 23 + t) 1315859240
size-reach x t h = ⊎_elim (λ k. ⊎_elim level under (eq-or-lt_of_le k)) over (le_or_lt x 155)
  where
    less : 2 ^ 23 + t ≤ 2 ^ 24
    less = omega arith

    more : 2 ^ 23 ≤ 2 ^ 23 + t
    more = omega arith

    under : x < 155 → leb ((2 ^ 23 + t) * 2 ^ x) (1000000000 * 2 ^ 149) ≡ leb (suc x * 2 ^ 23 + t) 1315859240
    under l =
        le-leb _ _ (le_trans (mul-le-mul_right (2 ^ x) less) (small (2 ^ x) (2 ^ 149) (pow_mono {i = x} {j = 154} (omega arith))))
        ∙ sym (le-leb (suc x * 2 ^ 23 + t) 1315859240 (omega arith))

    over : 155 < x → leb ((2 ^ 23 + t) * 2 ^ x) (1000000000 * 2 ^ 149) ≡ leb (suc x * 2 ^ 23 + t) 1315859240
    over l =
        lt-leb _ _ (large (2 ^ x) ((2 ^ 23 + t) * 2 ^ x) (2 ^ 149) (pow_pos 149) (pow_mono {i = 156} {j = x} l) (mul-le-mul_right (2 ^ x) more))
        ∙ sym (lt-leb (suc x * 2 ^ 23 + t) 1315859240 (omega arith))

    down_to : x ≡ 155 → 2 ^ 23 + t ≤ 15625000 → suc x * 2 ^ 23 + t ≤ 1315859240
    down_to e k = omega arith

    up_to : x ≡ 155 → suc x * 2 ^ 23 + t ≤ 1315859240 → 2 ^ 23 + t ≤ 15625000
    up_to e k = omega arith

    level : x ≡ 155 → leb ((2 ^ 23 + t) * 2 ^ x) (1000000000 * 2 ^ 149) ≡ leb (suc x * 2 ^ 23 + t) 1315859240
    level e =
        ap (λ (y : ℕ). leb ((2 ^ 23 + t) * 2 ^ y) (1000000000 * 2 ^ 149)) e
        ∙ same-leb ((2 ^ 23 + t) * 2 ^ 155) (15625000 * 2 ^ 155) (suc x * 2 ^ 23 + t) 1315859240
        (λ k. down_to e (cancel (2 ^ 23 + t) 15625000 (2 ^ 155) (pow_pos 155) k))
        (λ k. mul-le-mul_right (2 ^ 155) (up_to e k))

endless : (s b : Bool) → in_reach_lem (cond b (inf s) nan) ≡ false
unfolding in_reach_lem le neg
endless true true = refl
endless false true = refl
endless s false = refl

fields_reach : (s : Bool) (x t : ℕ) → t < 2 ^ 23 → in_reach_lem (of_fields binary32 s x t) ≡ leb (x * 2 ^ 23 + t) 1315859240
unfolding of_fields
fields_reach s zero t h =
    value-reach (odd 24 s t 0 149) s (t * 2 ^ 0) (2 ^ 149) (pow_pos 149) (odd_sign 24 s t 0 149)
    ∙ le-leb (t * 2 ^ 0) (1000000000 * 2 ^ 149) (tiny t (2 ^ 149) h (pow_pos 149))
    ∙ sym (le-leb (0 * 2 ^ 23 + t) 1315859240 (omega arith))
fields_reach s (suc x) t h = go (eqb (suc x) 255) (eqb-true (suc x) 255)
  where
    go : (b : Bool) → (b ≡ true → suc x ≡ 255) → in_reach_lem (cond b (cond (eqb t 0) (inf s) nan) (odd 24 s (2 ^ 23 + t) x 149)) ≡ leb (suc x * 2 ^ 23 + t) 1315859240
    go true e = let z = e refl in endless s (eqb t 0) ∙ sym (lt-leb (suc x * 2 ^ 23 + t) 1315859240 (omega arith))
    go false e = value-reach (odd 24 s (2 ^ 23 + t) x 149) s ((2 ^ 23 + t) * 2 ^ x) (2 ^ 149) (pow_pos 149) (odd_sign 24 s (2 ^ 23 + t) x 149) ∙ size-reach x t h

two_fields : (w : ℕ) → w % 2 ^ 31 / 2 ^ 23 * 2 ^ 23 + w % 2 ^ 23 ≡ w % 2 ^ 31
two_fields w = omega arith

pub word_reach : (w : ℕ) → leb (w % 2147483648) 1315859240 ≡ in_reach_lem (of_bits binary32 w)
unfolding of_bits
word_reach w =
    sym (fields_reach (leb (2 ^ 31) w) (w % 2 ^ 31 / 2 ^ 23) (w % 2 ^ 23) (omega arith) ∙ ap (λ (n : ℕ). leb n 1315859240) (two_fields w))
