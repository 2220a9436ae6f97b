-- Floats of magnitude at most a whole number, and what the operations of a drawing make of them.
use mathlib.Core.Path.{◌≡◌, refl, sym, ap, subst, ◌∙◌}
use mathlib.Core.Bool.{Bool, true, false, cond}
use Prim.Native.Nat.{ℕ, ◌+◌, ◌-◌, ◌*◌, ◌^◌, ◌≤◌, ◌<◌}
use native.Mathlib.Nat.{le_trans, le_of_eq, mul-one, mul-pos, mul_comm, mul_assoc, add-mul, mul-le-mul, mul-le-mul_right, mul-mul-mul_comm, add-le-add}
use native.Mathlib.Omega.{arith}
use lib.IntN.{pos}
use lib.Dec.{T, lit<, ltb}
use lib.Ieee.{Float, nan, inf, fin, binary32, up, down, round, neg, lt, le, sum, add, mul, div, unlike, fits}
use lib.Ieee.Fits.{down_pos, div-fits}
use lib.Ieee.Order.{round_mono}
use Rattle.decimal.proofs.Law.{neg_round}
use Rattle.float.specs.Float.{in_reach_lem}
use Rattle.float.proofs.Reach.{unsigned, round_up, or_le, size-in_reach}
use Rattle.pen.specs.Drawing.{f6, weighed}
use Rattle.drawing.specs.Finite.{Bounded, most}

-- n is an f32
pub record Exact (n : ℕ) : Type 0 where
  pub odd : ℕ
  pub power : ℕ
  pub is : round binary32 false n 1 ≡ fin false odd (pos power)
  pub value : odd * 2 ^ power ≡ n

-- ---- rounding

module _ {n : ℕ} (x : Exact n) where
  below : (v : Float) → T (unsigned v) → T (le v (fin false x.odd (pos x.power))) → Bounded n v × Bounded n (neg v)
  unfolding le lt neg
  below nan u h = absurd u
  below (inf true) u h = absurd u
  below (inf false) u h = absurd h
  below (fin true m e) u h = absurd u
  below (fin false m e) u h =
      let a : m * up e * 1 ≤ x.odd * 2 ^ x.power * down e = or_le (m * up e * 1) (x.odd * 2 ^ x.power * down e) true h in
      let b : m * up e ≤ n * down e = rw (mul-one, x.value) at a in
      (b, b)

  pub round_within : (s : Bool) (a d : ℕ) → 0 < d → a ≤ n * d → Bounded n (round binary32 s a d)
  round_within s a d D h = go s
    where
      both : Bounded n (round binary32 false a d) × Bounded n (neg (round binary32 false a d))
      both = below (round binary32 false a d) (round_up binary32 a d) (subst (λ (v : Float). T (le (round binary32 false a d) v)) x.is (round_mono binary32 a d n 1 D (lit< tt) (le_trans (le_of_eq (mul-one a)) h)))

      go : (s : Bool) → Bounded n (round binary32 s a d)
      go false = both.0
      go true = subst (Bounded n) (neg_round binary32 a d) both.1

-- ---- the operations

pub mul-within : (n k : ℕ) → Exact (n * k) → (x y : Float) → Bounded n x → Bounded k y → Bounded (n * k) (mul binary32 x y)
unfolding mul
mul-within n k e nan y a b = absurd a
mul-within n k e (inf s) y a b = absurd a
mul-within n k e (fin s m p) nan a b = absurd b
mul-within n k e (fin s m p) (inf t) a b = absurd b
mul-within n k e (fin s m p) (fin t l q) a b =
    round_within e (unlike s t) (m * up p * (l * up q)) (down p * down q) (mul-pos (down_pos p) (down_pos q))
    (le_trans (mul-le-mul a b) (le_of_eq (mul-mul-mul_comm n (down p) k (down q))))

sum-within : (n k : ℕ) → Exact (n + k) → (s t : Bool) (a b c : ℕ) → 0 < c → a ≤ n * c → b ≤ k * c → Bounded (n + k) (sum binary32 s a t b c)
unfolding sum
sum-within n k e s t a b c C h l = go s t
  where
    all : a + b ≤ (n + k) * c
    all = le_trans (add-le-add h l) (le_of_eq (sym (add-mul n k c)))

    apart : (s t : Bool) (z : Bool) → Bounded (n + k) (cond z (round binary32 t (b - a) c) (round binary32 s (a - b) c))
    apart s t true = round_within e t (b - a) c C (omega (arith, all))
    apart s t false = round_within e s (a - b) c C (omega (arith, all))

    go : (s t : Bool) → Bounded (n + k) (sum binary32 s a t b c)
    go false false = round_within e false (a + b) c C all
    go true true = round_within e true (a + b) c C all
    go false true = apart false true (ltb a b)
    go true false = apart (ltb b a) false (ltb a b)

pub add-within : (n k : ℕ) → Exact (n + k) → (x y : Float) → Bounded n x → Bounded k y → Bounded (n + k) (add binary32 x y)
unfolding add
add-within n k e nan y a b = absurd a
add-within n k e (inf s) y a b = absurd a
add-within n k e (fin s m p) nan a b = absurd b
add-within n k e (fin s m p) (inf t) a b = absurd b
add-within n k e (fin s m p) (fin t l q) a b =
    sum-within n k e s t (m * up p * down q) (l * up q * down p) (down p * down q) (mul-pos (down_pos p) (down_pos q))
    (le_trans (mul-le-mul_right (down q) a) (le_of_eq (mul_assoc n (down p) (down q))))
    (le_trans (mul-le-mul_right (down p) b) (le_of_eq (mul_assoc k (down q) (down p) ∙ ap (λ (z : ℕ). k * z) (mul_comm (down q) (down p)))))

sixth : (n a d : ℕ) → a ≤ 6 * n * d → a * 1 ≤ n * (6 * d)
sixth n a d h = le_trans (le_of_eq (mul-one a)) (le_trans h (le_of_eq (ap (λ (z : ℕ). z * d) (mul_comm 6 n) ∙ mul_assoc n 6 d)))

pub sixth_within : (n : ℕ) → Exact n → (x : Float) → Bounded (6 * n) x → Bounded n (div binary32 x f6)
unfolding div
sixth_within n e nan a = absurd a
sixth_within n e (inf s) a = absurd a
sixth_within n e (fin s m p) a = round_within e (unlike s false) (m * up p * 1) (6 * down p) (mul-pos (lit< tt) (down_pos p)) (sixth n (m * up p) (down p) a)

-- ---- a drawing's numbers

pub e0 : Exact 0
unfolding round
e0 = record { odd = 0; power = 0; is = refl; value = refl }

pub e1 : Exact 1000000000
unfolding round
e1 = record { odd = 1953125; power = 9; is = refl; value = refl }

pub e2 : Exact 2000000000
unfolding round
e2 = record { odd = 1953125; power = 10; is = refl; value = refl }

pub e4 : Exact 4000000000
unfolding round
e4 = record { odd = 1953125; power = 11; is = refl; value = refl }

pub e5 : Exact 5000000000
unfolding round
e5 = record { odd = 9765625; power = 9; is = refl; value = refl }

pub e6 : Exact 6000000000
unfolding round
e6 = record { odd = 5859375; power = 10; is = refl; value = refl }

-- (a · wa + b · wb + c · wc) / 6 where the weights make 6
module _ (p q r : ℕ) (ep : Exact (1000000000 * p)) (eq : Exact (1000000000 * q)) (er : Exact (1000000000 * r)) (es : Exact (1000000000 * p + 1000000000 * q)) (z : 1000000000 * p + 1000000000 * q + 1000000000 * r ≡ 6000000000) where
  pub weighed-within : (wa wb wc : Float) → Bounded p wa → Bounded q wb → Bounded r wc → (a b c : Float) → Bounded most a → Bounded most b → Bounded most c → Bounded most (weighed a wa b wb c wc)
  unfolding weighed
  weighed-within wa wb wc u v w a b c x y t =
      let k = mul-within most p ep a wa x u in
      let l = mul-within most q eq b wb y v in
      let m = mul-within most r er c wc t w in
      let s = add-within (most * p) (most * q) es (mul binary32 a wa) (mul binary32 b wb) k l in
      let o = add-within (most * p + most * q) (most * r) (subst Exact (sym z) e6) (add binary32 (mul binary32 a wa) (mul binary32 b wb)) (mul binary32 c wc) s m in
      sixth_within most e1 (add binary32 (add binary32 (mul binary32 a wa) (mul binary32 b wb)) (mul binary32 c wc)) (subst (λ (n : ℕ). Bounded n (add binary32 (add binary32 (mul binary32 a wa) (mul binary32 b wb)) (mul binary32 c wc))) z o)

pub weighed-fits : (a wa b wb c wc : Float) → T (fits binary32 (weighed a wa b wb c wc))
unfolding weighed
weighed-fits a wa b wb c wc = div-fits binary32 (add binary32 (add binary32 (mul binary32 a wa) (mul binary32 b wb)) (mul binary32 c wc)) f6

-- ---- numerals

pub reach-within : (x : Float) → T (in_reach_lem x) → Bounded most x
unfolding in_reach_lem le neg
reach-within nan h = absurd h
reach-within (inf true) h = absurd h
reach-within (inf false) h = absurd h
reach-within (fin s m e) h = size-in_reach s m e h
