-- 02, N8: what stays within 0 to 1 in f32, rounded at each step: a product, a quotient, a clamp, a blend. Sizes are counted in units of the
-- smallest f32, 2 ^ -149.
use Rattle.std.proofs.Common.{◌≡◌, ℕ, zero, suc, ◌+◌, ◌-◌, ◌*◌, ◌/◌, ◌^◌, ◌<◌, ◌≤◌, Bool, true, false, cond, not, ◌&&◌, T, eqb, ltb, ◌⊎◌, ℤ, pos, sym, refl, ap, ◌∙◌, subst, inl, inr, ⊎_elim, true≢false, zero-le, le_trans, le_of_eq, le_refl, lt_of_lt_of_le, le-add_right, lt_of_le_of_lt, le_of_lt, add-le-add, mul-le-mul_right, zero-lt-suc, mul_assoc, mul_comm, div-lt_iff_lt-mul, add-mul, mul-le-mul, lt_of_mul-lt-mul_right, eq-or-lt_of_le, mul-le-mul_left, mul-lt-mul_of_pos_right, mul-pos, one-mul, mul-zero, zero-mul, mul-one, mul_right_comm, not-le_of_lt, div-mul-le_self, le_of_mul-le-mul_right, sub-le, arith, lit<, lit≤, pow_pos, ltb-false, ltb-true, le-ltb, lt-ltb, ne_eqb}
use native.Mathlib.Nat.{mul-sub, mul-mul-mul_comm}
use native.Mathlib.Decide.{dec_le}
use lib.Ieee.{Float, nan, inf, fin, binary32, up, down, unlike, round, neg, sum, add, sub, mul, div, le, lt, fits, of_int, size, to_bits}
use lib.Ieee.Fits.{up_pos, down_pos, round-fits, kept-lt}
use lib.Ieee.Digits.{size-le}
use lib.Ieee.Exact.{HasValue, round_exact}
use lib.Ieee.Order.{round_mono, transfer, le_of_values}
use lib.Ieee.Scale.{round_same}
use Rattle.decimal.proofs.Law.{neg_round, round_zero, to_bits_of}
use Rattle.float.specs.Float.{zero as +0, one, clamp, lerp, InUnit}
use Rattle.float.proofs.Reach.{unsigned, round_up, or_le}
use Rattle.float.proofs.Units.{Grid, own_units, on_grid}

-- an f32 from 0 to 1, not minus zero, with its size in units
pub record Unit (x : Float) : Type 0 where
  pub size : ℕ
  pub value : HasValue x false size (2 ^ 149)
  pub high : size ≤ 2 ^ 149
  pub f32 : T (fits binary32 x)

grid : {x : Float} (u : Unit x) → Grid u.size
grid {x} u = on_grid x false u.size u.f32 u.value

-- the order of sizes
sizes : (x y : Float) (a b : ℕ) → HasValue x false a (2 ^ 149) → HasValue y false b (2 ^ 149) → T (le x y) → a ≤ b
unfolding le
sizes nan y a b h k l = absurd h
sizes (inf s) y a b h k l = absurd h
sizes (fin s m e) nan a b h k l = absurd k
sizes (fin s m e) (inf t) a b h k l = absurd k
sizes (fin s m e) (fin t n d) a b h k l =
    le_of_mul-le-mul_right
    (transfer a b (2 ^ 149) (2 ^ 149) (m * up e) (n * up d) (down e) (down d) (down_pos e) (down_pos d) (sym h.1) (sym k.1) (under s t h.0 k.0 l))
    (pow_pos 149)
  where
    under : (s t : Bool) → s ≡ false → t ≡ false → T (le (fin s m e) (fin t n d)) → m * up e * down d ≤ n * up d * down e
    under s t p q = subst (λ (u : Bool). T (le (fin u m e) (fin t n d)) → m * up e * down d ≤ n * up d * down e) (sym p)
        (subst (λ (u : Bool). T (le (fin false m e) (fin u n d)) → m * up e * down d ≤ n * up d * down e) (sym q) (or_le (m * up e * down d) (n * up d * down e) true))

-- ---- rounding

-- half way from 1 to the next value goes to 1
tie-is : round binary32 false (2 ^ 149 + 2 ^ 125) (2 ^ 149) ≡ one
unfolding round
tie-is = refl

one_value : HasValue one false (2 ^ 149) (2 ^ 149)
one_value = (refl, refl)

pub unit-zero : Unit +0
unfolding fits
unit-zero = record { size = 0; value = (refl, refl); high = lit≤ tt; f32 = tt }

pub unit-one : Unit one
unfolding fits
unit-one = record { size = 2 ^ 149; value = one_value; high = le_refl (2 ^ 149); f32 = tt }

-- what rounds to at most 1
unit_round : (a c : ℕ) → 0 < c → a * 2 ^ 149 ≤ (2 ^ 149 + 2 ^ 125) * c → Unit (round binary32 false a c)
unfolding le
unit_round a c C h =
    go (round binary32 false a c) (round_up binary32 a c) (round-fits binary32 false a c)
    (subst (λ (z : Float). T (le (round binary32 false a c) z)) tie-is (round_mono binary32 a c (2 ^ 149 + 2 ^ 125) (2 ^ 149) C (pow_pos 149) h))
  where
    go : (x : Float) → T (unsigned x) → T (fits binary32 x) → T (le x one) → Unit x
    go nan u f l = absurd u
    go (inf true) u f l = absurd u
    go (inf false) u f l = absurd l
    go (fin true m e) u f l = absurd u
    go (fin false m e) u f l =
        let o = own_units false m e f in
        record { size = o.0; value = o.1; high = sizes (fin false m e) one o.0 (2 ^ 149) o.1 one_value l; f32 = f }

-- a fraction up to 1
unit-fraction : (a c : ℕ) → 0 < c → a ≤ c → Unit (round binary32 false a c)
unit-fraction a c C h = unit_round a c C (le_trans (mul-le-mul_right (2 ^ 149) h) (le_trans (le_of_eq (mul_comm c (2 ^ 149))) (mul-le-mul_right c (lit≤ tt))))

-- so many units, up to half a step above 1
unit_units : (c : ℕ) → c ≤ 2 ^ 149 + 2 ^ 125 → Unit (round binary32 false c (2 ^ 149))
unit_units c h = unit_round c (2 ^ 149) (pow_pos 149) (mul-le-mul_right (2 ^ 149) h)

-- rounding changes nothing on the grid
exact : (c : ℕ) → c ≤ 2 ^ 149 → Grid c → HasValue (round binary32 false c (2 ^ 149)) false c (2 ^ 149)
exact c h g =
    round_exact binary32 false c (2 ^ 149) g.0 g.1 (pow_pos 149) g.2
    (lt_of_le_of_lt (le_trans (le_of_eq (sym g.3)) h) (lit< tt))
    (ap (λ (x : ℕ). x * 2 ^ 149) g.3)

-- a fraction that is at most so many units of the grid rounds to at most those
capped : (a c b : ℕ) → 0 < c → b ≤ 2 ^ 149 → Grid b → a * 2 ^ 149 ≤ b * c → (u : Unit (round binary32 false a c)) → u.size ≤ b
capped a c b C h g l u = sizes (round binary32 false a c) (round binary32 false b (2 ^ 149)) u.size b u.value (exact b h g) (round_mono binary32 a c b (2 ^ 149) C (pow_pos 149) l)

-- up to 1 a value moves up by at most 2 ^ 125 units: rounding goes no further than to the next multiple of them
step : (c : ℕ) → c < 2 ^ 149 → (u : Unit (round binary32 false c (2 ^ 149))) → u.size ≤ c + 2 ^ 125
step c h u = go (c / 2 ^ 125) ((div-lt_iff_lt-mul {x = c} {y = 2 ^ 24} (pow_pos 125)).1 h) (le_of_lt ((div-lt_iff_lt-mul {x = c} {y = c / 2 ^ 125 + 1} (pow_pos 125)).0 (over (c / 2 ^ 125)))) (div-mul-le_self c (2 ^ 125))
  where
    over : (n : ℕ) → n < n + 1
    over n = omega arith

    on : (q : ℕ) → q < 2 ^ 24 → Grid ((q + 1) * 2 ^ 125)
    on q h = ⊎_elim (λ (e : q + 1 ≡ 2 ^ 24). (1, 149, lit< tt, ap (λ (x : ℕ). x * 2 ^ 125) e)) (λ (l : q + 1 < 2 ^ 24). (q + 1, 125, l, refl)) (eq-or-lt_of_le (omega arith))

    next : (q d r : ℕ) → q * d ≤ r → (q + 1) * d ≤ r + d
    next q d r k = le_trans (le_of_eq (add-mul q 1 d)) (add-le-add k (le_of_eq (one-mul d)))

    last : (q : ℕ) → q < 2 ^ 24 → q + 1 ≤ 2 ^ 24
    last q l = omega arith

    go : (q : ℕ) → q < 2 ^ 24 → c ≤ (q + 1) * 2 ^ 125 → q * 2 ^ 125 ≤ c → u.size ≤ c + 2 ^ 125
    go q l a b = le_trans (capped c (2 ^ 149) ((q + 1) * 2 ^ 125) (pow_pos 149) (mul-le-mul_right (2 ^ 125) (last q l)) (on q l) (mul-le-mul_right (2 ^ 149) a) u) (next q (2 ^ 125) c b)

-- ---- sums and products by sizes in units

by_sub : (p q u : ℕ) → (p - q) * u ≡ p * u - q * u
by_sub p q u = mul_comm (p - q) u ∙ mul-sub u p q ∙ ap (λ (x : ℕ). x - u * q) (mul_comm u p) ∙ ap (λ (x : ℕ). p * u - x) (mul_comm u q)

-- fractions A / C and B / C that are a and b units: a sum sees only these
module _ (A B C a b : ℕ) (C-pos : 0 < C) (h : A * 2 ^ 149 ≡ a * C) (k : B * 2 ^ 149 ≡ b * C) where
  same-order : ltb A B ≡ ltb a b
  same-order = go (ltb a b) refl
    where
      go : (t : Bool) → ltb a b ≡ t → ltb A B ≡ t
      go true e = lt-ltb A B (lt_of_mul-lt-mul_right (2 ^ 149) (lt_of_le_of_lt (le_of_eq h) (lt_of_lt_of_le (mul-lt-mul_of_pos_right (ltb-true a b e) C-pos) (le_of_eq (sym k)))))
      go false e = le-ltb A B (le_of_mul-le-mul_right (le_trans (le_of_eq k) (le_trans (mul-le-mul_right C (ltb-false a b e)) (le_of_eq (sym h)))) (pow_pos 149))

  plus : (A + B) * 2 ^ 149 ≡ (a + b) * C
  plus = add-mul A B (2 ^ 149) ∙ ap (λ (x : ℕ). x + B * 2 ^ 149) h ∙ ap (λ (x : ℕ). a * C + x) k ∙ sym (add-mul a b C)

  less : (A - B) * 2 ^ 149 ≡ (a - b) * C
  less = by_sub A B (2 ^ 149) ∙ ap (λ (x : ℕ). x - B * 2 ^ 149) h ∙ ap (λ (x : ℕ). a * C - x) k ∙ sym (by_sub a b C)

sum_is : (s t : Bool) (A B C a b : ℕ) → 0 < C → A * 2 ^ 149 ≡ a * C → B * 2 ^ 149 ≡ b * C → sum binary32 s A t B C ≡ sum binary32 s a t b (2 ^ 149)
unfolding sum
sum_is s t A B C a b p h k =
    let one = round_same binary32 s (A + B) C (a + b) (2 ^ 149) p (pow_pos 149) (plus A B C a b p h k) in
    let two = round_same binary32 t (B - A) C (b - a) (2 ^ 149) p (pow_pos 149) (less B A C b a p k h) in
    let three : (u : Bool) → round binary32 u (A - B) C ≡ round binary32 u (a - b) (2 ^ 149) = λ u. round_same binary32 u (A - B) C (a - b) (2 ^ 149) p (pow_pos 149) (less A B C a b p h k) in
    rw (one, two, same-order A B C a b p h k, same-order B A C b a p k h, three (s && ltb b a))

add_is : (x y : Float) (s t : Bool) (a b : ℕ) → HasValue x s a (2 ^ 149) → HasValue y t b (2 ^ 149) → add binary32 x y ≡ sum binary32 s a t b (2 ^ 149)
unfolding add
add_is nan y s t a b h k = absurd h
add_is (inf u) y s t a b h k = absurd h
add_is (fin u m e) nan s t a b h k = absurd k
add_is (fin u m e) (inf v) s t a b h k = absurd k
add_is (fin u m e) (fin v n d) s t a b h k =
    rw (h.0, k.0)
    (sum_is s t (m * up e * down d) (n * up d * down e) (down e * down d) a b (mul-pos (down_pos e) (down_pos d))
    (mul_right_comm (m * up e) (down d) (2 ^ 149) ∙ ap (λ (x : ℕ). x * down d) h.1 ∙ mul_assoc a (down e) (down d))
    (mul_right_comm (n * up d) (down e) (2 ^ 149) ∙ ap (λ (x : ℕ). x * down e) k.1 ∙ mul_assoc b (down d) (down e) ∙ ap (λ (x : ℕ). b * x) (mul_comm (down d) (down e))))

add_up : (x y : Float) (a b : ℕ) → HasValue x false a (2 ^ 149) → HasValue y false b (2 ^ 149) → add binary32 x y ≡ round binary32 false (a + b) (2 ^ 149)
unfolding sum
add_up x y a b h k = add_is x y false false a b h k

module _ (x y : Float) (a b : ℕ) (h : HasValue x false a (2 ^ 149)) (k : HasValue y true b (2 ^ 149)) where
  add_down : b ≤ a → add binary32 x y ≡ round binary32 false (a - b) (2 ^ 149)
  unfolding sum
  add_down l = add_is x y false true a b h k ∙ rw (le-ltb a b l) refl

  add_under : a < b → add binary32 x y ≡ round binary32 true (b - a) (2 ^ 149)
  unfolding sum
  add_under l = add_is x y false true a b h k ∙ rw (lt-ltb a b l) refl

neg_value : (x : Float) (a c : ℕ) → HasValue x false a c → HasValue (neg x) true a c
unfolding neg
neg_value nan a c h = h
neg_value (inf s) a c h = h
neg_value (fin s m e) a c h = (ap not h.0, h.1)

product : (X D a N E : ℕ) → X * 2 ^ 149 ≡ a * D → X * N * (2 ^ 149 * E) ≡ a * N * (D * E)
product X D a N E h = mul-mul-mul_comm X N (2 ^ 149) E ∙ ap (λ (x : ℕ). x * (N * E)) h ∙ mul-mul-mul_comm a D N E

mul_is : (x : Float) (s : Bool) (a n : ℕ) (t : Bool) (e : ℤ) → HasValue x s a (2 ^ 149) → mul binary32 x (fin t n e) ≡ round binary32 (unlike s t) (a * (n * up e)) (2 ^ 149 * down e)
unfolding mul
mul_is nan s a n t e h = absurd h
mul_is (inf u) s a n t e h = absurd h
mul_is (fin u m d) s a n t e h =
    ap (λ (v : Bool). round binary32 (unlike v t) (m * up d * (n * up e)) (down d * down e)) h.0
    ∙ round_same binary32 (unlike s t) (m * up d * (n * up e)) (down d * down e) (a * (n * up e)) (2 ^ 149 * down e) (mul-pos (down_pos d) (down_pos e)) (mul-pos (pow_pos 149) (down_pos e)) (product (m * up d) (down d) a (n * up e) (down e) h.1)

-- ---- how far: from 0 to 1, minus zero too

abbrev pub Share : Float → Type 0
Share nan = ⊥
Share (inf s) = ⊥
Share (fin true m e) = m ≡ 0
Share (fin false m e) = m * up e ≤ down e

pub share_of : (x : Float) → Unit x → Share x
share_of nan u = u.value
share_of (inf s) u = u.value
share_of (fin true m e) u = absurd (true≢false u.value.0)
share_of (fin false m e) u = le_of_mul-le-mul_right (le_trans (le_of_eq u.value.1) (le_trans (mul-le-mul_right (down e) u.high) (le_of_eq (mul_comm (2 ^ 149) (down e))))) (pow_pos 149)

-- of so many units
share_unit : (n m : ℕ) (e : ℤ) → n ≤ 2 ^ 149 → m * up e ≤ down e → Unit (round binary32 false (n * (m * up e)) (2 ^ 149 * down e))
share_unit n m e t w = unit-fraction (n * (m * up e)) (2 ^ 149 * down e) (mul-pos (pow_pos 149) (down_pos e)) (mul-le-mul t w)

-- ---- a product

pub unit-mul : (x y : Float) → Unit x → Unit y → Unit (mul binary32 x y)
unit-mul x nan u v = absurd v.value
unit-mul x (inf t) u v = absurd v.value
unit-mul x (fin true n e) u v = absurd (true≢false v.value.0)
unit-mul x (fin false n e) u v = subst Unit (sym (mul_is x false u.size n false e u.value)) (share_unit u.size n e u.high (share_of (fin false n e) v))

-- ---- between two

module _ (a : Float) (u : Unit a) where
  -- so many units above a, or below it
  above : (p : Float) (n : ℕ) → HasValue p false n (2 ^ 149) → u.size + n ≤ 2 ^ 149 + 2 ^ 125 → Unit (add binary32 a p)
  above p n h l = subst Unit (sym (add_up a p u.size n u.value h)) (unit_units (u.size + n) l)

  under : (p : Float) (n : ℕ) → HasValue p true n (2 ^ 149) → n ≤ u.size → Unit (add binary32 a p)
  under p n h l = subst Unit (sym (add_down a p u.size n u.value h l)) (unit_units (u.size - n) (fewer u.size n (2 ^ 149) (2 ^ 125) u.high))
    where
      fewer : (x n b c : ℕ) → x ≤ b → x - n ≤ b + c
      fewer x n b c h = omega arith

  none : (s : Bool) (c : ℕ) → 0 < c → (n : ℕ) → n ≡ 0 → Unit (add binary32 a (round binary32 s n c))
  none s c C n z = subst (λ (v : Float). Unit (add binary32 a v)) (sym (ap (λ (k : ℕ). round binary32 s k c) z ∙ round_zero s c C)) (go s)
    where
      same : (x b c : ℕ) → x ≤ b → x + 0 ≤ b + c
      same x b c h = omega arith

      go : (s : Bool) → Unit (add binary32 a (fin s 0 (pos 0)))
      go true = under (fin true 0 (pos 0)) 0 (refl, refl) zero-le
      go false = above (fin false 0 (pos 0)) 0 (refl, refl) (same u.size (2 ^ 149) (2 ^ 125) u.high)

-- a share of n units, rounded, is at most n units
share_size : (n m : ℕ) (e : ℤ) → n ≤ 2 ^ 149 → Grid n → m * up e ≤ down e → (v : Unit (round binary32 false (n * (m * up e)) (2 ^ 149 * down e))) → v.size ≤ n
share_size n m e t g w v =
    capped (n * (m * up e)) (2 ^ 149 * down e) n (mul-pos (pow_pos 149) (down_pos e)) t g
    (le_trans (mul-le-mul_right (2 ^ 149) (mul-le-mul_left n w)) (le_of_eq (mul_assoc n (down e) (2 ^ 149) ∙ ap (λ (x : ℕ). n * x) (mul_comm (down e) (2 ^ 149))))) v

-- a share of d, of either sign
module _ (a : Float) (u : Unit a) (d : Float) (n : ℕ) (t : n ≤ 2 ^ 149) (g : Grid n) where
  no_part : (s : Bool) (m : ℕ) (e : ℤ) → HasValue d s n (2 ^ 149) → m ≡ 0 → Unit (add binary32 a (mul binary32 d (fin true m e)))
  no_part s m e h z =
      subst (λ (v : Float). Unit (add binary32 a v)) (sym (mul_is d s n m true e h))
      (none a u (unlike s true) (2 ^ 149 * down e) (mul-pos (pow_pos 149) (down_pos e)) (n * (m * up e)) (ap (λ (x : ℕ). n * (x * up e)) z ∙ ap (λ (x : ℕ). n * x) (zero-mul (up e)) ∙ mul-zero n))

  part_up : HasValue d false n (2 ^ 149) → u.size + n ≤ 2 ^ 149 + 2 ^ 125 → (k : Float) → Share k → Unit (add binary32 a (mul binary32 d k))
  part_up h l nan w = absurd w
  part_up h l (inf s) w = absurd w
  part_up h l (fin true m e) w = no_part false m e h w
  part_up h l (fin false m e) w =
      let v = share_unit n m e t w in
      subst (λ (x : Float). Unit (add binary32 a x)) (sym (mul_is d false n m false e h))
      (above a u (round binary32 false (n * (m * up e)) (2 ^ 149 * down e)) v.size v.value (le_trans (add-le-add (le_refl u.size) (share_size n m e t g w v)) l))

  part_down : HasValue d true n (2 ^ 149) → n ≤ u.size → (k : Float) → Share k → Unit (add binary32 a (mul binary32 d k))
  part_down h l nan w = absurd w
  part_down h l (inf s) w = absurd w
  part_down h l (fin true m e) w = no_part true m e h w
  part_down h l (fin false m e) w =
      let v = share_unit n m e t w in
      let r = round binary32 false (n * (m * up e)) (2 ^ 149 * down e) in
      subst (λ (x : Float). Unit (add binary32 a x)) (sym (mul_is d true n m false e h ∙ sym (neg_round binary32 (n * (m * up e)) (2 ^ 149 * down e))))
      (under a u (neg r) v.size (neg_value r v.size (2 ^ 149) v.value) (le_trans (share_size n m e t g w v) l))

le_or_lt : (a b : ℕ) → (a ≤ b) ⊎ (b < a)
le_or_lt a b = elim (dec_le a b) [ yes h ↦ inl h | no h ↦ inr (omega arith) ]

-- THE LAW: a + (b - a) * k in f32, each step rounded, stays within 0 to 1
pub unit-lerp : (a b k : Float) → Unit a → Unit b → Share k → Unit (lerp a b k)
unfolding lerp sub
unit-lerp a b k u v w = ⊎_elim up_to down_to (le_or_lt u.size v.size)
  where
    near : (x y c e : ℕ) → y ≤ c → x ≤ y → x + (y - x + e) ≤ c + e
    near x y c e h l = omega arith

    whole : (x y c e : ℕ) → y ≤ c → x ≤ y → y - x ≡ c → x + c ≤ c + e
    whole x y c e h l q = omega arith

    up_to : u.size ≤ v.size → Unit (add binary32 a (mul binary32 (add binary32 b (neg a)) k))
    up_to l =
        let n = v.size - u.size in
        let d = round binary32 false n (2 ^ 149) in
        let c : n ≤ 2 ^ 149 = le_trans (sub-le v.size u.size) v.high in
        let x = unit_units n (le_trans c (lit≤ tt)) in
        subst (λ (z : Float). Unit (add binary32 a (mul binary32 z k))) (sym (add_down b (neg a) v.size u.size v.value (neg_value a u.size (2 ^ 149) u.value) l))
        (part_up a u d x.size x.high (grid x) x.value
        (⊎_elim
        (λ (e : n ≡ 2 ^ 149). le_trans (add-le-add (le_refl u.size) x.high) (whole u.size v.size (2 ^ 149) (2 ^ 125) v.high l e))
        (λ (h : n < 2 ^ 149). le_trans (add-le-add (le_refl u.size) (step n h x)) (near u.size v.size (2 ^ 149) (2 ^ 125) v.high l))
        (eq-or-lt_of_le c))
        k w)

    down_to : v.size < u.size → Unit (add binary32 a (mul binary32 (add binary32 b (neg a)) k))
    down_to l =
        let n = u.size - v.size in
        let d = round binary32 false n (2 ^ 149) in
        let c : n ≤ u.size = sub-le u.size v.size in
        let x = unit_units n (le_trans c (le_trans u.high (lit≤ tt))) in
        subst (λ (z : Float). Unit (add binary32 a (mul binary32 z k))) (sym (add_under b (neg a) v.size u.size v.value (neg_value a u.size (2 ^ 149) u.value) l ∙ sym (neg_round binary32 n (2 ^ 149))))
        (part_down a u (neg d) x.size x.high (grid x) (neg_value d x.size (2 ^ 149) x.value) (capped n (2 ^ 149) u.size (pow_pos 149) u.high (grid u) (mul-le-mul_right (2 ^ 149) c) x) k w)

-- between 1 and 1
pub lerp-one : (k : Float) → Share k → lerp one one k ≡ one
unfolding lerp sub neg add sum round
lerp-one nan w = absurd w
lerp-one (inf s) w = absurd w
lerp-one (fin s m e) w =
    ap (λ (z : Float). add binary32 one z) (mul_is +0 false 0 m s e (refl, refl) ∙ ap (λ (n : ℕ). round binary32 (unlike false s) n (2 ^ 149 * down e)) (zero-mul (m * up e)) ∙ round_zero (unlike false s) (2 ^ 149 * down e) (mul-pos (pow_pos 149) (down_pos e)))
    ∙ still (unlike false s)
  where
    still : (t : Bool) → add binary32 one (fin t 0 (pos 0)) ≡ one
    still true = refl
    still false = refl

-- ---- 1 less such a value

pub unit-rest : (x : Float) → Unit x → Unit (sub binary32 one x)
unfolding sub unit-one
unit-rest x u = under one unit-one (neg x) u.size (neg_value x u.size (2 ^ 149) u.value) u.high

-- ---- a quotient of two whole numbers, each rounded first

two_to_64 : round binary32 false (2 ^ 64) 1 ≡ fin false 1 (pos 64)
unfolding round
two_to_64 = refl

one-whole : round binary32 false 1 1 ≡ one
unfolding round
one-whole = refl

pub unit-quotient : (a b : ℕ) → 0 < b → a ≤ b → a ≤ 2 ^ 64 → Unit (div binary32 (of_int binary32 (pos a)) (of_int binary32 (pos b)))
unfolding of_int div le
unit-quotient a b z h t =
    go (round binary32 false a 1) (round binary32 false b 1) (round_up binary32 a 1) (round_up binary32 b 1)
    (round_mono binary32 a 1 b 1 (lit< tt) (lit< tt) (mul-le-mul_right 1 h))
    (subst (λ (v : Float). T (le (round binary32 false a 1) v)) two_to_64 (round_mono binary32 a 1 (2 ^ 64) 1 (lit< tt) (lit< tt) (mul-le-mul_right 1 t)))
    (subst (λ (v : Float). T (le v (round binary32 false b 1))) one-whole (round_mono binary32 1 1 b 1 (lit< tt) (lit< tt) (mul-le-mul_right 1 z)))
  where
    some : (n : ℕ) (d : ℤ) → 1 * 1 * down d ≤ n * up d * 1 → ¬ (n ≡ 0)
    some n d l e = not-le_of_lt (down_pos d) (le_trans (le_of_eq (sym (one-mul (down d)))) (le_trans l (le_of_eq (mul-one (n * up d) ∙ ap (λ (x : ℕ). x * up d) e ∙ zero-mul (up d)))))

    go : (x y : Float) → T (unsigned x) → T (unsigned y) → T (le x y) → T (le x (fin false 1 (pos 64))) → T (le one y) → Unit (div binary32 x y)
    go nan y p q l k o = absurd p
    go (inf true) y p q l k o = absurd p
    go (inf false) y p q l k o = absurd k
    go (fin true m e) y p q l k o = absurd p
    go (fin false m e) nan p q l k o = absurd q
    go (fin false m e) (inf true) p q l k o = absurd q
    go (fin false m e) (inf false) p q l k o = unit-zero
    go (fin false m e) (fin true n d) p q l k o = absurd q
    go (fin false m e) (fin false n d) p q l k o =
        let w = some n d (or_le (1 * 1 * down d) (n * up d * 1) true o) in
        subst Unit (sym (ap (λ (t : Bool). cond t (cond (eqb m 0) nan (inf (unlike false false))) (round binary32 false (m * up e * down d) (n * up d * down e))) (ne_eqb n 0 w)))
        (unit-fraction (m * up e * down d) (n * up d * down e) (mul-pos (mul-pos (more_than_none n w) (up_pos d)) (down_pos e)) (or_le (m * up e * down d) (n * up d * down e) true l))
      where
        more_than_none : (n : ℕ) → ¬ (n ≡ 0) → 0 < n
        more_than_none zero w = absurd (w refl)
        more_than_none (suc n) w = zero-lt-suc n

-- ---- clamped

pub unit-clamp : (x : Float) → Unit x → Unit (clamp x +0 one)
unfolding clamp
unit-clamp x u = go (lt x +0) (lt one x)
  where
    go : (b c : Bool) → Unit (cond b +0 (cond c one x))
    go true c = unit-zero
    go false true = unit-one
    go false false = u

-- any finite value, clamped
pub share_clamp : (s : Bool) (m : ℕ) (e : ℤ) → Share (clamp (fin s m e) +0 one)
unfolding clamp lt
share_clamp s m e = go (lt (fin s m e) +0) (lt one (fin s m e)) refl refl
  where
    none : (n : ℕ) (b c : ℕ) → 0 < b → n * b * 1 + 0 * 1 * c ≤ 0 → n ≡ 0
    none zero b c h l = refl
    none (suc n) b c h l = absurd (not-le_of_lt (mul-pos (zero-lt-suc n) h) (le_trans (le_trans (le_of_eq (sym (mul-one (suc n * b)))) (le-add_right (suc n * b * 1) (0 * 1 * c))) l))

    small : (s : Bool) → lt (fin s m e) +0 ≡ false → lt one (fin s m e) ≡ false → Share (fin s m e)
    small true p q = none m (up e) (down e) (up_pos e) (ltb-false 0 (m * up e * 1 + 0 * 1 * down e) p)
    small false p q = le_trans (le_of_eq (sym (mul-one (m * up e)))) (le_trans (ltb-false (1 * 1 * down e) (m * up e * 1) q) (le_of_eq (one-mul (down e))))

    go : (b c : Bool) → lt (fin s m e) +0 ≡ b → lt one (fin s m e) ≡ c → Share (cond b +0 (cond c one (fin s m e)))
    go true c p q = zero-le
    go false true p q = le_refl 1
    go false false p q = small s p q

-- ---- what it says in the order of floats

pub in_unit : (x : Float) → Unit x → InUnit x
in_unit x u =
    record {
      low = le_of_values +0 x 0 1 u.size (2 ^ 149) (lit< tt) (pow_pos 149) (refl, refl) u.value (le_trans (le_of_eq (zero-mul (2 ^ 149))) zero-le);
      high = le_of_values x one u.size (2 ^ 149) 1 1 (pow_pos 149) (lit< tt) u.value (refl, refl) (le_trans (le_of_eq (mul-one u.size)) (le_trans u.high (le_of_eq (sym (one-mul (2 ^ 149))))));
    }

-- ---- and in its bits

pub unit_word : (x : Float) → Unit x → to_bits binary32 x ≤ 0x3F800000
unit_word x u = le_trans (le_of_eq (to_bits_of binary32 x false u.size u.value)) (⊎_elim whole part (eq-or-lt_of_le u.high))
  where
    whole : u.size ≡ 2 ^ 149 → 0 + (size u.size - 24) * 2 ^ 23 + u.size / 2 ^ (size u.size - 24) ≤ 0x3F800000
    whole e = subst (λ (n : ℕ). 0 + (size n - 24) * 2 ^ 23 + n / 2 ^ (size n - 24) ≤ 0x3F800000) (sym e) top
      where
        top : 0 + (size (2 ^ 149) - 24) * 2 ^ 23 + 2 ^ 149 / 2 ^ (size (2 ^ 149) - 24) ≤ 0x3F800000
        top = unfold size in lit≤ tt

    sum_up : (z q : ℕ) → z ≤ 149 → q < 2 ^ 24 → 0 + (z - 24) * 2 ^ 23 + q ≤ 0x3F800000
    sum_up z q h k = omega arith

    part : u.size < 2 ^ 149 → 0 + (size u.size - 24) * 2 ^ 23 + u.size / 2 ^ (size u.size - 24) ≤ 0x3F800000
    part l = sum_up (size u.size) (u.size / 2 ^ (size u.size - 24)) (size-le u.size 149 l) (kept-lt 24 u.size)
