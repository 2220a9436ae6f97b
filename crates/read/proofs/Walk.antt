-- One step of the reading of a block.
use mathlib.Core.Path.{◌≡◌, refl, sym, ap, ◌∙◌}
use mathlib.Core.List.{List}
use mathlib.Core.Bool.{Bool}
use Prim.Native.Nat.{ℕ, zero, suc, ◌+◌, ◌-◌, ◌≤◌, ◌<◌}
use native.Mathlib.Omega.{arith}
use native.Mathlib.Nat.{le_refl}
use lib.ListN.{get_or}
use lib.Dec.{ltb, eqb}
use borrow.Author.Tests.{eq-eqb, ne_eqb, lt-ltb, le-ltb}
use Rattle.scan.specs.Scan.{digit, letter, other, span_to, past, closing_to}
use Rattle.scan.proofs.Laws.{picked, span-low, closing-low}
use Rattle.plain.specs.Names.{key_at, t_key}
use Rattle.plain.specs.Plain.{plain_at}
use Rattle.read.specs.declared.Head.{Head}
use Rattle.read.specs.Block.{Got, nothing, join, one_got, param_at, name_end, head_at, peel_to, t_of, tag_at, walk, parse, t_at}

past-low : (p : ℕ → Bool) (s : List ℕ) (i e : ℕ) → i ≤ past p s i e
past-low p s i e = picked (λ (j : ℕ). i ≤ j) (ltb i e) _ _ (picked (λ (j : ℕ). i ≤ j) (p (get_or s i 0)) _ _ (omega arith) (le_refl i)) (le_refl i)

param_low : (s : List ℕ) (name i e : ℕ) → i ≤ (param_at s name i e).next
unfolding param_at
param_low s name i e =
    let a : i ≤ span_to (other 92) s i e = span-low (other 92) s (e - i) i in
    let b : i + 1 ≤ closing_to s (i + 1) e 1 = closing-low s (e - (i + 1)) (i + 1) 1 in
    let b1 : i ≤ closing_to s (i + 1) e 1 + 1 = omega arith in
    let b2 : i ≤ closing_to s (i + 1) e 1 = omega arith in
    picked (λ (x : Head). i ≤ x.next) (ltb i e) _ _ (picked (λ (x : Head). i ≤ x.next) (eqb (get_or s i 0) 40) _ _ (picked (λ (j : ℕ). i ≤ j) (ltb (closing_to s (i + 1) e 1) e) _ _ b1 b2) a) a

pub name-low : (s : List ℕ) (i e : ℕ) → i ≤ name_end s i e
name-low s i e =
    let a = past-low (digit 10) s i e in
    let b : past (digit 10) s i e ≤ name_end s i e = span-low letter s (e - past (digit 10) s i e) (past (digit 10) s i e) in
    omega arith

head-low : (s : List ℕ) (i e : ℕ) → i + 1 ≤ (head_at s i e).next
head-low s i e =
    let a = name-low s (i + 1) e in
    let b = param_low s (i + 1) (name_end s (i + 1) e) e in
    omega arith

-- more fuel than there are bytes left changes nothing
module _ (inner : ℕ → ℕ → Got) (s : List ℕ) (e : ℕ) where
  fuel : (n m i : ℕ) → e ≤ i + n → e ≤ i + m → walk inner s e n i ≡ walk inner s e m i
  unfolding walk
  fuel zero zero i a b = refl
  fuel zero (suc m) i a b = rw (le-ltb i e (omega arith))
  fuel (suc n) zero i a b = rw (le-ltb i e (omega arith))
  fuel (suc n) (suc m) i a b =
      let l = head-low s i e in
      rw (fuel n m (i + 1) (omega arith) (omega arith), fuel n m (head_at s i e).next (omega arith) (omega arith))

parse-walk : (d : ℕ) (s : List ℕ) (i e : ℕ) → parse d s i e ≡ walk (t_at d s) s e (e - i) i
unfolding parse
parse-walk d s i e = refl

module _ (d : ℕ) (s : List ℕ) (i e : ℕ) where
  pub parse-end : e ≤ i → parse d s i e ≡ nothing
  unfolding walk
  parse-end h =
      let z : e - i ≡ 0 = omega arith in
      rw (parse-walk d s i e, z)

  pub parse-skip : i < e → ¬ (get_or s i 0 ≡ 92) → parse d s i e ≡ parse d s (i + 1) e
  unfolding walk
  parse-skip h b =
      let z : e - i ≡ suc (e - (i + 1)) = omega arith in
      rw (parse-walk d s i e, parse-walk d s (i + 1) e, z, lt-ltb i e h, ne_eqb (get_or s i 0) 92 b)

  -- a backslash with no name behind it
  pub parse_bare : (h : Head) → i < e → get_or s i 0 ≡ 92 → h ≡ head_at s i e → h.end ≡ i + 1 → parse d s i e ≡ parse d s (i + 1) e
  unfolding walk
  parse_bare h l b q n =
      let z : e - i ≡ suc (e - (i + 1)) = omega arith in
      let w : (head_at s i e).end ≡ i + 1 = sym (ap (λ (x : Head). x.end) q) ∙ n in
      rw (parse-walk d s i e, parse-walk d s (i + 1) e, z, lt-ltb i e l, eq-eqb (get_or s i 0) 92 b, eq-eqb (head_at s i e).end (i + 1) w)

  pub parse_tag : (h : Head) → i < e → get_or s i 0 ≡ 92 → h ≡ head_at s i e → ¬ (h.end ≡ i + 1) → parse d s i e ≡ join (tag_at (t_at d s) s i h) (parse d s h.next e)
  unfolding walk
  parse_tag h l b q n =
      let z : e - i ≡ suc (e - (i + 1)) = omega arith in
      let w : ¬ ((head_at s i e).end ≡ i + 1) = λ k. n (ap (λ (x : Head). x.end) q ∙ k) in
      let v = head-low s i e in
      rw (
        q,
        parse-walk d s i e,
        parse-walk d s (head_at s i e).next e,
        z,
        lt-ltb i e l,
        eq-eqb (get_or s i 0) 92 b,
        ne_eqb (head_at s i e).end (i + 1) w,
        fuel (t_at d s) s e (e - (i + 1)) (e - (head_at s i e).next) (head_at s i e).next (omega arith) (omega arith),
      )

-- a tag is a \t or not, by its name
module _ (inner : ℕ → ℕ → Got) (s : List ℕ) (i : ℕ) (h : Head) where
  pub tag_t : key_at s h.name h.end ≡ t_key → tag_at inner s i h ≡ inner h.p h.q
  unfolding tag_at
  tag_t e = rw (eq-eqb (key_at s h.name h.end) t_key e)

  pub tag_plain : ¬ (key_at s h.name h.end ≡ t_key) → tag_at inner s i h ≡ one_got i (plain_at s h.name h.end h.p h.q)
  unfolding tag_at
  tag_plain e = rw (ne_eqb (key_at s h.name h.end) t_key e)

-- a \t where one more level is allowed
pub t-more : (d : ℕ) (s : List ℕ) (p q : ℕ) → ¬ (d ≡ 0) → t_at d s p q ≡ t_of (peel_to s p q) (parse (d - 1) s (peel_to s p q).rest q)
unfolding t_at parse
t-more zero s p q h = absurd (h refl)
t-more (suc d) s p q h =
    let z : suc d - 1 ≡ d = omega arith in
    rw z

pub t-none : (d : ℕ) (s : List ℕ) (p q : ℕ) → d ≡ 0 → t_at d s p q ≡ nothing
unfolding t_at
t-none zero s p q h = refl
t-none (suc d) s p q h = absurd (omega arith)

-- a block's loop gets on, and has no more tags than bytes
pub less_left : (a b e : ℕ) → a < b → b ≤ e → e - b < e - a
less_left a b e h k = omega arith

pub count_step : (from i end p q next n m : ℕ) → from ≤ i → n ≤ i - from → m ≤ q - p + 1 → i < end → end ≤ p → p ≤ q → q ≤ next → n + m ≤ next - from
count_step from i end p q next n m a b c d e f g = omega arith

pub next_past : (i end p q next : ℕ) → i < end → end ≤ p → p ≤ q → q ≤ next → i < next
next_past i end p q next a b c d = omega arith
