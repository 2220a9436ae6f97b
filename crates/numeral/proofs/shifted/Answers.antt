use mathlib.Core.Path.{◌≡◌, sym, ap, subst, ◌∙◌}
use mathlib.Core.List.{List}
use Prim.Native.Nat.{ℕ, ◌-◌, ◌*◌, ◌^◌, ◌≤◌, ◌<◌}
use native.Mathlib.Omega.{arith}
use lib.Dec.{ltb}
use lib.IntN.{ℤ}
use Rattle.numeral.specs.declared.Decimal.{Decimal}
use Rattle.numeral.specs.declared.Numeral.{Numeral}
use Rattle.numeral.specs.Numeral.{most, split_at, digits_of, before, behind, float_of, limited, signed, word_of_f32}
use Rattle.numeral.specs.Inner.{Says}
use Rattle.numeral.proofs.Laws.{limit_before, limit_behind, limit_number}
use Rattle.numeral.proofs.Exponent.{counted-some, counted_zeros_is, counted_zeros, counted-small, counted-digits, exponent-few, shifted_is}
use Rattle.numeral.proofs.SpelledOut.{says}
use Rattle.numeral.proofs.shifted.Goals as goal
use Rattle.numeral.proofs.shifted.Lts.{After-shift_of}
use Rattle.numeral.proofs.shifted.Goals.{then-before-gt9-via-then-before-gt9, then-before-gt9-via-else-before-gt9+then-behind-gt9}
use Rattle.numeral.proofs.shifted.Tie.{the-claims}
use Rattle.numeral.proofs.shifted.Reads.{Pre, Post}

-- the exponent, once its digits are read
module _ (c : After-shift_of the-claims Pre Post) where
  abbrev x : ℤ
  x = signed (ltb c.past-x.result c.past.result) c.value-n.result

  abbrev s : List ℕ
  s = c.args.text.now

  abbrev a : ℕ
  a = c.args.a

  abbrev b : ℕ
  b = c.args.b

  abbrev d : Decimal
  d = split_at s a b

  said : {r : Numeral} → r ≡ word_of_f32 (limited a d x (float_of s a b d x)) → Says s a b d r
  said e =
      let q = c.requires in
      says s a b q.1 (counted-some _ _ _ _ _ _ _ q.2)
      (e ∙ ap word_of_f32 (exponent-few _ _ _ _ _ _ _ q.2 _ _ c.past-x.ensures.is c.past-e.ensures.is _ _ c.past.ensures.is c.value-n.ensures (omega arith)))

  -- the digits on both sides
  before-is : c.shift_of-before.result.0 ≡ before (d.whole - d.from) x
  before-is = c.shift_of-before.ensures.0 ∙ ap (λ (n : ℕ). before n x) c.requires.2.whole

  behind-is : c.shift_of-before.result.1 ≡ behind (d.end - d.fraction) x
  behind-is = c.shift_of-before.ensures.1 ∙ ap (λ (n : ℕ). behind n x) c.requires.2.fraction

pub returns-then-before-gt9 : goal.returns-then-before-gt9
returns-then-before-gt9 c =
    let p = c.before.before in
    elim c.then-before-gt9.branch [
      | then-before-gt9-via-then-before-gt9 w ↦ said p (ap word_of_f32 (limit_before _ _ (x p) _ (rw (before-is p) at w.if-before-gt9.true)))
      | then-before-gt9-via-else-before-gt9+then-behind-gt9 w ↦
          let k : p.shift_of-before.result.0 ≤ 9 = omega arith in
          said p (ap word_of_f32 (limit_behind _ _ (x p) _ (rw (before-is p) at k) (rw (behind-is p) at w.if-behind-gt9.true)))
    ]

pub all_digits-all-requires : goal.all_digits-all-requires
all_digits-all-requires c =
    let p = c.before.before.before in
    let q = p.requires in
    (q.0, q.1, counted-digits _ _ _ _ _ _ _ q.2 (x p) (rw p.shift_of-before.ensures.0 at c.if-before-gt9.false) (rw p.shift_of-before.ensures.1 at c.if-behind-gt9.false), q.2.few)

pub shifted_word-requires : goal.shifted_word-requires
shifted_word-requires c =
    let p = c.before.before.before.before in
    let q = p.requires in
    let k = rw p.shift_of-before.ensures.0 at c.if-before-gt9.false in
    let l = rw p.shift_of-before.ensures.1 at c.if-behind-gt9.false in
    let z = sym p.shift_of-before.ensures.2 in
    (q.0, q.1, rw c.all_digits-all.ensures (subst (λ (n : ℕ). digits_of (s p) (d p) * 10 ^ n < most) z (counted-small _ _ _ _ _ _ _ q.2 (x p) k l)), subst (λ (n : ℕ). n ≤ 9) z (counted_zeros _ _ _ _ _ _ _ q.2 (x p) k), c.if-behind-gt9.false)

pub returns : goal.returns
returns c =
    let p = c.before.before.before.before.before in
    let h : p.shift_of-before.result.0 ≤ 9 = omega arith in
    let k = rw (before-is p) at h in
    let l = rw (behind-is p) at c.if-behind-gt9.false in
    let z = p.shift_of-before.ensures.2 ∙ counted_zeros_is _ _ _ _ _ _ _ p.requires.2 (x p) in
    said p (shifted_is (s p) (a p) (b p) (d p) (x p) _ _ _ _ c.all_digits-all.ensures z (behind-is p) c.shifted_word.ensures ∙ ap word_of_f32 (limit_number _ _ (x p) _ k l))
