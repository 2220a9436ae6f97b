use mathlib.Core.Path.{refl, sym, ap, ◌∙◌}
use native.Mathlib.Omega.{arith}
use lib.IntN.{pos}
use borrow.Author.Rules.{rules}
use borrow.Author.Tests.{lt-ltb}
use Rattle.numeral.specs.Numeral.{split_at, word_of_f32}
use Rattle.numeral.proofs.Laws.{f32_says, f32-number, digits-below}
use Rattle.numeral.proofs.Exponent.{shift_small, no-zeros, unshifted}
use Rattle.numeral.proofs.f32_of.Goals as goal

pub returns-then-exponent_at : goal.returns-then-exponent_at
returns-then-exponent_at c =
    let q = c.decimal_at-digits.ensures.0 in
    c.shifted.ensures.out
    ∙ ap word_of_f32 (f32_says _ _ _ (split_at _ _ _) refl (rw (← q.is) c.if-w-f-eq0.false) (rw (← q.is, lt-ltb _ _ c.if-end-b.true) (sym c.exponent_at.ensures ∙ c.if-exponent_at.true)))

pub decimal_word-requires : goal.decimal_word-requires
decimal_word-requires c =
    let w = c.decimal_at-digits.ensures in
    let m = c.if-w-gt9.false in
    let n = c.if-f-gt9.false in
    (search rules, search rules, rw (w.1 m n) (rw no-zeros at (shift_small _ _ _ (pos 0) (digits-below _ _ _ _ w.0.is) (omega (arith, m)) (omega (arith, n)))), n)

pub returns : goal.returns
returns c =
    let w = c.decimal_at-digits.ensures in
    let m = c.if-w-gt9.false in
    let n = c.if-f-gt9.false in
    rw (c.decimal_word.ensures, w.1 m n, unshifted _ _ _ _)
    (ap word_of_f32 (f32-number _ _ _ _ w.0.is c.if-w-f-eq0.false c.if-end-b.false m n))
