use mathlib.Core.Path.{◌≡◌, sym, ap, ◌∙◌}
use Prim.Native.Nat.{ℕ, ◌+◌, ◌-◌}
use native.Mathlib.Nat.{le_refl, lt_of_lt_of_le}
use native.Mathlib.Omega.{arith}
use borrow.Author.Tests.{lt-ltb, le-ltb}
use Rattle.scan.proofs.Laws.{span-stop, span_go}
use Rattle.numeral.specs.Numeral.{value, is_digit}
use Rattle.numeral.proofs.Laws.{value-end, value_go, run_below, run_nine}
use Rattle.numeral.proofs.run_at.Goals as goal

pub returns-then-d-ge10 : goal.returns-then-d-ge10
returns-then-d-ge10 c =
    let v = c.loop-i.invariant in (
      record { is = sym (v.0 ∙ span-stop is_digit _ _ _ (omega arith) (le-ltb _ 10 (rw (← c.digit_of-d.ensures) c.if-d-ge10.true))); low = omega arith; high = omega arith },
      lt_of_lt_of_le v.1 (run_nine _ _ (omega arith)),
      λ h. sym (v.2 _ (le_refl _) ∙ value-end _ _ _ _ _ (le_refl _)),
    )

pub loop-i-preserved : goal.loop-i-preserved
loop-i-preserved c =
    let v = c.loop-i.invariant in
    let z : c.loop-i.i + 1 - c.args.from ≡ c.loop-i.i - c.args.from + 1 = omega arith in (
      v.0 ∙ span_go is_digit _ _ _ (omega arith) (lt-ltb _ 10 (rw (← c.digit_of-d.ensures) c.if-d-ge10.false)),
      rw (z, c.from.ensures) (run_below _ _ _ _ v.1 (omega arith)),
      λ j h. v.2 j (omega arith) ∙ value_go _ _ _ _ _ (omega arith) ∙ rw (c.from.ensures, c.digit_of-d.ensures),
    )

pub returns : goal.returns
returns c =
    let v = c.loop-i.invariant in
    let p = c.span.ensures in
    let i : c.loop-i.i ≡ c.min-stop.result = omega arith in (
      record { is = p.is ∙ sym (rw i at v.0); low = omega (arith, p.low); high = p.high },
      lt_of_lt_of_le v.1 (run_nine _ _ (omega arith)),
      λ h.
          let e : c.span.result ≡ c.loop-i.i = omega (arith, p.low) in
          sym (ap (λ (j : ℕ). value 10 c.args.text.now (j - c.args.from) c.args.from c.args.start) e ∙ v.2 _ (le_refl _) ∙ value-end _ _ _ _ _ (le_refl _)),
    )
