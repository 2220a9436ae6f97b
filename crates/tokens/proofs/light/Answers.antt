use mathlib.Core.Path.{sym, ◌∙◌}
use mathlib.Core.Bool.{true≢false}
use Rattle.std.proofs.Common.{rules, arith}
use Rattle.tokens.proofs.Looking.{light_end, light_letter, light_other}
use Rattle.tokens.proofs.light.Goals as goal
use Rattle.tokens.proofs.light.Goals.{else-one_letter+else-wordy, then-one_letter}

pub one_letter-requires : goal.one_letter-requires
one_letter-requires c = let n = c.in-Some.ensures in (n.wide, n.high)

pub wordy-requires : goal.wordy-requires
wordy-requires c = let n = c.in-Some.ensures in (n.wide, n.high)

pub loop-a-smaller : goal.loop-a-smaller
loop-a-smaller c = let n = c.in-Some.ensures in omega (arith, n.low, n.wide, n.high)

pub loop-a-preserved : goal.loop-a-preserved
loop-a-preserved c =
    let l = c.loop-a in
    let n = c.in-Some.ensures in
    let o = c.one_letter.ensures in (
      n.high,
      elim c.if-one_letter.branch [ then-one_letter w ↦ rw w.rate-is w.rate_of-rate.ensures.1 | else-one_letter+else-wordy w ↦ rw w.rate-is l.invariant.1 ],
      search rules,
      elim c.if-one_letter.branch [
        | then-one_letter w ↦ λ k. l.invariant.3 (light_letter _ _ _ _ _ n _ (sym o ∙ w.if-one_letter.true) _ (w.rate-is ∙ w.rate_of-rate.ensures.0) (w.w-is ∙ rw w.letter_weight-w.ensures.0) k)
        | else-one_letter+else-wordy w ↦ λ k. l.invariant.3 (light_other _ _ _ _ _ n _ (sym o ∙ w.if-one_letter.false) (λ z. true≢false (sym (w.wordy.ensures z) ∙ w.if-wordy.false)) w.w-is (rw w.rate-is at k))
      ],
    )

pub returns : goal.returns
returns c = λ h. c.loop-a.invariant.3 (light_end _ _ _ _ _ c.in_default.ensures c.loop-a.invariant.2)
