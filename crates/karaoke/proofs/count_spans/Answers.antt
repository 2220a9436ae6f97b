use mathlib.Core.Path.{ap, ◌∙◌}
use native.Mathlib.Omega.{arith}
use Rattle.std.specs.Prelude.{Err}
use Rattle.std.proofs.lemmas.Result.{err_from_is_err_and}
use Rattle.karaoke.proofs.Counting.{none, then, run_refused, other-refused, other-next, t-refused, t-next, end_refused, end-counted}
use Rattle.karaoke.proofs.count_spans.Goals as goal

pub record_at-r-requires : goal.record_at-r-requires
record_at-r-requires c = let l = c.loop-at.invariant in omega (arith, l.0, c.loop-at-test.true)

pub loop-at-init : goal.loop-at-init
loop-at-init c = (c.min-end.ensures, none (omega arith))

pub past_beats-next-requires : goal.past_beats-next-requires
past_beats-next-requires c = let l = c.loop-at.invariant in (omega (arith, c.loop-at-test.true), omega (arith, l.0))

pub returns-then-next-at : goal.returns-then-next-at
returns-then-next-at c = let l = c.loop-at.invariant in run_refused l.0 l.1 c.loop-at-test.true c.record_at-r.ensures c.past_beats-next.ensures c.if-next-at.true c.in-46.is

pub overflow_sub-n : goal.overflow_sub-n
overflow_sub-n c = let u = c.past_beats-next.ensures.passed in omega arith

pub overflow_add-n : goal.overflow_add-n
overflow_add-n c = let u = c.past_beats-next.ensures.passed in let l = c.loop-at.invariant in omega (arith, l.0, l.1.later)

pub loop-at-smaller-in-46 : goal.loop-at-smaller-in-46
loop-at-smaller-in-46 c = let u = c.past_beats-next.ensures.passed in let h = c.loop-at-test.true in let n = c.if-next-at.false in omega arith

pub loop-at-preserved-in-46 : goal.loop-at-preserved-in-46
loop-at-preserved-in-46 c = let l = c.loop-at.invariant in (l.0, then l.1 c.past_beats-next.ensures.passed)

pub t_fault-requires : goal.t_fault-requires
t_fault-requires c = let l = c.loop-at.invariant in (omega (arith, c.loop-at-test.true), omega (arith, l.0, c.loop-at-test.true))

pub overflow_add-at-in-49 : goal.overflow_add-at-in-49
overflow_add-at-in-49 c = let l = c.loop-at.invariant in let a = t-next l.0 l.1 c.loop-at-test.true c.record_at-r.ensures c.in-49.is c.t_fault.ensures c.in_ok-t_fault-in-49.was in omega (arith, l.0, a.most)

pub loop-at-smaller-in-49 : goal.loop-at-smaller-in-49
loop-at-smaller-in-49 c = let l = c.loop-at.invariant in let a = t-next l.0 l.1 c.loop-at-test.true c.record_at-r.ensures c.in-49.is c.t_fault.ensures c.in_ok-t_fault-in-49.was in omega (arith, a.most, c.loop-at-test.true)

pub loop-at-preserved-in-49 : goal.loop-at-preserved-in-49
loop-at-preserved-in-49 c =
    let l = c.loop-at.invariant in
    (l.0, t-next l.0 l.1 c.loop-at-test.true c.record_at-r.ensures c.in-49.is c.t_fault.ensures c.in_ok-t_fault-in-49.was)

pub fits-requires : goal.fits-requires
fits-requires c = ((λ k. grind arith), (λ k. grind arith))

pub returns-then-not-fits : goal.returns-then-not-fits
returns-then-not-fits c = let l = c.loop-at.invariant in other-refused l.0 l.1 c.loop-at-test.true c.record_at-r.ensures c.fits.ensures c.if-not-fits.true

pub loop-at-smaller : goal.loop-at-smaller
loop-at-smaller c = omega arith

pub loop-at-preserved : goal.loop-at-preserved
loop-at-preserved c = let l = c.loop-at.invariant in (l.0, other-next l.0 l.1 c.loop-at-test.true c.record_at-r.ensures c.fits.ensures ((λ k. grind arith), (λ k. grind arith)) c.if-not-fits.false)

pub returns-in_err-t_fault-in-49 : goal.returns-in_err-t_fault-in-49
returns-in_err-t_fault-in-49 c =
    let l = c.loop-at.invariant in
    let p = err_from_is_err_and c.from_residual.result c.from_residual.ensures.1 in
    p.1 ∙ ap Err p.2 ∙ t-refused l.0 l.1 c.loop-at-test.true c.record_at-r.ensures c.in-49.is c.t_fault.ensures c.in_err-t_fault-in-49.was

pub returns-in_err-excess : goal.returns-in_err-excess
returns-in_err-excess c =
    let l = c.loop-at.invariant in
    let p = err_from_is_err_and c.from_residual-in_err-excess.result c.from_residual-in_err-excess.ensures.1 in
    p.1 ∙ ap Err p.2 ∙ end_refused l.0 l.1 c.loop-at-test.false c.excess.ensures c.in_err-excess.was

pub returns : goal.returns
returns c = let l = c.loop-at.invariant in end-counted l.0 l.1 c.loop-at-test.false c.excess.ensures c.in_ok-excess.was
