use mathlib.Core.Path.{sym, ap, ◌∙◌}
use mathlib.Core.Logic.{inl}
use mathlib.Core.List.{List}
use Prim.Native.Nat.{ℕ}
use native.Mathlib.Omega.{arith}
use lib.ListN.{length, take, drop, set}
use Rattle.std.specs.Prelude.{Err}
use Rattle.std.specs.Iterator.Adapters.{enumerate_source, enumerate_count}
use Rattle.std.proofs.lemmas.Result.{err_from_is_err_and}
use Rattle.karaoke.specs.declared.KaraokeSpan.{KaraokeSpan}
use Rattle.karaoke.specs.Answer.{written}
use Rattle.karaoke.specs.Inner.{all_spans}
use Rattle.karaoke.specs.Left.{spans_left}
use Rattle.karaoke.proofs.Beats.{length-spans}
use Rattle.karaoke.proofs.Filling.{list_kept, lets, more, left, list_turn, end, list_done}
use Rattle.karaoke.proofs.karaoke_spans.Goals as goal

pub returns-in_err-n : goal.returns-in_err-n
returns-in_err-n c =
    let p = err_from_is_err_and c.from_residual.result c.from_residual.ensures.1 in
    let e = sym c.in_err-n.was ∙ c.check_spans.ensures in
    record { answer = p.1 ∙ ap Err p.2 ∙ e; list = list_kept _ _ e }

pub of-requires : goal.of-requires
of-requires c = (lets _ _ (sym c.in_ok-n.was ∙ c.check_spans.ensures)).count ∙ length-spans _ _

pub loop-i-init-derived : goal.loop-i-init-derived
loop-i-init-derived c =
    let q = lets _ _ (sym c.in_ok-n.was ∙ c.check_spans.ensures) in
    let s = c.enumerate-i-items.ensures in
    let g = c.into_iter-i-iterator.ensures.into_iter_gives in
    let e = ap length (ap (λ x. spans_left (enumerate_source x)) g ∙ ap spans_left s.source ∙ c.of.ensures) in
    let k = ap enumerate_count g ∙ s.count in
    ((tt, tt, inl (omega (arith, k, e, q.count, q.few))), tt)

pub bounds-list-i : goal.bounds-list-i
bounds-list-i c =
    let q = lets _ _ (sym c.in_ok-n.was ∙ c.check_spans.ensures) in
    let t = c.in-Some.ensures.steps in
    let m = more (all_spans c.args.table.now) _ _ _ (sym c.loop-i.invariant.left ∙ t.0) in
    omega (arith, m, t.1, q.count, q.room, c.loop-i.auto.list)

pub loop-i-preserved : goal.loop-i-preserved
loop-i-preserved c =
    let q = lets _ _ (sym c.in_ok-n.was ∙ c.check_spans.ensures) in
    let l = c.loop-i.invariant in
    let t = c.in-Some.ensures.steps in
    let e = sym l.left ∙ t.0 in
    let all = all_spans c.args.table.now in
    record {
      left = sym (left all _ _ _ e) ∙ ap (λ (j : ℕ). drop j all) (sym t.2);
      list =
          ap (λ (j : ℕ). set c.loop-i.list j c.in-Some.span) t.1
          ∙ list_turn all _ _ _ e c.args.list.now c.loop-i.list (omega (arith, q.count, q.room)) l.list
          ∙ ap (λ (j : ℕ). written (take j all) c.args.list.now) (sym t.2);
    }

pub returns : goal.returns
returns c =
    let l = c.loop-i.invariant in
    let e = sym c.in_ok-n.was ∙ c.check_spans.ensures in
    let z = end (all_spans c.args.table.now) _ (sym l.left ∙ c.in-None.ensures.steps.0.0) in
    record { answer = e; list = l.list ∙ ap (λ (a : List KaraokeSpan). written a c.args.list.now) z ∙ list_done _ _ e }
