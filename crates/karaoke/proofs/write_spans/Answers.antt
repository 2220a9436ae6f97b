use mathlib.Core.Path.{sym, ap, ◌∙◌}
use mathlib.Core.Logic.{inl}
use mathlib.Core.List.{List, [], ◌∷◌, ◌++◌}
use Prim.Native.Nat.{ℕ, ◌*◌}
use native.Mathlib.Omega.{arith}
use lib.ListN.{length, take, drop}
use Rattle.std.specs.Prelude.{Err}
use Rattle.std.specs.Iterator.Adapters.{enumerate_source, enumerate_count}
use Rattle.std.proofs.lemmas.Result.{err_from_is_err_and}
use Rattle.rows.proofs.Laws.{laid_nil}
use Rattle.karaoke.specs.declared.KaraokeSpan.{KaraokeSpan}
use Rattle.karaoke.specs.Answer.{laid_spans, span_width, span_words}
use Rattle.karaoke.specs.Inner.{all_spans}
use Rattle.karaoke.specs.Left.{spans_left}
use Rattle.karaoke.proofs.Beats.{length-spans}
use Rattle.karaoke.proofs.Filling.{words_kept, lets, more, left, words_turn, end, words_done}
use Rattle.karaoke.proofs.write_spans.Goals as goal

pub returns-in_err-n : goal.returns-in_err-n
returns-in_err-n c =
    let p = err_from_is_err_and c.from_residual.result c.from_residual.ensures.1 in
    let e = sym c.in_err-n.was ∙ c.check_spans.ensures in
    record { answer = p.1 ∙ ap Err p.2 ∙ e; words = words_kept _ _ e }

pub of-requires : goal.of-requires
of-requires c = (lets _ _ (sym c.in_ok-n.was ∙ c.check_spans.ensures)).count ∙ length-spans _ _

pub loop-i-init-derived : goal.loop-i-init-derived
loop-i-init-derived c =
    let q = lets _ _ (sym c.in_ok-n.was ∙ c.check_spans.ensures) in
    let s = c.enumerate-i-items.ensures in
    let g = c.into_iter-i-iterator.ensures.into_iter_gives in
    let e = ap length (ap (λ x. spans_left (enumerate_source x)) g ∙ ap spans_left s.source ∙ c.of.ensures) in
    let k = ap enumerate_count g ∙ s.count in
    ((tt, tt, inl (omega (arith, k, e, q.count, q.few))), tt)

pub loop-i-init : goal.loop-i-init
loop-i-init c =
    let s = c.enumerate-i-items.ensures in
    let g = c.into_iter-i-iterator.ensures.into_iter_gives in
    let k = ap enumerate_count g ∙ s.count in
    let all = all_spans c.args.table.now in
    record {
      left = ap (λ x. spans_left (enumerate_source x)) g ∙ ap spans_left s.source ∙ c.of.ensures ∙ ap (λ (j : ℕ). drop j all) (sym k);
      words = sym (laid_nil span_width span_words c.args.words.now) ∙ ap (λ (j : ℕ). laid_spans c.args.words.now (take j all)) (sym k);
    }

-- the words of a span fit where it is written
pub overflow_mul-i : goal.overflow_mul-i
overflow_mul-i c =
    let q = lets _ _ (sym c.in_ok-n.was ∙ c.check_spans.ensures) in
    let t = c.in-Some.ensures.steps in
    let m = more (all_spans c.args.table.now) _ _ _ (sym c.loop-i.invariant.left ∙ t.0) in
    record { fits = omega (arith, m, t.1, q.count, q.few) }

pub put_span-requires : goal.put_span-requires
put_span-requires c =
    let q = lets _ _ (sym c.in_ok-n.was ∙ c.check_spans.ensures) in
    let t = c.in-Some.ensures.steps in
    let m = more (all_spans c.args.table.now) _ _ _ (sym c.loop-i.invariant.left ∙ t.0) in
    omega (arith, m, t.1, q.count, q.room, c.loop-i.auto.words)

pub loop-i-preserved : goal.loop-i-preserved
loop-i-preserved c =
    let q = lets _ _ (sym c.in_ok-n.was ∙ c.check_spans.ensures) in
    let l = c.loop-i.invariant in
    let t = c.in-Some.ensures.steps in
    let e = sym l.left ∙ t.0 in
    let all = all_spans c.args.table.now in
    record {
      left = sym (left all _ _ _ e) ∙ ap (λ (j : ℕ). drop j all) (sym t.2);
      words =
          c.put_span.ensures
          ∙ ap (λ (j : ℕ). take (3 * j) c.loop-i.words ++ laid_spans (drop (3 * j) c.loop-i.words) (c.in-Some.span ∷ [])) t.1
          ∙ words_turn all _ _ _ e c.args.words.now c.loop-i.words (omega (arith, q.count, q.room)) l.words
          ∙ ap (λ (j : ℕ). laid_spans c.args.words.now (take j all)) (sym t.2);
    }

pub returns : goal.returns
returns c =
    let l = c.loop-i.invariant in
    let e = sym c.in_ok-n.was ∙ c.check_spans.ensures in
    let z = end (all_spans c.args.table.now) _ (sym l.left ∙ c.in-None.ensures.steps.0.0) in
    record { answer = e; words = l.words ∙ ap (λ (a : List KaraokeSpan). laid_spans c.args.words.now a) z ∙ words_done _ _ e }
