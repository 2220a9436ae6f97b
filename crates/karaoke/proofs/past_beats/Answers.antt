use mathlib.Core.Path.{◌≡◌, ap, ◌∙◌}
use Prim.Native.Nat.{◌+◌, ◌-◌}
use native.Mathlib.Omega.{arith}
use Rattle.tag.specs.declared.Record.{Record}
use Rattle.tag.specs.Range.{in_range, rows}
use Rattle.table.proofs.ByKind.{unjoined}
use Rattle.karaoke.proofs.Counting.{none, then, beat, unfit}
use Rattle.karaoke.proofs.past_beats.Goals.{then-r-ne46-via-then-r-ne46, then-r-ne46-via-else-r-ne46+then-not-numbers_fit}
use Rattle.karaoke.proofs.past_beats.Goals as goal

pub record_at-r-requires : goal.record_at-r-requires
record_at-r-requires c = omega (arith, c.loop-at-test.true, c.requires.1)

pub loop-at-init : goal.loop-at-init
loop-at-init c =
    let f = c.args.from in
    let z : f - f ≡ 0 = omega arith in
    rw z (none c.requires.0)

pub returns-then-r-ne46 : goal.returns-then-r-ne46
unfolding in_range rows
returns-then-r-ne46 c =
    let l = c.loop-at in
    let s = c.args in
    record {
      passed = l.invariant;
      stop = λ h k.
          elim c.then-r-ne46.branch [
            | then-r-ne46-via-then-r-ne46 w ↦ absurd (w.if-r-ne46.true (ap (λ (r : Record). r.kind) c.record_at-r.ensures ∙ k))
            | then-r-ne46-via-else-r-ne46+then-not-numbers_fit w ↦ unfit s.table.now s.end l.at c.requires.1 h c.record_at-r.ensures w.if-r-ne46.false (unjoined w.numbers_fit.ensures) w.if-not-numbers_fit.true
          ];
    }

pub loop-at-preserved : goal.loop-at-preserved
unfolding in_range rows
loop-at-preserved c =
    let l = c.loop-at in
    let s = c.args in
    let g = beat s.table.now s.end l.at c.requires.1 c.loop-at-test.true c.record_at-r.ensures c.if-r-ne46.false (unjoined c.numbers_fit.ensures) c.if-not-numbers_fit.false in
    let z : l.at - s.from + 1 ≡ l.at + 1 - s.from = omega (arith, l.invariant.later) in
    rw z at (then l.invariant g)

pub returns : goal.returns
returns c =
    let e : c.loop-at.at ≡ c.args.end = omega (arith, c.loop-at.auto.at-end c.requires.0, c.loop-at-test.false) in
    record { passed = rw e at c.loop-at.invariant; stop = λ h. absurd (omega arith) }
