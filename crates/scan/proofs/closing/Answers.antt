use Rattle.scan.proofs.Laws.{closing-stop, closing_go, passed-closing}
use native.Mathlib.Omega.{arith}
use mathlib.Core.Path.{sym, ◌∙◌}
use Rattle.scan.proofs.closing.Goals as goal

pub returns-then-k-eq0 : goal.returns-then-k-eq0
returns-then-k-eq0 c =
    let l = c.loop-i in
    let w = c.clear-i.ensures in
    record {
      is = sym (l.invariant.4 ∙ passed-closing _ _ _ _ _ l.invariant.2 w ∙ closing-stop _ _ _ _ c.if-i-to.true (sym c.opened-k.ensures.0 ∙ c.if-k-eq0.true));
      low = omega (arith, w.low, l.invariant.0);
      high = w.high;
    }

pub loop-i-preserved-then-i-to : goal.loop-i-preserved-then-i-to
loop-i-preserved-then-i-to c =
    let l = c.loop-i in
    let w = c.clear-i.ensures in
    let k = c.opened-k.result in (
      omega (arith, w.low, l.invariant.0),
      omega (arith, c.if-i-to.true),
      omega (arith, c.if-k-eq0.false),
      omega (arith, c.opened-k.ensures.1, w.low, l.invariant.3, l.invariant.0),
      l.invariant.4 ∙ passed-closing _ _ _ _ _ l.invariant.2 w ∙ closing_go _ _ _ _ k c.if-i-to.true (sym c.opened-k.ensures.0) c.if-k-eq0.false,
    )
