use Rattle.std.proofs.Common.{◌+◌, ◌<◌, refl, ◌∙◌, arith}
use Rattle.decimal.proofs.Law.{double}
use Rattle.root.proofs.Law.{room, wide_of}
use Rattle.root.proofs.lengthened.Goals as goal
use Rattle.root.proofs.lengthened.Goals.{At-loop-m}

long : (c : At-loop-m) → 149 < 24 + c.loop-m.t
long c = room c.loop-m.m c.loop-m.t _ c.loop-m.invariant.0 c.loop-m.invariant.1 c.loop-m.invariant.2

pub loop-m-preserved : goal.loop-m-preserved
loop-m-preserved c =
    let l = c.before in
    (double l.loop-m.m l.loop-m.t _ (omega (arith, long l)) l.loop-m.invariant.0, l.loop-m.invariant.1, omega arith, omega arith)

pub overflow_sub-result : goal.overflow_sub-result
overflow_sub-result c = omega (arith, long c.before)

pub returns : goal.returns
returns c =
    let l = c.before in
    (wide_of _ l.loop-m.m l.loop-m.t c.loop-m-test.false l.loop-m.invariant.2 (omega (arith, long l)) refl ∙ l.loop-m.invariant.0, omega (arith, long l))
