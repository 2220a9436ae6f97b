use mathlib.Core.Path.{sym, ◌∙◌}
use native.Mathlib.Omega.{arith}
use borrow.Author.Rules.{rules}
use Rattle.table.proofs.Faults.{none_left, turn_bad, turn_plain, turn_room, turn_in, turn_past}
use Rattle.table.proofs.+fault.Goals as goal

-- fault
pub returns-then-not-stands : goal.returns-then-not-stands
returns-then-not-stands t c = turn_bad c.args.table.now c.args.deep c.loop-left.at c.loop-left.left (omega (arith, c.requires, c.loop-left.invariant.0)) c.loop-left-test.true c.record_at-r.result c.record_at-r.ensures c.stands.result c.stands.ensures c.if-not-stands.true ∙ c.loop-left.invariant.1

pub returns-in_err-fault : goal.returns-in_err-fault
returns-in_err-fault t c = rw (sym (turn_in c.args.table.now c.args.deep c.loop-left.at c.loop-left.left (omega (arith, c.requires, c.loop-left.invariant.0)) c.loop-left-test.true c.record_at-r.result c.record_at-r.ensures c.stands.result c.stands.ensures c.if-not-stands.false c.if-r-eq49.true _ c.fault.ensures _ c.in_err-fault.was ∙ c.loop-left.invariant.1)) (search rules)

pub loop-left-preserved-then-r-eq49 : goal.loop-left-preserved-then-r-eq49
loop-left-preserved-then-r-eq49 t c =
    let m = turn_room c.args.table.now c.args.deep c.loop-left.at c.loop-left.left (omega (arith, c.requires, c.loop-left.invariant.0)) c.loop-left-test.true c.record_at-r.result c.record_at-r.ensures c.stands.result c.stands.ensures c.if-not-stands.false c.if-r-eq49.true in
    (omega (arith, m.1, c.loop-left.invariant.0, c.loop-left-test.true), turn_past c.args.table.now c.args.deep c.loop-left.at c.loop-left.left (omega (arith, c.requires, c.loop-left.invariant.0)) c.loop-left-test.true c.record_at-r.result c.record_at-r.ensures c.stands.result c.stands.ensures c.if-not-stands.false c.if-r-eq49.true _ c.fault.ensures c.in_ok-fault.was ∙ c.loop-left.invariant.1)

pub loop-left-preserved : goal.loop-left-preserved
loop-left-preserved t c = (omega (arith, c.loop-left.invariant.0, c.loop-left-test.true), turn_plain c.args.table.now c.args.deep c.loop-left.at c.loop-left.left (omega (arith, c.requires, c.loop-left.invariant.0)) c.loop-left-test.true c.record_at-r.result c.record_at-r.ensures c.stands.result c.stands.ensures c.if-not-stands.false c.if-r-eq49.false ∙ c.loop-left.invariant.1)

pub returns : goal.returns
returns t c = sym (none_left c.args.table.now c.args.deep c.loop-left.at c.loop-left.left (omega (arith, c.loop-left-test.false))) ∙ c.loop-left.invariant.1
