use mathlib.Core.Path.{◌≡◌, ◌∙◌}
use borrow.Author.Rules.{rules}
use mir.Syntax.{w32}
use mir.ValLaws.{to_z-of_z}
use Rattle.std.specs.Prelude.{Err}
use Rattle.evaluate.proofs.Ends.{at_fault, late, stated, told_by_value}
use Rattle.evaluate.proofs.evaluate_at.Goals as goal

pub returns-in-Some : goal.returns-in-Some
returns-in-Some c =
    let p = told_by_value c.args.table.now c.args.t c.args.dur (rw (to_z-of_z w32 c.args.t c.ranges.t, to_z-of_z w32 c.args.dur c.ranges.dur) at (at_fault c.apply_all-st.ensures c.in-Some.is)) in
    record { value = p.0; state_stands = p.1.0; opacity = p.1.1 }

pub returns-in_err-after_records : goal.returns-in_err-after_records
returns-in_err-after_records c =
    let e : c.from_residual.result ≡ Err c.in_err-after_records.field-0.0 = search rules in
    let p = told_by_value c.args.table.now c.args.t c.args.dur (e ∙ (rw (to_z-of_z w32 c.args.t c.ranges.t, to_z-of_z w32 c.args.dur c.ranges.dur) at (late c.apply_all-st.ensures c.in_default.is c.after_records.ensures c.in_err-after_records.was))) in
    record { value = p.0; state_stands = p.1.0; opacity = p.1.1 }

pub returns : goal.returns
returns c =
    let p = told_by_value c.args.table.now c.args.t c.args.dur (rw (to_z-of_z w32 c.args.t c.ranges.t, to_z-of_z w32 c.args.dur c.ranges.dur) at (stated c.apply_all-st.ensures c.in_default.is c.after_records.ensures c.in_ok-after_records.was)) in
    record { value = p.0; state_stands = p.1.0; opacity = p.1.1 }
