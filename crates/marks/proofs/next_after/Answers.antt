use Rattle.std.proofs.Common.{sym, ap, ◌∙◌, ◌+◌, arith}
use Rattle.std.proofs.lemmas.Int.{to_z-of_z}
use mir.Syntax.{w32}
use mir.Val.{to_z, of_z}
use Rattle.std.specs.Prelude.{Option, ℤ}
use Rattle.tag.specs.declared.Record.{Record}
use Rattle.tag.specs.Decode.{decode_one}
use Rattle.marks.specs.Marks.{own_marks, least, first_after}
use Rattle.marks.proofs.Laws.{least-none, least_assoc}
use Rattle.marks.proofs.Walk.{from, from_more, from_end, from_start}
use Rattle.marks.proofs.next_after.Goals as goal

pub loop-at-init : goal.loop-at-init
loop-at-init c = from_start _ _ c.args.table.now

pub loop-at-preserved : goal.loop-at-preserved
loop-at-preserved c =
    let l = c.loop-at in
    let t = to_z w32 (of_z w32 c.args.t) in
    let dur = to_z w32 (of_z w32 c.args.dur) in
    let own = c.after_own.ensures ∙ ap (λ (r : Record). first_after t (own_marks dur (decode_one r))) c.record_at.ensures in
    ap (λ (m : Option ℤ). least m (from t dur c.args.table.now (l.at + 1))) (c.least-next.ensures ∙ ap (least l.next) own)
    ∙ least_assoc l.next _ _
    ∙ ap (least l.next) (sym (from_more t dur c.args.table.now l.at (omega arith)))
    ∙ l.invariant

pub returns : goal.returns
returns c = grind (arith, to_z-of_z, least-none, from_end)
