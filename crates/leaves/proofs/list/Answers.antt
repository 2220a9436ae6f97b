use mathlib.Core.Path.{◌∙◌}
use Rattle.leaves.proofs.Laws.{listed-long, listed-few, listed-laid}
use Rattle.leaves.proofs.list.Goals.{then-out-ge8, else-out-ge8}
use Rattle.leaves.proofs.list.Goals as goal

pub returns-then-n-gt12288 : goal.returns-then-n-gt12288
returns-then-n-gt12288 c =
    let a = c.args in
    let told = listed-long a.whole a.text.now a.out.now c.if-n-gt12288.true in
    record { value = told.0; out_after = told.1 }

pub returns : goal.returns
returns c =
    let a = c.args in
    let n = c.numbers_at-l in
    elim c.if-out-ge8.branch [
      | then-out-ge8 w ↦ let told = listed-laid a.whole a.text.now a.out.now n.result c.packed_list.result c.if-n-gt12288.false n.ensures c.packed_list.ensures w.packed_place.result c.if-out-ge8.out w.if-out-ge8.true w.packed_place.ensures (w.out-is ∙ w.lay.ensures) in record { value = told.0; out_after = told.1 }
      | else-out-ge8 w ↦ let told = listed-few a.whole a.text.now a.out.now n.result c.packed_list.result c.if-n-gt12288.false n.ensures c.packed_list.ensures w.if-out-ge8.false in record { value = told.0; out_after = w.out-is ∙ told.1 }
    ]
