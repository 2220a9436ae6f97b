use Rattle.hannuvel.proofs.Unpacked.{marking}
use mir.Syntax.{w32}
use mir.ValLaws.{to_z-of_z}
use borrow.Author.Rules.{rules}
use Rattle.hannuvel.proofs.hannuvel_next_mark.Goals as goal

pub returns : goal.returns
returns c =
    let e = rw (to_z-of_z w32 c.args.t c.ranges.t, to_z-of_z w32 c.args.duration c.ranges.duration) at c.next_mark.ensures in
    marking c.args.table.now c.args.t c.args.duration e.value c.packed.ensures (search rules) e.exact
