use mir.Syntax.{w32}
use mir.ValLaws.{to_z-of_z}
use Rattle.animate.proofs.Agree.{take-least}
use Rattle.animate.proofs.look.Goals as goal

pub returns : goal.returns
returns c =
    let s = c.before.before.before.before.before.before in
    let m = c.min.result in
    let k = take-least s.args.n m s.args.table.now c.min.ensures in
    record {
      state = rw (to_z-of_z w32 s.args.t s.ranges.t, to_z-of_z w32 s.args.dur s.ranges.dur, k) at c.hannuvel_evaluate_at-evaluated.ensures;
      next = rw (to_z-of_z w32 s.args.t s.ranges.t, to_z-of_z w32 s.args.dur s.ranges.dur, k) at c.hannuvel_next_mark-next.ensures;
    }
