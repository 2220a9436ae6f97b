use Rattle.std.proofs.Common.{rules}
use Rattle.std.proofs.lemmas.Result.{err_from_is_err_and}
use Rattle.refusal.proofs.Laws.{good-short}
use Rattle.drawing.proofs.Answering.{answered-refused, straight_drawn, dry_full, dry_drawn}
use Rattle.drawing.proofs.draw_good.Goals as goal

pub straight-requires : goal.straight-requires
straight-requires c = (good-short _ c.requires.0, search rules)

pub draw-requires : goal.draw-requires
draw-requires c = good-short _ c.requires.0

pub returns-then-straight : goal.returns-then-straight
returns-then-straight c = straight_drawn _ _ _ c.requires.0 c.requires.1 c.scale_of-scale.ensures (search rules) _ (c.straight.ensures c.if-straight.true) c.draw.ensures

pub draw-requires-2 : goal.draw-requires-2
draw-requires-2 c = good-short _ c.requires.0

pub returns-in_err-needed : goal.returns-in_err-needed
returns-in_err-needed c =
    let p = err_from_is_err_and c.from_residual.result c.from_residual.ensures.1 in
    rw (p.1, p.2) (answered-refused _ _ _ c.requires.0 c.in_err-needed.ensures.ground)

pub returns-then-needed-places : goal.returns-then-needed-places
returns-then-needed-places c = dry_full _ _ _ c.requires.0 c.requires.1 c.scale_of-scale.ensures (search rules) c.in_ok-needed.ensures c.if-needed-places.true

pub draw-requires-else-needed-places : goal.draw-requires-else-needed-places
draw-requires-else-needed-places c = good-short _ c.requires.0

pub returns-else-needed-places : goal.returns-else-needed-places
returns-else-needed-places c = dry_drawn _ _ _ c.requires.0 c.requires.1 c.scale_of-scale.ensures (search rules) c.in_ok-needed.ensures _ c.if-needed-places.false c.draw-else-needed-places.ensures
