use Rattle.std.proofs.Common.{rules, arith}
use Rattle.std.proofs.lemmas.Result.{err_from_is_err_and}
use mathlib.Core.Path.{◌∙◌}
use Rattle.path.proofs.Emitting.{emits_none, emits-length}
use Rattle.pen.proofs.Counting.{left_end}
use Rattle.tokens.proofs.Following.{ground-end}
use Rattle.machine.proofs.Grounds.{ground-turned, ground_stopped}
use Rattle.machine.proofs.Turning.{going_on, drawn-kept}
use Rattle.machine.proofs.draw.Goals as goal

pub returns-in_err-turn_ground : goal.returns-in_err-turn_ground
returns-in_err-turn_ground c =
    let p = err_from_is_err_and c.from_residual.result c.from_residual.ensures.1 in
    rw (p.1, p.2) (record { ground = c.loop-t.invariant.ground ∙ ground_stopped c.args.scale c.loop-t.stroke.pen c.in-Some.ensures c.in_err-turn_ground.ensures; same = search rules })

pub loop-t-preserved : goal.loop-t-preserved
loop-t-preserved c =
    let l = c.loop-t.invariant in
    let n = c.in-Some.ensures in
    let w = c.turn-at.ensures in
    record {
      same = w.path.same ∙ l.same;
      place = w.high;
      few = omega (arith, w.few, w.low, n.low, l.few);
      kept = emits-length w.path.emits ∙ l.kept;
      left = λ v m e. l.left v m (going_on _ _ n w e);
      ground = l.ground ∙ ground-turned c.args.scale c.loop-t.stroke.pen n _ c.in_ok-turn_ground.ensures w.rest;
    }

pub returns : goal.returns
returns c =
    let l = c.loop-t.invariant in
    let e = c.in_default.ensures in
    drawn-kept {u = c.loop-t.stroke.words.now} (search rules)
    (record {
      good = l.ground ∙ ground-end e;
      emits = l.left _ _ (rw (left_end c.args.scale c.loop-t.stroke.pen _ e) (emits_none _ _));
      few = omega (arith, l.few, l.place);
      same = l.kept;
    })
