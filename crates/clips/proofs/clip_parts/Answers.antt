use Rattle.std.proofs.Common.{arith, rules, sym, ◌∙◌}
use Rattle.clips.proofs.Clipping.{max_one, clip_bare, clip-some, clip-large, clip-none}
use Rattle.clips.proofs.clip_parts.Goals as goal

pub returns-then-past-from : goal.returns-then-past-from
returns-then-past-from c = record { is = clip_bare _ c.trim_start-from.ensures.is (sym c.past.ensures.is ∙ c.if-past-from.true); places = search rules }

pub returns-then-comma-to : goal.returns-then-comma-to
returns-then-comma-to c = record { is = clip-none _ c.trim_start-from.ensures.is c.comma_at-comma.ensures.is (omega (arith, c.if-comma-to.true)); places = search rules }

pub returns-in-Ok : goal.returns-in-Ok
returns-in-Ok c =
    let e = c.in-Ok.ensures in
    let k = c.max.ensures ∙ max_one c.in-Ok.scale in
    record {
      is = clip-some _ c.trim_start-from.ensures.is c.comma_at-comma.ensures.is c.trim_end.ensures.is c.whole_number-n.ensures (omega (arith, c.comma_at-comma.ensures.high, c.if-comma-to.false)) e.0 c.trim_start.ensures.is (rw e.1 at k);
      places = search rules;
    }

pub returns-in-Err : goal.returns-in-Err
returns-in-Err c =
    record {
      is = clip-large _ c.trim_start-from.ensures.is c.comma_at-comma.ensures.is c.trim_end.ensures.is c.whole_number-n.ensures (omega (arith, c.comma_at-comma.ensures.high, c.if-comma-to.false)) (omega (arith, c.in-Err.ensures));
      places = search rules;
    }
