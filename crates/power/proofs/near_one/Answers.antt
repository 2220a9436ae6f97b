use Rattle.std.proofs.Common.{◌-◌, ◌∙◌, arith}
use Rattle.power.proofs.Law.{some_digits, near_step}
use Rattle.power.proofs.near_one.Goals as goal

pub loop-i-preserved-then-v-i-gt0 : goal.loop-i-preserved-then-v-i-gt0
loop-i-preserved-then-v-i-gt0 c =
    let l = c.loop-i in
    let g = c.first_root-first in
    let r = c.root-r in
    let first = near_step l.i _ l.r.digits g.result.root.digits l.p _ _ (some_digits l.i c.args.v (omega (arith, c.loop-i-test.true))) g.ensures.1 c.to_f32.ensures c.times_digit-p.ensures ∙ l.invariant.0 in (
      near_step (l.i - 1) _ g.result.root.digits r.result.digits c.times_digit-p.result _ _ (some_digits (l.i - 1) c.args.v (omega (arith, c.if-v-i-gt0.true))) r.ensures.1 c.to_f32-then-v-i-gt0.ensures c.times_digit-p-then-v-i-gt0.ensures ∙ first,
      omega arith,
    )
