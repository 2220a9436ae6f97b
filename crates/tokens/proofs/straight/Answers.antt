use Rattle.std.proofs.Common.{arith}
use Rattle.tokens.proofs.straight.Goals as goal

pub returns-then-light : goal.returns-then-light
returns-then-light c h =
    let l = c.light.ensures c.if-light.true in
    record { few = omega (arith, l.few); good = l.good (c.plain.ensures h) }
