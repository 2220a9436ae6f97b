use mathlib.Core.Path.{◌≡◌, sym, ◌∙◌}
use Prim.Native.Nat.{◌+◌, ◌-◌, ◌<◌}
use native.Mathlib.Omega.{arith}
use borrow.Author.Rules.{rules}
use Rattle.plain.proofs.Keys.{key-end, key_go, room, five}
use Rattle.plain.proofs.key_of.Goals as goal

pub overflow_mul-key : goal.overflow_mul-key
overflow_mul-key c = omega (arith, five _ _ c.loop-i.invariant.0 (omega arith))

pub overflow_add-key : goal.overflow_add-key
overflow_add-key c = omega (arith, five _ _ c.loop-i.invariant.0 (omega arith))

pub loop-i-preserved : goal.loop-i-preserved
loop-i-preserved c =
    let b : c.lower.result < 256 = search rules in
    let e : c.loop-i.i + 1 - c.args.from ≡ c.loop-i.i - c.args.from + 1 = omega arith in
    rw (c.from.ensures, c.lower.ensures) (rw (e, ← c.lower.ensures) (room _ _ _ c.loop-i.invariant.0 b), c.loop-i.invariant.1 ∙ key_go _ _ _ _ (search rules))

pub returns : goal.returns
returns c = sym (c.loop-i.invariant.1 ∙ key-end _ _ _ _ (search rules))
