use native.Mathlib.Omega.{arith}
use lib.Ieee.{of_bits}
use mir.Syntax.{w32}
use mir.ValLaws.{to_z-of_z}
use borrow.Author.Tests.{ne_eqb}
use Rattle.reset.proofs.Turns.{loop_done, loop_plain, loop_begun, loop_not_begun}
use Rattle.reset.proofs.+reset_tags.Goals.{then-factor, else-factor}
use Rattle.reset.proofs.+reset_tags.Goals as goal

-- reset_tags
-- an R
pub loop-left-preserved-in-41 : goal.loop-left-preserved-in-41
loop-left-preserved-in-41 t c =
    loop_plain c.loop-left.invariant c.loop-left-test.true c.record_at-r.ensures (λ h. omega (arith, c.in-41.is)) (rw (c.in-41.is, c.reset_of.ensures))

-- a T
pub loop-left-preserved-in-49 : goal.loop-left-preserved-in-49
unfolding of_bits
loop-left-preserved-in-49 t c =
    let l = c.loop-left.invariant in
    let h = c.loop-left-test.true in
    let i = c.record_at-r.ensures in
    elim c.if-factor.branch [
      | then-factor w ↦ rw w.reset-is (loop_begun l h i c.in-49.is c.min-n.ensures c.factor.ensures w.if-factor.true w.reset_tags-reset.ensures)
      | else-factor w ↦ rw w.reset-is (loop_not_begun l h i c.in-49.is c.min-n.ensures c.factor.ensures w.if-factor.false)
    ]

pub loop-left-preserved : goal.loop-left-preserved
loop-left-preserved t c =
    loop_plain c.loop-left.invariant c.loop-left-test.true c.record_at-r.ensures (λ h. grind arith) (rw (ne_eqb c.record_at-r.result.kind 41 (λ h. grind arith)))

pub returns : goal.returns
returns t c =
    rw (to_z-of_z w32 c.args.t c.ranges.t, to_z-of_z w32 c.args.dur c.ranges.dur) at (loop_done c.loop-left.invariant c.loop-left-test.false)
