use mathlib.Core.Path.{ap}
use native.Mathlib.Omega.{arith}
use lib.ListN.{length}
use Rattle.std.proofs.Common.{rules}
use Rattle.karaoke.proofs.Beats.{none, fewer, over, steps}
use Rattle.karaoke.proofs.WalkIterator.next.Goals as goal

pub returns-then-self-eq0-clause-steps : goal.returns-then-self-eq0-clause-steps
returns-then-self-eq0-clause-steps c = let e = over _ _ _ (none _ _ c.args.self.now.counted c.if-self-eq0.true) in (e, e)

pub invariant_of-self : goal.invariant_of-self
invariant_of-self c = record { counted = fewer _ _ _ _ c.next_beat-at.ensures c.args.self.now.counted }

pub returns-clause-steps : goal.returns-clause-steps
returns-clause-steps c = rw (c.kind_of.ensures, c.saturating_add-end_ms.ensures, c.from.ensures, c.record_at-r.ensures) (steps c.args.self.now.start_ms _ _ _ c.next_beat-at.ensures)

pub returns-clause-goes : goal.returns-clause-goes
returns-clause-goes c =
    let e = ap length (returns-clause-steps c) in
    record { on = λ f. (tt, search rules, omega (arith, e)); keeps = tt; rests = λ f. tt }
