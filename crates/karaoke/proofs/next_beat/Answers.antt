use mathlib.Core.Path.{sym, ap, ◌∙◌}
use native.Mathlib.Omega.{arith}
use borrow.Author.Rules.{rules}
use Rattle.tag.specs.declared.Record.{Record}
use Rattle.karaoke.proofs.Beats.{there, past-t, past-other}
use Rattle.karaoke.proofs.next_beat.Goals as goal

pub record_at-r-requires : goal.record_at-r-requires
record_at-r-requires c = let h = there _ _ _ c.loop-at.invariant c.requires in omega arith

pub returns-in-46 : goal.returns-in-46
returns-in-46 c =
    let i = c.loop-at.invariant in
    record { same = i; there = there _ _ _ i c.requires; is = ap (λ (r : Record). r.kind) (sym c.record_at-r.ensures) ∙ c.in-46.is }

pub loop-at-preserved-in-49 : goal.loop-at-preserved-in-49
loop-at-preserved-in-49 c = let h = there _ _ _ c.loop-at.invariant c.requires in past-t _ _ h _ c.record_at-r.ensures c.in-49.is ∙ c.loop-at.invariant

pub overflow_add-at-in_default : goal.overflow_add-at-in_default
overflow_add-at-in_default c = let h = there _ _ _ c.loop-at.invariant c.requires in search rules

pub loop-at-smaller : goal.loop-at-smaller
loop-at-smaller c = let h = there _ _ _ c.loop-at.invariant c.requires in omega arith

pub loop-at-preserved : goal.loop-at-preserved
loop-at-preserved c = let h = there _ _ _ c.loop-at.invariant c.requires in past-other _ _ h _ c.record_at-r.ensures (λ k. grind arith) (λ k. grind arith) ∙ c.loop-at.invariant
