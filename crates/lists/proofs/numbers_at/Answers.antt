use native.Mathlib.Omega.{arith}
use borrow.Author.Rules.{rules}
use Rattle.lists.proofs.Laws.{items_last, items_more, listing_turn, listing_end}
use Rattle.lists.proofs.numbers_at.Goals as goal

pub returns-then-c-e : goal.returns-then-c-e
returns-then-c-e c =
    let a = c.args in
    let l = c.loop-numbers in
    let s = c.span-c in
    let k = items_last a.text.now a.e l.i s.result l.invariant.1 s.ensures.is a.whole c.if-c-e.true s.ensures.high in
    rw c.push.ensures (listing_end (listing_turn (rw (k, ← c.item-n.ensures) at l.invariant.3)))

pub loop-numbers-preserved : goal.loop-numbers-preserved
loop-numbers-preserved c =
    let a = c.args in
    let l = c.loop-numbers in
    let s = c.span-c in
    let k = items_more a.text.now a.e l.i s.result l.invariant.1 s.ensures.is a.whole c.if-c-e.false in
    rw c.push.ensures (omega (arith, s.ensures.low), search rules, omega (arith, s.ensures.low), listing_turn (rw (k, ← c.item-n.ensures) at l.invariant.3))
