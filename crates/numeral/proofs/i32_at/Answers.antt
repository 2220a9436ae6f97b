use borrow.Author.Rules.{rules}
use Rattle.numeral.proofs.Laws.{i32_plus}
use Rattle.numeral.proofs.i32_at.Goals as goal

pub returns-then-past-a : goal.returns-then-past-a
returns-then-past-a c = rw (← c.trim_start-a.ensures.is, ← c.trim_end-b.ensures.is, ← i32_plus _ _ _ _ _ _ c.past-i.ensures.is c.past.ensures.is c.whole_number-v.ensures c.if-past-a.true) (let e = c.up_to.ensures in rw (← e) (search rules))
