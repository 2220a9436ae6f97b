use borrow.Author.Tests.{lt-leb, le-leb, eq-eqb, ne_eqb}
use Rattle.table.proofs.Grounds.{excess-places}
use Rattle.table.proofs.excess.Goals as goal

pub returns-then-places-gt1024 : goal.returns-then-places-gt1024
returns-then-places-gt1024 c = rw (excess-places _, lt-leb _ _ c.if-places-gt1024.true)

pub returns-then-table-eq0 : goal.returns-then-table-eq0
returns-then-table-eq0 c = rw (excess-places _, le-leb _ _ c.if-places-gt1024.false, eq-eqb _ _ c.if-table-eq0.true)

pub returns-else-table-eq0 : goal.returns-else-table-eq0
returns-else-table-eq0 c = rw (excess-places _, le-leb _ _ c.if-places-gt1024.false, ne_eqb _ _ c.if-table-eq0.false)
