use mathlib.Core.Path.{sym}
use borrow.Author.Rules.{rules}
use Rattle.table.proofs.Grounds.{table_found}
use Rattle.table.proofs.check_table.Goals as goal

pub returns-in_err-fault : goal.returns-in_err-fault
returns-in_err-fault c = rw (sym (table_found _ _ _ c.min.ensures c.fault.ensures)) (search rules)

pub returns : goal.returns
returns c = rw (sym (table_found _ _ _ c.min.ensures c.fault.ensures)) (search rules)
