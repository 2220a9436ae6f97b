use mathlib.Core.Path.{sym, ◌∙◌}
use native.Mathlib.Omega.{arith}
use lib.ListN.{get_or}
use borrow.Author.Tests.{lt-ltb}
use Rattle.scan.specs.Inner.{Passed}
use Rattle.scan.specs.Scan.{below}
use Rattle.scan.proofs.Laws.{passed-span, span-end}
use borrow.Author.Rules.{rules}
use Rattle.scan.proofs.below.Goals as goal

pub returns-then-highest-x : goal.returns-then-highest-x
returns-then-highest-x c =
    let a = c.args in
    let h = c.highest.ensures in
    let p = below a.x in
    let w : Passed p a.text.now a.from a.to a.to = record { low = search rules; high = search rules; all = λ j l m. lt-ltb (get_or a.text.now j 0) a.x (omega (arith, h j l m)) } in
    record { is = sym (passed-span p _ _ _ _ w ∙ span-end p _ _ _ (search rules)); low = search rules; high = search rules }
