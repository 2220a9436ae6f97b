use mathlib.Core.Path.{◌≡◌, ◌∙◌}
use Prim.Native.Nat.{◌-◌}
use native.Mathlib.Omega.{arith}
use lib.Dec.{eqb}
use lib.ListN.{take, drop}
use Rattle.std.specs.Prelude.{count_by}
use borrow.Author.Rules.{rules}
use Rattle.survey.proofs.Laws.{slashes-counted}
use Rattle.survey.proofs.slashes.Goals as goal

pub returns : goal.returns
returns c =
    let h : c.count.result ≡ count_by (λ b. eqb b 92) (take (c.args.to - c.args.from) (drop c.args.from c.args.text.now)) = search rules in
    h ∙ slashes-counted _ _ _ (omega arith)
