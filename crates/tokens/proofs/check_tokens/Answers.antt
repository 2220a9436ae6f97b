use Rattle.tokens.proofs.Following.{ground-end, ground-stop, ground_go}
use mathlib.Core.Path.{sym, ◌∙◌}
use Rattle.tokens.proofs.check_tokens.Goals as goal

pub returns-in-Refused : goal.returns-in-Refused
returns-in-Refused c = sym (c.loop-t.invariant.1 ∙ ground-stop _ c.in-Some.ensures c.in-Refused.is)

pub loop-t-preserved : goal.loop-t-preserved
loop-t-preserved c = let n = c.in-Some.ensures in (n.high, c.loop-t.invariant.1 ∙ ground_go n c.in_default-t.not-Refused)

pub returns : goal.returns
returns c = sym (c.loop-t.invariant.1 ∙ ground-end c.in_default.ensures)
