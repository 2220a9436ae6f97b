use Rattle.tokens.proofs.Following.{tail-end, tail-stop, tail-refused, tail_go}
use mathlib.Core.Path.{sym, ◌∙◌}
use Rattle.tokens.proofs.tail_ground.Goals as goal

pub returns-in-Letter : goal.returns-in-Letter
returns-in-Letter c = sym (c.loop-t.invariant.1 ∙ tail-stop _ c.in-Some.ensures c.in-Letter.is)

pub returns-in-Refused : goal.returns-in-Refused
returns-in-Refused c = sym (c.loop-t.invariant.1 ∙ tail-refused _ c.in-Some.ensures c.in-Refused.is)

pub loop-t-preserved : goal.loop-t-preserved
loop-t-preserved c = let n = c.in-Some.ensures in (n.high, c.loop-t.invariant.1 ∙ tail_go n c.in_default-t.not-Letter c.in_default-t.not-Refused)

pub returns : goal.returns
returns c = sym (c.loop-t.invariant.1 ∙ tail-end c.in_default.ensures)
