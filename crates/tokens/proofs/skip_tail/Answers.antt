use Rattle.tokens.proofs.Following.{until_end, until_stop, until_go}
use Rattle.std.proofs.Common.{arith, rules}
use mathlib.Core.Path.{sym, ◌∙◌}
use Rattle.tokens.proofs.skip_tail.Goals as goal

pub returns-in-Letter : goal.returns-in-Letter
returns-in-Letter c = record { is = sym (c.loop-t.invariant.2 ∙ until_stop _ c.in-Some.ensures c.in-Letter.is); low = search rules; high = search rules }

pub loop-t-preserved : goal.loop-t-preserved
loop-t-preserved c = let n = c.in-Some.ensures in (omega (arith, n.low), n.high, c.loop-t.invariant.2 ∙ until_go n c.in_default-t.not-Letter)

pub returns : goal.returns
returns c = record { is = sym (c.loop-t.invariant.2 ∙ until_end c.in_default.ensures); low = search rules; high = search rules }
