use Rattle.tokens.proofs.Words.{word_end, word_stop, word_go, passed_word}
use borrow.Author.Rules.{rules}
use mathlib.Core.Path.{sym, ◌∙◌}
use Rattle.tokens.proofs.token_end.Goals as goal

pub loop-k-init : goal.loop-k-init
loop-k-init c = let w = c.clear-k.ensures in (w.low, w.high, passed_word _ _ _ w)

pub returns-else-blank_at-eq0 : goal.returns-else-blank_at-eq0
returns-else-blank_at-eq0 c = let l = c.loop-k in (sym (l.invariant.2 ∙ word_stop _ _ _ (search rules) c.blank_at.ensures.0 c.if-blank_at-eq0.false), search rules, search rules)

pub loop-k-preserved : goal.loop-k-preserved
loop-k-preserved c = let l = c.loop-k in (search rules, search rules, l.invariant.2 ∙ word_go _ _ _ (search rules) c.blank_at.ensures.0 c.if-blank_at-eq0.true)

pub returns-after-loop-k : goal.returns-after-loop-k
returns-after-loop-k c = (sym (c.loop-k.invariant.2 ∙ word_end _ _ (search rules)), search rules, search rules)
