use borrow.Author.Rules.{rules}
use Rattle.read.proofs.Seen.{plain_word}
use Rattle.read.proofs.plain_tag.Goals as goal

pub keep-requires : goal.keep-requires
keep-requires c = (search rules, plain_word _ _ _ _ _ _ _ (search rules) (search rules) (search rules) c.plain_at-k.ensures)
