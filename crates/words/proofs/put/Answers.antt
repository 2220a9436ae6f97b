use mathlib.Core.Path.{◌≡◌, sym, ap, ◌∙◌}
use borrow.Author.Rules.{rules}
use lib.ListN.{length}
use Rattle.words.proofs.Laws.{copied}
use Rattle.words.proofs.put.Goals as goal

pub returns : goal.returns
returns g c =
    let l : length c.words.result ≡ g.row.N = search rules in
    copied (g.T.Words.list c.args.x) (ap length (sym c.words.ensures) ∙ l) c.requires (c.copy_from_slice.ensures.after ∙ c.words.ensures)
