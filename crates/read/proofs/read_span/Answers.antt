use mathlib.Core.Path.{◌≡◌, sym, ◌∙◌}
use Rattle.std.specs.Prelude.{Err}
use Rattle.read.proofs.Answer.{text-refused}
use borrow.Author.Rules.{rules}
use Rattle.read.proofs.read_span.Goals as goal

pub returns-in_err-check_text : goal.returns-in_err-check_text
returns-in_err-check_text c =
    let z : c.from_residual.result ≡ Err c.in_err-check_text.field-0.0 = search rules in
    rw z (text-refused _ _ _ _ (sym c.check_text.ensures ∙ c.in_err-check_text.was))
