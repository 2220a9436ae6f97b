use Rattle.std.proofs.lemmas.Result.{err_from_is_err_and}
use mathlib.Core.Path.{sym}
use Rattle.drawing.proofs.Answering.{answered-text, answered-refused, answered-large}
use Rattle.drawing.proofs.parse_drawing.Goals as goal

pub returns-in_err-check_text : goal.returns-in_err-check_text
returns-in_err-check_text c =
    let p = err_from_is_err_and c.from_residual.result c.from_residual.ensures.1 in
    rw (p.1, p.2) (answered-text _ _ _ (sym c.in_err-check_text.ensures))

pub returns-in_err-check_tokens : goal.returns-in_err-check_tokens
returns-in_err-check_tokens c =
    let e = c.from_residual-in_err-check_tokens in
    let p = err_from_is_err_and e.result e.ensures.1 in
    rw (p.1, p.2) (answered-refused _ _ _ (sym c.in_ok-check_text.ensures) (sym c.in_err-check_tokens.ensures))

pub returns-then-exponent-gt-MOST_EXPONENT : goal.returns-then-exponent-gt-MOST_EXPONENT
returns-then-exponent-gt-MOST_EXPONENT c = answered-large _ _ _ (sym c.in_ok-check_text.ensures) c.if-exponent-gt-MOST_EXPONENT.true (sym c.in_ok-check_tokens.ensures)
