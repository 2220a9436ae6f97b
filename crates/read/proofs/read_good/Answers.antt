use mathlib.Core.Path.{◌≡◌, sym, ◌∙◌}
use Rattle.std.specs.Prelude.{Err}
use Rattle.refusal.proofs.Laws.{good-short}
use Rattle.read.proofs.Answer.{straight, refused, done}
use Rattle.read.proofs.Places.{straight_read}
use borrow.Author.Rules.{rules}
use Rattle.read.proofs.read_good.Goals as goal

pub parse_overrides_depth-o-requires : goal.parse_overrides_depth-o-requires
parse_overrides_depth-o-requires c = (search rules, search rules, good-short _ c.requires.2)

pub returns-then-straight : goal.returns-then-straight
returns-then-straight c =
    let p = c.requires in
    let f = c.straight.ensures c.if-straight.true in
    straight _ _ _ _ _ _ (straight_read _ _ _ (record { order = p.0; high = p.1 }) p.2 (rw c.min.ensures at f)) c.parse_overrides_depth-o.ensures

pub parse_overrides_depth-seen-requires : goal.parse_overrides_depth-seen-requires
parse_overrides_depth-seen-requires c = (search rules, search rules, good-short _ c.requires.2)

pub parse_overrides_depth-requires : goal.parse_overrides_depth-requires
parse_overrides_depth-requires c = (search rules, search rules, good-short _ c.requires.2)

pub returns-in_err-n : goal.returns-in_err-n
returns-in_err-n c =
    let z : c.from_residual.result ≡ Err c.in_err-n.field-0.0 = search rules in
    rw z (refused _ _ _ _ _ _ c.requires.2 c.parse_overrides_depth-seen.ensures _ (sym c.check_read.ensures ∙ c.in_err-n.was))

pub returns : goal.returns
returns c = done _ _ _ _ _ _ c.requires.2 c.parse_overrides_depth-seen.ensures _ _ _ _ (sym c.check_read.ensures ∙ c.in_ok-n.was) c.parse_overrides_depth.ensures
