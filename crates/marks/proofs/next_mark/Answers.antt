use mathlib.Core.Path.{◌≡◌, refl, sym, ap, ◌∙◌}
use Prim.Native.Nat.{◌≤◌}
use native.Mathlib.Nat.{lt_of_le_of_lt}
use lib.Dec.{lit≤}
use lib.IntN.{ℤ, pos, negsuc, nat_abs}
use lib.Signed.{◌<ℤ◌}
use borrow.Author.Tests.{lt-ltb}
use Rattle.std.proofs.Common.{arith}
use mir.Syntax.{w32}
use Rattle.std.specs.Prelude.{Err}
use Rattle.std.proofs.lemmas.Int.{to_z-of_z}
use Rattle.std.proofs.lemmas.Result.{err_from_is_err_and}
use Rattle.float.specs.Float.{reach}
use Rattle.table.specs.Ground.{call_ground}
use Rattle.table.proofs.Grounds.{good-fine, in_time-size}
use Rattle.marks.specs.Inner.{most}
use Rattle.marks.specs.Answer.{marked_to}
use Rattle.marks.proofs.Order.{lt_z_true}
use Rattle.marks.proofs.Told.{told}
use Rattle.marks.proofs.next_mark.Goals as goal
use Rattle.marks.proofs.next_mark.Goals.{After-check_call}

-- an instant in range is not the last one
below : (z : ℤ) → nat_abs z ≤ reach → z <ℤ pos most
below (pos n) h = lt_z_true (lt-ltb n most (lt_of_le_of_lt h (lit≤ tt)))
below (negsuc n) h = lt_z_true refl

found : (c : After-check_call) → c.check_call.result ≡ call_ground c.args.table.now c.args.t c.args.dur
found c = grind (arith, to_z-of_z)

pub next_after-requires : goal.next_after-requires
next_after-requires c =
    let k = found (goal.at.next_after-requires c).After-check_call in
    let g = good-fine c.args.table.now c.args.t c.args.dur (sym k ∙ c.in_ok-check_call.was) in
    rw (to_z-of_z w32 c.args.t c.ranges.t) (below c.args.t (in_time-size c.args.t g.instant))

pub returns-in_err-check_call : goal.returns-in_err-check_call
unfolding marked_to
returns-in_err-check_call c =
    let p = err_from_is_err_and c.from_residual.result c.from_residual.ensures.1 in
    let k = found (goal.at.returns-in_err-check_call c).After-check_call in
    let r = told c.args.table.now c.args.t c.args.dur c.from_residual.result (p.1 ∙ ap Err p.2 ∙ rw (sym k ∙ c.in_err-check_call.was)) in
    record { value = r.0; mark_stands = r.1.0; exact = r.1.1 }

pub returns : goal.returns
unfolding marked_to
returns c =
    let k = found (goal.at.returns c).After-check_call in
    let n = c.next_after.ensures in
    let r = told c.args.table.now c.args.t c.args.dur _ (rw (sym k ∙ c.in_ok-check_call.was, n, to_z-of_z w32 c.args.t c.ranges.t, to_z-of_z w32 c.args.dur c.ranges.dur)) in
    record { value = r.0; mark_stands = r.1.0; exact = r.1.1 }
