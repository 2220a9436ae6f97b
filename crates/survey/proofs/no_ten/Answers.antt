use mathlib.Core.Path.{◌≡◌}
use mathlib.Core.Bool.{true}
use Prim.Native.Nat.{◌-◌, ◌≤◌}
use native.Mathlib.Omega.{arith}
use lib.ListN.{get_or}
use Rattle.scan.specs.Scan.{span_to, back_to}
use Rattle.numeral.specs.Numeral.{is_digit}
use Rattle.survey.proofs.Laws.{ten_more}
use Rattle.survey.proofs.no_ten.Goals as goal
use Rattle.survey.proofs.no_ten.Goals.{else-has-via-then-has+else-run_around-gt-MOST_DIGITS, else-has-via-else-has}

pub loop-k-preserved : goal.loop-k-preserved
loop-k-preserved c =
    let a = c.args in
    let k = c.loop-k.k in
    let look : is_digit (get_or a.text.now k 0) ≡ true → span_to is_digit a.text.now k a.to - back_to is_digit a.text.now a.from k ≤ 9 = elim c.else-has.branch [
      | else-has-via-then-has+else-run_around-gt-MOST_DIGITS w ↦ λ _. rw (← w.run_around.ensures) w.if-run_around-gt-MOST_DIGITS.false
      | else-has-via-else-has w ↦ λ h. absurd (cc)
    ] in
    λ j l b d t. ten_more _ _ _ _ (omega arith) look c.loop-k.invariant j l (omega arith) d t

pub returns-else-has : goal.returns-else-has
returns-else-has c =
    let a = c.args in
    let k = c.loop-k.k in
    let look : is_digit (get_or a.text.now k 0) ≡ true → span_to is_digit a.text.now k a.to - back_to is_digit a.text.now a.from k ≤ 9 = elim c.else-has.branch [
      | else-has-via-then-has+else-run_around-gt-MOST_DIGITS w ↦ λ _. rw (← w.run_around.ensures) w.if-run_around-gt-MOST_DIGITS.false
      | else-has-via-else-has w ↦ λ h. absurd (cc)
    ] in
    λ q j l d t. ten_more _ _ _ _ (omega arith) look c.loop-k.invariant j l (omega arith) d t
