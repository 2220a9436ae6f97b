use Rattle.std.proofs.Common.{arith, ◌≡◌, sym, ap, ◌∙◌, ◌-◌, ◌≤◌, pos, min, nat_abs, negsuc}
use Rattle.std.proofs.lemmas.Int.{ints, to_z-of_z}
use mir.Syntax.{w32}
use mir.Val.{to_z, of_z}
use Rattle.state.specs.Apply.{from_zero_lem}
use Rattle.marks.specs.Marks.{ramp, after_in, least}
use Rattle.marks.specs.Inner.{most}
use Rattle.marks.proofs.After.{rise_capped, rise, fall, fad-early, fad-late}
use Rattle.marks.proofs.after_fad.Goals as goal
use Rattle.marks.proofs.after_fad.Goals.{After-least-next}

module _ (c : After-least-next) where
  now : to_z w32 (of_z w32 c.args.t) ≡ c.args.t
  now = to_z-of_z w32 c.args.t c.ranges.t

  d : to_z w32 (of_z w32 c.max-d.result) ≡ pos (from_zero_lem c.args.dur)
  d = grind (arith, ints)

  pub lasts : nat_abs (to_z w32 (of_z w32 c.max-d.result)) ≡ from_zero_lem c.args.dur
  lasts = ap nat_abs d

  small : from_zero_lem c.args.dur ≤ most
  small = grind (arith, ints)

  rises : to_z w32 c.min.result ≡ pos (min c.args.t1 most)
  rises = omega (arith, ints, c.min.ensures)

  falls : to_z w32 c.saturating_sub.result ≡ pos (from_zero_lem c.args.dur - c.args.t2)
  falls = omega (arith, ints, c.saturating_sub.ensures, lasts, small)

  pub both : c.least-next.result ≡ least (rise c.args.t c.args.dur c.args.t1 c.args.t2) (fall c.args.t c.args.dur c.args.t1 c.args.t2)
  both =
      c.least-next.ensures
      ∙ (λ i. least ((c.after_ramp-rise.ensures ∙ (λ j. after_in (now j) (ramp (pos 0) (rises j))) ∙ rise_capped c.args.t c.args.t1 c.requires) i) ((c.after_ramp-fall.ensures ∙ (λ j. after_in (now j) (ramp (falls j) (d j)))) i))

pub returns-then-lasts-t2 : goal.returns-then-lasts-t2
returns-then-lasts-t2 c =
    let l = (goal.at.returns-then-lasts-t2 c).After-least-next in
    c.least.ensures
    ∙ (λ i. least (both l i) ((c.after_ramp.ensures ∙ (λ j. after_in (now l j) (ramp (negsuc 0) (pos 1)))) i))
    ∙ sym (fad-early c.args.t c.args.dur c.args.t1 c.args.t2 (omega (arith, lasts l, c.if-lasts-t2.true)))

pub returns-else-lasts-t2 : goal.returns-else-lasts-t2
returns-else-lasts-t2 c =
    let l = (goal.at.returns-else-lasts-t2 c).After-least-next in
    both l ∙ sym (fad-late c.args.t c.args.dur c.args.t1 c.args.t2 (omega (arith, lasts l, c.if-lasts-t2.false)))
