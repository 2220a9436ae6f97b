use mathlib.Core.Path.{refl, sym}
use mir.Syntax.{w32}
use mir.ValLaws.{to_z-of_z}
use Rattle.state.specs.Apply.{evaluate_at}
use Rattle.state.specs.State.{identity}
use Rattle.evaluators.specs.Inner.{tags_at}
use Rattle.reset.proofs.reset_left.Goals as goal

pub returns : goal.returns
unfolding evaluate_at identity tags_at
returns c =
    let s = c.before.before in
    sym (rw (to_z-of_z w32 s.args.t s.ranges.t, to_z-of_z w32 s.args.dur s.ranges.dur) at (c.reset_tags.ensures identity refl))
