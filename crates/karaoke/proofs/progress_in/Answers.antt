use Rattle.std.proofs.Common.{arith, ◌≡◌, ◌∙◌, nat_abs}
use Rattle.std.proofs.lemmas.Int.{ints}
use mir.Syntax.{w32}
use mir.Val.{to_z, of_z}
use Rattle.state.specs.Apply.{from_zero_lem}
use Rattle.karaoke.proofs.Passing.{up_to-start, from_end, within}
use Rattle.karaoke.proofs.progress_in.Goals as goal

pub returns-then-now-start : goal.returns-then-now-start
returns-then-now-start c = let n : nat_abs (to_z w32 (of_z w32 c.max-now.result)) ≡ from_zero_lem c.args.t = grind (arith, ints) in up_to-start _ _ _ _ n c.if-now-start.true

pub returns-then-end-now : goal.returns-then-end-now
returns-then-end-now c = let n : nat_abs (to_z w32 (of_z w32 c.max-now.result)) ≡ from_zero_lem c.args.t = grind (arith, ints) in from_end _ _ _ _ n c.if-now-start.false c.if-end-now.true

pub returns-else-end-now : goal.returns-else-end-now
returns-else-end-now c = let n : nat_abs (to_z w32 (of_z w32 c.max-now.result)) ≡ from_zero_lem c.args.t = grind (arith, ints) in c.quotient.ensures ∙ within _ _ _ _ n c.if-now-start.false c.if-end-now.false
