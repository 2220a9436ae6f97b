use borrow.Author.Rules.{rules}
use lib.Ieee.{of_bits}
use mir.Syntax.{w32}
use mir.Val.{SFits}
use Rattle.state.specs.Apply.{fad_alpha}
use Rattle.state.proofs.Zero.{from_zero}
use Rattle.apply.proofs.times.fad_alpha.Goals as goal

pub returns : goal.returns
unfolding fad_alpha of_bits
returns c =
    let x = c.ranges in
    let f : SFits w32 c.max-t.result = search rules in
    let g : SFits w32 c.max-dur.result = search rules in
    rw (c.clamp.ensures, c.fade_out.ensures, c.fade_in.ensures, from_zero _ _ x.dur g c.max-dur.ensures.value, from_zero _ _ x.t f c.max-t.ensures.value)
