use mathlib.Core.Path.{refl}
use native.Mathlib.Omega.{arith}
use mir.Syntax.{w32}
use mir.ValLaws.{to_z-of_z}
use Rattle.animate.proofs.controller.Goals as goal

-- a refused reading
pub returns-then-reading-gt0 : goal.returns-then-reading-gt0
returns-then-reading-gt0 c =
    let e = c.read_block-reading.ensures in
    let p = c.if-reading-gt0.true in
    record { reading = e; one = λ z. absurd (omega (arith, p, z)); other = λ z. absurd (omega (arith, p, z)); unasked = λ q. (refl, refl, refl, refl) }

pub returns : goal.returns
returns c =
    let e = c.read_block-reading.ensures in
    let p = c.if-reading-gt0.false in
    let w = c.words_in-n.ensures in
    record {
      reading = e;
      one = λ z. rw (w, to_z-of_z w32 c.args.t c.ranges.t, to_z-of_z w32 c.args.dur c.ranges.dur) at c.look-one.ensures;
      other = λ z. rw (w, to_z-of_z w32 c.args.u c.ranges.u, to_z-of_z w32 c.args.dur c.ranges.dur) at c.look-other.ensures;
      unasked = λ q. absurd (omega (arith, p, q));
    }
