use Rattle.std.proofs.Common.{◌≡◌, ◌*◌, ◌^◌, ◌<◌, T, sym, ap, ◌∙◌, subst, arith}
use lib.Ieee.{binary32, to_bits, fits}
use Rattle.root.proofs.Bits.{not-nan, below_sign}
use Rattle.root.specs.Root.{root_units, square_units}
use Rattle.root.specs.Inner.{wide}
use Rattle.root.proofs.Law.{start-high, small-value, some_bits, wide-bits, sqrt-is}
use Rattle.root.proofs.sqrt_positive.Goals as goal
use Rattle.root.proofs.sqrt_positive.Goals.{Joined-b-lt8388608, Start, then-b-lt8388608, else-b-lt8388608}

fit : (c : Start) → T (fits binary32 c.args.x)
fit c = subst T (sym c.well_formed.0.1) tt

high : (c : Start) → to_bits binary32 c.args.x < 2 ^ 31
high c = below_sign c.args.x (fit c) c.requires

-- what w is where the two arms meet
word : (c : Joined-b-lt8388608) → (wide c.if-b-lt8388608.w ≡ square_units binary32 c.args.x) × (c.if-b-lt8388608.w < 286 * 2 ^ 23)
word c =
    let s = c.before in
    let x = s.args.x in
    elim c.if-b-lt8388608.branch [
      | then-b-lt8388608 h ↦ (ap wide h.w-is ∙ h.lengthened-w.ensures.0 ∙ small-value x (fit s) s.requires h.if-b-lt8388608.true, omega (arith, h.w-is, h.lengthened-w.ensures.1))
      | else-b-lt8388608 h ↦ (wide-bits (to_bits binary32 x) c.if-b-lt8388608.w h.w-is ∙ (start-high x (fit s) s.requires (omega (arith, h.if-b-lt8388608.false))).0, omega (arith, h.w-is, high s))
    ]

pub float_to_bits-b : goal.float_to_bits-b
float_to_bits-b c = not-nan c.args.x c.requires

pub lengthened-w-requires : goal.lengthened-w-requires
lengthened-w-requires c = let s = c.before in (some_bits s.args.x (fit s) s.requires c.if-b-lt8388608.true, c.if-b-lt8388608.true)

pub overflow_add-w : goal.overflow_add-w
overflow_add-w c = record { fits = omega (arith, high c.before) }

pub root_of-requires : goal.root_of-requires
root_of-requires c = (word c).1

pub returns : goal.returns
returns c =
    let s = c.before.before in
    c.root_of.ensures ∙ ap (root_units binary32) (word c.before).0 ∙ sym (sqrt-is s.args.x s.requires)
