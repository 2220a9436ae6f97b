use Rattle.std.proofs.Common.{◌≡◌, T, sym, subst}
use lib.Ieee.{Float, binary32, div, of_bits, nan_bits}
use lib.Ieee.Positive.{positive}
use Rattle.float.proofs.Sign.{is-above, is_below}
use Rattle.root.proofs.Sign.{not-above, not-below, positive_of}
use Rattle.root.specs.Root.{sqrt, NearestRoot}
use Rattle.root.proofs.Law.{root_infinite, root_below, root-zero}
use Rattle.root.proofs.Nearest.{told}
use Rattle.root.proofs.sqrt_f32.Goals as goal
use Rattle.root.proofs.sqrt_f32.Goals.{Start}

-- the root of x, and so the nearest one
near : (c : Start) (r : Float) → r ≡ sqrt binary32 c.args.x → T (positive c.args.x) → NearestRoot c.args.x r
near c r e = (told c.args.x r (subst T (sym c.well_formed.0.1) tt) e).1

pub float_from_bits-t-4 : goal.float_from_bits-t-4
unfolding nan_bits
float_from_bits-t-4 c = tt

pub sqrt_positive-requires : goal.sqrt_positive-requires
unfolding of_bits
sqrt_positive-requires c = let x = c.args.x in positive_of x (is-above x c.if-x.true) c.if-x-2.true

pub returns-then-x-2 : goal.returns-then-x-2
returns-then-x-2 c = let e = c.sqrt_positive.ensures in record { value = e; nearest_root = near c.before.before.before _ e }

pub returns-else-x-2 : goal.returns-else-x-2
unfolding of_bits
returns-else-x-2 c =
    let s = c.before.before in
    let x = s.args.x in
    let e = root_infinite x (is-above x c.if-x.true) c.if-x-2.false in
    record { value = e; nearest_root = near s x e }

pub returns-then-x-3 : goal.returns-then-x-3
unfolding of_bits div
returns-then-x-3 c =
    let s = c.before.before in
    let x = s.args.x in
    let e = root_below x (is_below x c.if-x-3.true) in
    record { value = e; nearest_root = near s _ e }

pub returns-else-x-3 : goal.returns-else-x-3
returns-else-x-3 c =
    let s = c.before.before in
    let x = s.args.x in
    let e = root-zero x (not-above x c.if-x.false) (not-below x c.if-x-3.false) in
    record { value = e; nearest_root = near s x e }
