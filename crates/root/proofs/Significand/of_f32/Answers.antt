use Rattle.std.proofs.Common.{T, sym, subst}
use Rattle.root.proofs.Law.{part_of}
use Rattle.root.proofs.Significand.of_f32.Goals as goal

pub returns-then-x-eq126 : goal.returns-then-x-eq126
returns-then-x-eq126 c = rw c.from-digits.ensures (part_of c.args.x (subst T (sym c.well_formed.0.1) tt) c.if-x-eq126.true).1
