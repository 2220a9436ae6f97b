-- The earlier of two marks: with none it is the other, and of three it is the same however they are taken.
use mathlib.Core.Path.{◌≡◌, refl}
use lib.IntN.{ℤ}
use native.Mathlib.Omega.{arith}
use Rattle.std.specs.Prelude.{Option, Some, None}
use Rattle.std.proofs.lemmas.Int.{ints}
use Rattle.marks.specs.Marks.{least}

pub least-none : (m : Option ℤ) → least m None ≡ m
least-none None = refl
least-none (Some a) = refl

pub least_assoc : (a b c : Option ℤ) → least (least a b) c ≡ least a (least b c)
least_assoc None b c = refl
least_assoc (Some a) None c = refl
least_assoc (Some a) (Some b) None = grind (arith, ints)
least_assoc (Some a) (Some b) (Some c) = grind (arith, ints)
