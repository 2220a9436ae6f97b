-- Milliseconds from 0 on, as `t.max(0) as u32` gives them.
use native.Mathlib.Omega.{arith}
use mathlib.Core.Path.{◌≡◌}
use lib.IntN.{ℤ, pos, negsuc, nat_abs}
use mir.Syntax.{w32}
use mir.Val.{SFits, to_z, of_z}
use mir.ValLaws.{to_z-of_z}
use Rattle.std.proofs.Common.{refl}
use Rattle.std.specs.Int.{int_max}
use Rattle.std.proofs.lemmas.Int.{ints, clamps}
use Rattle.state.specs.Apply.{from_zero_lem}

max_is : (t : ℤ) → int_max t (pos 0) ≡ pos (from_zero_lem t)
max_is (pos n) = grind (arith, ints, clamps)
max_is (negsuc n) = refl

pub from_zero : (t m : ℤ) → SFits w32 t → SFits w32 m → m ≡ int_max (to_z w32 (of_z w32 t)) (pos 0) → nat_abs (to_z w32 (of_z w32 m)) ≡ from_zero_lem t
from_zero t m f g e = let h = rw (to_z-of_z w32 t f, max_is) at e in rw (to_z-of_z w32 m g, h)
