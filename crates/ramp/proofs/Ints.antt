-- Signed numbers of 32 bits as the code reads them: tests, distances.
use Prim.Native.Nat.{ℕ, suc, ◌+◌, ◌-◌}
use native.Mathlib.Omega.{arith}
use Rattle.std.proofs.lemmas.Int.{ints}
use mathlib.Core.Path.{◌≡◌}
use mathlib.Core.Bool.{Bool, true, false}
use lib.IntN.{ℤ, pos, negsuc, ◌-ℤ◌}
use lib.Signed.{le_z}
use mir.Syntax.{w32}
use mir.Val.{SFits, to_z, of_z}
use mir.ValLaws.{to_z-of_z}

abbrev pub dist : ℤ → ℤ → ℕ
dist (pos a) (pos b) = b - a
dist (pos a) (negsuc b) = 0
dist (negsuc a) (pos b) = b + suc a
dist (negsuc a) (negsuc b) = a - b

pub dist_is : (lo hi : ℤ) → le_z lo hi ≡ true → hi -ℤ lo ≡ pos (dist lo hi)
dist_is (pos a) (pos b) h = grind (arith, ints)
dist_is (pos a) (negsuc b) h = grind (arith, ints)
dist_is (negsuc a) (pos b) h = grind (arith, ints)
dist_is (negsuc a) (negsuc b) h = grind (arith, ints)

-- the tests on signed numbers, turned round
pub not_le : (a b : ℤ) → le_z a b ≡ false → le_z b a ≡ true
not_le a b h = grind (arith, ints)

pub le_le : (a b c : ℤ) → le_z a b ≡ true → le_z b c ≡ true → le_z a c ≡ true
le_le a b c h k = grind (arith, ints)

-- what a test on two signed numbers says
pub told : (q : ℤ → ℤ → Bool) {a b : ℤ} {v : Bool} → SFits w32 a → SFits w32 b → q (to_z w32 (of_z w32 a)) (to_z w32 (of_z w32 b)) ≡ v → q a b ≡ v
told q {a} {b} f g h = rw (to_z-of_z w32 a f, to_z-of_z w32 b g) at h

pub seen : {a : ℤ} → SFits w32 a → to_z w32 (of_z w32 a) ≡ a
seen {a} f = to_z-of_z w32 a f
