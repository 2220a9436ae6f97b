-- How far an instant is on its way from one to another: strictly between them, within 0 to 1.
use mathlib.Core.Path.{◌≡◌}
use mathlib.Core.Bool.{false, true≢false}
use Prim.Native.Nat.{◌^◌, ◌≤◌, ◌<◌}
use native.Mathlib.Omega.{arith}
use lib.IntN.{ℤ, pos, negsuc, ◌-ℤ◌}
use lib.Signed.{le_z}
use borrow.Author.Tests.{leb-false}
use Rattle.float.proofs.Unit.{Unit, unit-quotient}
use Rattle.state.specs.Mix.{quotient}
use Rattle.ramp.proofs.Ints.{dist, dist_is, not_le, le_le}

-- the way to it is a part of the whole way
pub way : (a t b : ℤ) → le_z t a ≡ false → le_z b t ≡ false → (dist a t ≤ dist a b) × (0 < dist a b)
way (pos a) (pos t) (pos b) h k = let x = leb-false t a h in let y = leb-false b t k in (omega arith, omega arith)
way (pos a) (pos t) (negsuc b) h k = absurd (true≢false k)
way (pos a) (negsuc t) b h k = absurd (true≢false h)
way (negsuc a) (pos t) (pos b) h k = let y = leb-false b t k in (omega arith, omega arith)
way (negsuc a) (pos t) (negsuc b) h k = absurd (true≢false k)
way (negsuc a) (negsuc t) (pos b) h k = let x = leb-false a t h in (omega arith, omega arith)
way (negsuc a) (negsuc t) (negsuc b) h k = let x = leb-false a t h in let y = leb-false t b k in (omega arith, omega arith)

pub unit-between : (a t b : ℤ) → le_z t a ≡ false → le_z b t ≡ false → dist a t ≤ 2 ^ 64 → Unit (quotient (t -ℤ a) (b -ℤ a))
unfolding quotient
unit-between a t b h k n =
    let w = way a t b h k in
    rw (dist_is a t (not_le t a h), dist_is a b (le_le a t b (not_le t a h) (not_le b t k))) (unit-quotient (dist a t) (dist a b) w.1 w.0 n)
