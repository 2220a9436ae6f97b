use mathlib.Core.Path.{◌≡◌, refl}
use Prim.Native.Nat.{ℕ, ◌-◌, ◌*◌, ◌%◌, ◌^◌, ◌≤◌, ◌<◌}
use native.Mathlib.Omega.{arith}
use native.Mathlib.Nat.{one-mul, mod-eq_of_lt}
use lib.Pow.{pow-lt}
use mathlib.Core.Logic.{⊎_elim}
use borrow.Author.Tests.{ne_eqb}
use Rattle.scan.proofs.Laws.{zero_or}
use lib.IntN.{pos}
use lib.Ieee.{Float, binary32, div, of_int, of_bits}
use Rattle.float.specs.Float.{one as f1}
use Rattle.pen.specs.Drawing.{scale_of}
use Rattle.drawing.proofs.scale_of.Goals as goal

-- the shift loses no bit
shifted : (e : ℕ) → e ≤ 31 → 1 * 2 ^ e % 4294967296 ≡ 2 ^ e
shifted e l =
    let b : 2 ^ e < 4294967296 = pow-lt {i = e} {j = 32} (omega arith) in
    rw one-mul (mod-eq_of_lt b)

scale-one : div binary32 f1 (of_int binary32 (pos 1)) ≡ f1
unfolding div of_int
scale-one = refl

scale-zero : (y : Float) → y ≡ of_int binary32 (pos (1 * 2 ^ (0 - 1) % 4294967296)) → div binary32 f1 y ≡ scale_of 0
unfolding scale_of
scale-zero y q = rw q scale-one

scale-some : (e : ℕ) (y : Float) → ¬ (e ≡ 0) → e ≤ 32 → y ≡ of_int binary32 (pos (1 * 2 ^ (e - 1) % 4294967296)) → div binary32 f1 y ≡ scale_of e
unfolding scale_of
scale-some e y h l q = let z = shifted (e - 1) (omega arith) in rw (ne_eqb e 0 h, q, z)

scale-is : (e : ℕ) (y : Float) → e ≤ 32 → y ≡ of_int binary32 (pos (1 * 2 ^ (e - 1) % 4294967296)) → div binary32 f1 y ≡ scale_of e
scale-is e y l q = ⊎_elim (λ z. rw z (scale-zero y (rw z at q))) (λ h. scale-some e y h l q) (zero_or e)

pub returns : goal.returns
unfolding of_bits
returns c = scale-is _ _ c.requires (rw c.saturating_sub.ensures at c.nearest_u32.ensures)
