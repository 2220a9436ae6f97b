-- A mark that is an i32, as a word.
use mathlib.Core.Path.{◌≡◌}
use Prim.Native.Nat.{◌^◌, ◌<◌}
use native.Mathlib.Nat.{lt_trans, mod-eq_of_lt}
use native.Mathlib.Omega.{arith}
use lib.Dec.{lit<}
use lib.IntN.{ℤ, pos, negsuc}
use mir.Syntax.{w32}
use mir.Val.{SFits}
use Rattle.float.specs.Float.{to_word}
use Rattle.hannuvel.specs.Inner.{packed, Signed}

pub fits_signed : (a : ℤ) → SFits w32 a → Signed a
fits_signed (pos n) f = f.sfits
fits_signed (negsuc n) f = f.sfits

pub signed-fits : (a : ℤ) → Signed a → SFits w32 a
signed-fits (pos n) h = record { sfits = h }
signed-fits (negsuc n) h = record { sfits = h }

-- in two's complement it is a word
pub word_small : (a : ℤ) → Signed a → to_word a < 2 ^ 32
word_small (pos n) h = lt_trans h (lit< tt)
word_small (negsuc n) h = omega arith

pub word_packed : (a : ℤ) → Signed a → to_word a ≡ packed 0 0 (to_word a)
word_packed a h = rw (mod-eq_of_lt {n = to_word a} {m = 2 ^ 32} (word_small a h)) (omega arith)
