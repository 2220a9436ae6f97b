-- What the words of a record stand for, in the code's words: nothing here is a promise to a caller.
use Rattle.std.specs.Prelude.{ℕ, ℤ, eqb, Float, Option}
use Rattle.scan.specs.Scan.{pick}
use Rattle.tag.specs.Tag.{plain, named}
use Rattle.tag.specs.Decode.{f, z, part_of}
use Rattle.state.specs.declared.Pair.{Pair}
use Rattle.state.specs.declared.Rgb.{Rgb}
use Rattle.state.specs.declared.Part.{Part}
use Rattle.state.specs.declared.Name.{Name}
use Rattle.state.specs.Mix.{mix_pair}
use Rattle.state.specs.Apply.{fade_alpha, alpha_to_mul, byte, pair, part, reset_of}

-- by how much \fade multiplies
abbrev pub fade_mul : ℕ → ℕ → ℕ → ℕ → ℕ → ℕ → ℕ → ℤ → Float
fade_mul w1 w2 w3 w4 w5 w6 w7 t = alpha_to_mul (fade_alpha (byte w1) (byte w2) (byte w3) (z w4) (z w5) (z w6) (z w7) t)

-- the place that \move has come to
abbrev pub moved_at : ℕ → ℕ → ℕ → ℕ → Float → Pair
moved_at w1 w2 w3 w4 k = mix_pair (pair (f w1) (f w2)) (pair (f w3) (f w4)) k

abbrev pub rgb_by : ℕ → ℕ → ℕ → Rgb
rgb_by w1 w2 w3 = record { red = byte w1; green = byte w2; blue = byte w3 }

abbrev pub name_by : ℕ → ℕ → ℕ → ℕ → Name
name_by w1 w2 w3 w4 = record { letters = part (part_of w1 w2); parameter = part (part_of w3 w4) }

-- \r
abbrev pub reset_by : ℕ → ℕ → ℕ → Option Part
reset_by w1 w2 w3 = reset_of (pick (eqb w1 0) plain (named (part_of w2 w3)))
