-- How floats become whole numbers inside: what is above zero, without its sign. Definitions only.
use Rattle.std.specs.Prelude.{ℕ, ◌+◌, ◌*◌, ◌/◌, ◌^◌, min, cond, Float}
use Rattle.std.specs.Float.{nan, inf, fin}
use Rattle.std.specs.Float.Ieee.Positive.{num, den}

-- n / d cut down to a whole number, and to the nearest one, a half going up
abbrev pub whole_part : ℕ → ℕ → ℕ
whole_part n d = n / d

abbrev pub half_up : ℕ → ℕ → ℕ
half_up n d = (2 * n + d) / (2 * d)

-- a float as the whole number that `size` makes of it, at most 2 ^ 31; 0 of what is below zero and of a NaN
unfoldable pub whole_by : (ℕ → ℕ → ℕ) → Float → ℕ
whole_by size nan = 0
whole_by size (inf s) = cond s 0 (2 ^ 31)
whole_by size (fin s m e) = cond s 0 (min (size (num (fin s m e)) (den (fin s m e))) (2 ^ 31))
