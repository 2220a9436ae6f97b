-- What the code's own words stand for. Definitions only.
use Rattle.std.specs.Prelude.{◌≡◌, ℕ, ◌+◌, ◌*◌, ◌/◌, ◌%◌, ◌^◌, ◌<◌, ◌≤◌, false, Float}
use Rattle.std.specs.Float.{binary32}
use Rattle.std.specs.Float.Ieee.{units}
use Rattle.root.specs.Root.{sqrt}

-- An f32 above zero as a word of 23 binary digits and an exponent with room below the smallest, in squares of the smallest f32. Where the f32 has 24 digits these are its bits and 24 on the exponent.
abbrev pub wide : ℕ → ℕ
wide w = (w % 2 ^ 23 + 2 ^ 23) * 2 ^ (w / 2 ^ 23 + 124)

-- a number of 24 binary digits
abbrev pub Digits : ℕ → Type 0
Digits m = (2 ^ 23 ≤ m) × (m < 2 ^ 24)

-- m / 2 ^ 24: with 24 digits an f32 from 1/2 up to 1
abbrev pub part : ℕ → Float
part m = units binary32 false m 125

-- the digits r of the root of what has the digits m
abbrev pub RootDigits : ℕ → ℕ → Type 0
RootDigits m r = Digits r × (part r ≡ sqrt binary32 (part m))
