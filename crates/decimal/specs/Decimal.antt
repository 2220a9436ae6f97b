-- The value of a numeral. Definitions only.
use Rattle.std.specs.Prelude.{ℕ, ◌^◌, Bool, Float}
use Rattle.std.specs.Float.{binary32}
use Rattle.std.specs.Float.Ieee.{round, to_bits}

-- 01, Numerals: "nearest f32, ties to even". The numeral has the digits of `digits`, the last `tens` of them after the point.
abbrev pub decimal : Bool → ℕ → ℕ → Float
decimal negative digits tens = round binary32 negative digits (10 ^ tens)

-- 01, A table record: "f32 as its bits"
abbrev pub decimal_word : Bool → ℕ → ℕ → ℕ
decimal_word negative digits tens = to_bits binary32 (decimal negative digits tens)
