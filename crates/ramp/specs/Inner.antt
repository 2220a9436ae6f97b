-- How far the times of \move and \t have come, as the words of a record say them.
use Rattle.std.specs.Prelude.{ℕ, ℤ, Float}
use Rattle.tag.specs.Decode.{times_of}
use Rattle.state.specs.Mix.{advance, start_of, end_of}

abbrev pub advance_by : ℕ → ℕ → ℕ → ℤ → ℤ → Float
advance_by flag a b t dur = let x = times_of flag a b in advance (start_of x) (end_of x dur) t
