-- What the inner functions say, in the code's words: nothing here is a promise to a caller.
use Rattle.std.specs.Prelude.{◌≡◌, List, ℕ, ◌+◌, ◌-◌, ◌≤◌, ◌<◌}
use Rattle.numeral.specs.declared.Decimal.{Decimal}
use Rattle.numeral.specs.declared.Numeral.{Numeral}
use Rattle.numeral.specs.Numeral.{split_at, digits_of, float_of, power_float_of, with_exponent, word_of_f32}
use Rattle.numeral.specs.Spelled.{as_spelled}

-- the digits of a numeral and the order of their places
pub record Split (s : List ℕ) (a b : ℕ) (d : Decimal) : Type 0 where
  pub is : d ≡ split_at s a b
  pub low : a ≤ d.from
  pub whole-low : d.from ≤ d.whole
  pub fraction-low : d.whole ≤ d.fraction
  pub end_low : d.fraction ≤ d.end
  pub high : d.end ≤ b

-- i is the place behind the digits of the numeral that starts at a, of which w stand before the point and f behind it, and if these are few `digits` is
-- the number that they write
pub record Counted (s : List ℕ) (a b i w f digits : ℕ) : Type 0 where
  pub end : i ≡ (split_at s a b).end
  pub high : i ≤ b
  pub whole : w ≡ (split_at s a b).whole - (split_at s a b).from
  pub whole-high : w ≤ b
  pub fraction : f ≡ (split_at s a b).end - (split_at s a b).fraction
  pub fraction-high : f ≤ b
  pub some : 0 < w + f
  pub few : w ≤ 9 → f ≤ 9 → digits ≡ digits_of s (split_at s a b)

-- what the digits at d say with the exponent behind them: as the number written out, as digits times a power, and as the text written out says
pub record Says (s : List ℕ) (a b : ℕ) (d : Decimal) (r : Numeral) : Type 0 where
  pub out : r ≡ word_of_f32 (with_exponent s a b d (float_of s a b d))
  pub power : r ≡ word_of_f32 (with_exponent s a b d (power_float_of s a b d))
  pub text : r ≡ word_of_f32 (as_spelled s a b d)
