-- Worked examples, by computation.
use Rattle.std.specs.Prelude.{◌≡◌, refl, true, false}
use Rattle.std.specs.Float.Ieee.{round, to_bits}
use Rattle.decimal.specs.Decimal.{decimal_word}

-- 0.1
tenth : decimal_word false 1 1 ≡ 0x3DCCCCCD
unfolding round to_bits
tenth = refl

-- -2.50 and -0
minus_two_and_a_half : decimal_word true 250 2 ≡ 0xC0200000
unfolding round to_bits
minus_two_and_a_half = refl

minus_zero : decimal_word true 0 0 ≡ 0x80000000
unfolding round to_bits
minus_zero = refl

-- 16777217 and 16777219 lie half way between two values, and go to the even ones: 16777216 and 16777220
tie_down : decimal_word false 16777217 0 ≡ 0x4B800000
unfolding round to_bits
tie_down = refl

tie_up : decimal_word false 16777219 0 ≡ 0x4B800002
unfolding round to_bits
tie_up = refl

-- the longest numerals: 999999999.999999999 rounds to 1,000,000,000, and 0.000000001
largest : decimal_word false 999999999999999999 9 ≡ 0x4E6E6B28
unfolding round to_bits
largest = refl

smallest : decimal_word false 1 9 ≡ 0x3089705F
unfolding round to_bits
smallest = refl
