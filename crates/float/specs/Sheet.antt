-- Worked examples, by computation.
use Rattle.std.specs.Prelude.{◌≡◌, true, false, pos, negsuc, refl}
use Rattle.std.specs.Float.{nan, inf, fin, binary32}
use Rattle.std.specs.Float.Ieee.{round, of_bits, to_bits, of_int, to_signed, to_unsigned, le}
use Rattle.decimal.specs.Decimal.{decimal}
use Rattle.float.specs.Float.{zero, one, max_zero, clamp, InUnit, lerp, to_radians, reach, billion, in_reach_lem, round_away, round_byte, to_word, of_word}

-- max(0.0) of -0 and of a NaN is plus zero
max_minus_zero : max_zero (fin true 0 (pos 0)) ≡ zero
unfolding max_zero
max_minus_zero = refl

max-nan : max_zero nan ≡ zero
unfolding max_zero
max-nan = refl

-- a clamp keeps -0 and a NaN
clamp_minus_zero : clamp (fin true 0 (pos 0)) zero one ≡ fin true 0 (pos 0)
unfolding clamp
clamp_minus_zero = refl

clamp-nan : clamp nan zero one ≡ nan
unfolding clamp
clamp-nan = refl

-- 0, 1 and a half are within 0 to 1; the next f32 after 1 and a NaN are not
unit_ends : InUnit zero × (InUnit one × InUnit (decimal false 5 1))
unfolding le round
unit_ends = (record { low = tt; high = tt }, (record { low = tt; high = tt }, record { low = tt; high = tt }))

above-one : le (of_bits binary32 0x3F800001) one ≡ false
unfolding le of_bits
above-one = refl

nan_nowhere : (le zero nan ≡ false) × (le nan one ≡ false)
unfolding le
nan_nowhere = (refl, refl)

-- from 2 ^ -25 to 1 at 1: 1 - 2 ^ -25 rounds to 1, and 1 + 2 ^ -25 back to 1
lerp_to_one : lerp (fin false 1 (negsuc 24)) one one ≡ one
unfolding lerp round
lerp_to_one = refl

-- from 20 to 40 at a quarter is 25
lerp_quarter : to_bits binary32 (lerp (decimal false 20 0) (decimal false 40 0) (decimal false 25 2)) ≡ 0x41C80000
unfolding lerp round to_bits
lerp_quarter = refl

-- from 10 to 0.1 at 1: not 0.1, whose bits are 3DCCCCCD
lerp-end : to_bits binary32 (lerp (decimal false 10 0) (decimal false 1 1) (decimal false 1 0)) ≡ 0x3DCCCD00
unfolding lerp round to_bits
lerp-end = refl

-- 180 degrees
half_turn : to_bits binary32 (to_radians (decimal false 180 0)) ≡ 0x40490FDB
unfolding to_radians round to_bits
half_turn = refl

-- a half goes away from zero
round_up : round_away (decimal false 25 1) ≡ pos 3
unfolding round_away round
round_up = refl

round_down : round_away (decimal true 25 1) ≡ negsuc 2
unfolding round_away round
round_down = refl

below_half : round_away (of_bits binary32 0x3EFFFFFF) ≡ pos 0
unfolding round_away of_bits
below_half = refl

round_nan : round_away nan ≡ pos 0
unfolding round_away
round_nan = refl

round_far : round_away (inf true) ≡ negsuc 2147483647
unfolding round_away
round_far = refl

-- a cut goes toward zero
cut_down : to_signed 31 (decimal true 29 1) ≡ negsuc 1
unfolding to_signed round
cut_down = refl

-- 127.5 as a byte: cut and rounded
half-cut : to_unsigned 8 (decimal false 1275 1) ≡ 127
unfolding to_unsigned round
half-cut = refl

half-rounded : round_byte (decimal false 1275 1) ≡ 128
unfolding round_byte round
half-rounded = refl

byte-below : round_byte (decimal true 3 0) ≡ 0
unfolding round_byte round
byte-below = refl

byte_above : round_byte (decimal false 300 0) ≡ 255
unfolding round_byte round
byte_above = refl

-- 1,000,000,000 is a float; it is in reach, the next value and a NaN are not
reach-float : of_int binary32 (pos reach) ≡ billion
unfolding of_int
reach-float = refl

reach_top : in_reach_lem (of_bits binary32 0x4E6E6B28) ≡ true
unfolding in_reach_lem of_bits
reach_top = refl

reach-over : in_reach_lem (of_bits binary32 0xCE6E6B29) ≡ false
unfolding in_reach_lem of_bits
reach-over = refl

reach-nan : in_reach_lem (of_bits binary32 0x7F800001) ≡ false
unfolding in_reach_lem of_bits
reach-nan = refl

-- the nearest f32 of 16777217, a tie
nearest-tie : to_bits binary32 (of_int binary32 (pos 16777217)) ≡ 0x4B800000
unfolding of_int to_bits
nearest-tie = refl

-- the bits of a NaN
nan-bits : to_bits binary32 nan ≡ 0x7FC00000
unfolding to_bits
nan-bits = refl

-- two's complement
minus_one : to_word (negsuc 0) ≡ 0xFFFFFFFF
minus_one = refl

least_i32 : of_word 0x80000000 ≡ negsuc 2147483647
unfolding of_word
least_i32 = refl
