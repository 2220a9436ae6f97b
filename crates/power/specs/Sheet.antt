-- Worked examples, by computation.
use Rattle.std.specs.Prelude.{◌≡◌, refl, true, false, pos, negsuc}
use Rattle.std.specs.Float.{inf, fin, binary32}
use Rattle.std.specs.Float.Ieee.{round, to_bits}
use Rattle.decimal.specs.Decimal.{decimal}
use Rattle.float.specs.Float.{zero, one}
use Rattle.power.specs.Power.{power}

-- 0.5 to the power 2, and 0.25 to the power 0.5
square_of_half : power (decimal false 5 1) (decimal false 2 0) ≡ fin false 1 (negsuc 1)
unfolding power round
square_of_half = refl

root_of_quarter : power (decimal false 25 2) (decimal false 5 1) ≡ fin false 1 (negsuc 0)
unfolding power round
root_of_quarter = refl

-- 0.3 to the power 0.7: the eight digits of the fraction are 10110011
fraction : to_bits binary32 (power (decimal false 3 1) (decimal false 7 1)) ≡ 0x3EDCA11F
unfolding power round to_bits
fraction = refl

-- 0 to the power 0, to one above and to one below
zero_to_zero : power zero (fin true 0 (pos 0)) ≡ one
unfolding power
zero_to_zero = refl

zero-above : power zero (decimal false 5 1) ≡ zero
unfolding power round
zero-above = refl

zero-below : power zero (decimal true 15 1) ≡ inf false
unfolding power round
zero-below = refl

-- below 0: 0.5 to the power -2
below : power (decimal false 5 1) (decimal true 2 0) ≡ fin false 1 (pos 2)
unfolding power round
below = refl

-- the cap: 0.5 to the power 1000 is 2 ^ -64
capped : power (decimal false 5 1) (decimal false 1000 0) ≡ fin false 1 (negsuc 63)
unfolding power round
capped = refl
