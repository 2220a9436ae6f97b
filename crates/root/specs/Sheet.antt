-- Worked examples, by computation.
use Rattle.std.specs.Prelude.{◌≡◌, ℕ, true, pos, refl}
use Rattle.std.specs.Float.{nan, fin, binary32}
use Rattle.std.specs.Float.Ieee.{of_bits, to_bits}
use Rattle.root.specs.Root.{sqrt}

-- the bits of the root of the float of a word
abbrev root_word : ℕ → ℕ
root_word w = to_bits binary32 (sqrt binary32 (of_bits binary32 w))

-- of 2
of_two : root_word 0x40000000 ≡ 0x3FB504F3
unfolding sqrt of_bits to_bits
of_two = refl

-- of 0.25 it is 0.5
of_quarter : root_word 0x3E800000 ≡ 0x3F000000
unfolding sqrt of_bits to_bits
of_quarter = refl

-- of the smallest value, 2 ^ -149, and of the largest
of-smallest : root_word 1 ≡ 0x1A3504F3
unfolding sqrt of_bits to_bits
of-smallest = refl

of-largest : root_word 0x7F7FFFFF ≡ 0x5F7FFFFF
unfolding sqrt of_bits to_bits
of-largest = refl

-- of -0, and of -1
of_minus_zero : root_word 0x80000000 ≡ 0x80000000
unfolding sqrt of_bits to_bits
of_minus_zero = refl

of-minus_one : sqrt binary32 (fin true 1 (pos 0)) ≡ nan
unfolding sqrt
of-minus_one = refl
