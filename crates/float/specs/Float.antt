-- What the helpers on f32 give. Definitions only.
use Rattle.std.specs.Prelude.{ℕ, suc, ◌+◌, ◌-◌, ◌*◌, ◌/◌, ◌^◌, min, Bool, false, cond, ◌&&◌, T, ℤ, pos, negsuc, neg_ℤ, nat_lt, Float}
use Rattle.std.specs.Float.{nan, inf, fin, binary32}
use Rattle.std.specs.Float.Ieee.{add, sub, mul, div, neg, lt, le, of_bits, of_int}
use Rattle.std.specs.Float.Ieee.Positive.{num, den}

-- plus zero
abbrev pub zero : Float
zero = fin false 0 (pos 0)

abbrev pub one : Float
one = fin false 1 (pos 0)

-- 01, Evaluation: "`max(0.0)` gives plus zero unless the value is above zero"
unfoldable pub max_zero : Float → Float
unfolding lt
max_zero x = cond (lt zero x) x zero

-- Rust's f32::clamp: a NaN stays
unfoldable pub clamp : Float → Float → Float → Float
unfolding lt
clamp x lo hi = cond (lt x lo) lo (cond (lt hi x) hi x)

-- from 0 to 1, both among them, and so no NaN: 01, Karaoke, of progress, and 02, N8, of opacity
pub record InUnit (x : Float) : Type 0 where
  pub low : T (le zero x)
  pub high : T (le x one)

-- lerp_f32 of the Rust
unfoldable pub lerp : Float → Float → Float → Float
unfolding add sub mul
lerp a b k = add binary32 a (mul binary32 (sub binary32 b a) k)

-- 01, Evaluation: "`to_radians` multiplies by the f32 quotient of bits 40490FDB (hexadecimal) by 180"
unfoldable pub to_radians : Float → Float
unfolding of_bits of_int div mul
to_radians x = mul binary32 x (div binary32 (of_bits binary32 0x40490FDB) (of_int binary32 (pos 180)))

-- 01's bound on the magnitude of floats and times: "within ±1,000,000,000"
abbrev pub reach : ℕ
reach = 1000000000

-- the same as a float
abbrev pub billion : Float
billion = fin false 1953125 (pos 9)

-- 01, A table record: "floats finite, magnitude at most 1,000,000,000"
unfoldable pub in_reach_lem : Float → Bool
unfolding le neg
in_reach_lem x = le (neg billion) x && le x billion

-- the size of x times 2 ^ places, cut down to a whole number, at most `most`
unfoldable pub scaled_to : ℕ → ℕ → Float → ℕ
scaled_to places most nan = 0
scaled_to places most (inf s) = most
scaled_to places most (fin s m e) = min (num (fin s m e) * 2 ^ places / den (fin s m e)) most

-- the size of a finite x to the nearest whole number, a half going up
abbrev pub round_size : Float → ℕ
round_size x = (2 * num x + den x) / (2 * den x)

-- 01, Owned Rust values: "`round` goes half away from zero". The result is an i32's, as `to_signed 31` of lib.Ieee, the cut: out of range the nearest end, 0 for a NaN.
unfoldable pub round_away : Float → ℤ
round_away nan = pos 0
round_away (inf s) = cond s (neg_ℤ (pos (2 ^ 31))) (pos (2 ^ 31 - 1))
round_away (fin s m e) = cond s (neg_ℤ (pos (min (round_size (fin s m e)) (2 ^ 31)))) (pos (min (round_size (fin s m e)) (2 ^ 31 - 1)))

-- the same to a byte
unfoldable pub round_byte : Float → ℕ
round_byte nan = 0
round_byte (inf s) = cond s 0 255
round_byte (fin s m e) = cond s 0 (min (round_size (fin s m e)) 255)

-- 01, A table record: "signed numbers in two's complement"
abbrev pub to_word : ℤ → ℕ
to_word (pos n) = n
to_word (negsuc n) = 2 ^ 32 - suc n

unfoldable pub of_word : ℕ → ℤ
of_word n = cond (nat_lt n (2 ^ 31)) (pos n) (negsuc (2 ^ 32 - suc n))
