-- Worked examples, by computation: 01's sheet and its plausible slips, on tags.
use Rattle.std.specs.Prelude.{◌≡◌, refl, ℕ, ℤ, pos, Float, unwrap_or}
use Rattle.std.specs.Float.{binary32}
use Rattle.std.specs.Float.Ieee.{of_bits, to_bits, of_int}
use Rattle.float.specs.Float.{zero, one}
use Rattle.tag.specs.Tag.{times, absent, Tags, none, and, Fad, Fs, T, Alpha1}
use Rattle.state.specs.Mix.{quotient}
use Rattle.state.specs.Apply.{apply_own, apply_tags, evaluate_at}

abbrev whole : ℕ → Float
whole n = of_int binary32 (pos n)

-- the size at t, as bits
abbrev size_at : ℕ → Tags → ℕ
size_at t l = to_bits binary32 (unwrap_or (evaluate_at (pos t) (pos 2000) l).sizes.font_size zero)

abbrev opacity_at : ℕ → Tags → ℕ
opacity_at t l = to_bits binary32 (evaluate_at (pos t) (pos 1000) l).always.alpha_mul

abbrev growing : ℤ → ℤ → Float → Tags
growing a b accel = and (Fs (whole 20)) (and (T (times a b) accel (and (Fs (whole 40)) none)) none)

-- `\fs20\t(0,1000,\fs40)`: size 20 at 0, 30 at 500, 40 at 1000
at_0 : size_at 0 (growing (pos 0) (pos 1000) one) ≡ to_bits binary32 (whole 20)
unfolding evaluate_at apply_tags apply_own to_bits of_int
at_0 = refl

at_500 : size_at 500 (growing (pos 0) (pos 1000) one) ≡ to_bits binary32 (whole 30)
unfolding evaluate_at apply_tags apply_own to_bits of_int
at_500 = refl

at_1000 : size_at 1000 (growing (pos 0) (pos 1000) one) ≡ to_bits binary32 (whole 40)
unfolding evaluate_at apply_tags apply_own to_bits of_int
at_1000 = refl

-- with `0,1000,2,` size 25 at 500; with `0,1000,0.5,` size 30 at 250
squared : size_at 500 (growing (pos 0) (pos 1000) (whole 2)) ≡ to_bits binary32 (whole 25)
unfolding evaluate_at apply_tags apply_own to_bits of_int
squared = refl

rooted : size_at 250 (growing (pos 0) (pos 1000) (of_bits binary32 0x3F000000)) ≡ to_bits binary32 (whole 30)
unfolding evaluate_at apply_tags apply_own to_bits of_int of_bits
rooted = refl

-- `\fs20\t(500,500,\fs40)`: 20 at 499, 40 at 500
before-jump : size_at 499 (growing (pos 500) (pos 500) one) ≡ to_bits binary32 (whole 20)
unfolding evaluate_at apply_tags apply_own to_bits of_int
before-jump = refl

at_jump : size_at 500 (growing (pos 500) (pos 500) one) ≡ to_bits binary32 (whole 40)
unfolding evaluate_at apply_tags apply_own to_bits of_int
at_jump = refl

-- `\fad(200,300)`, duration 1000: 0 at 0, 0.5 at 100, 1 at 700, 0.5 at 850, 0 at 1000
fad_0 : opacity_at 0 (and (Fad 200 300) none) ≡ 0
unfolding evaluate_at apply_tags apply_own to_bits
fad_0 = refl

fad_100 : opacity_at 100 (and (Fad 200 300) none) ≡ 0x3F000000
unfolding evaluate_at apply_tags apply_own to_bits
fad_100 = refl

fad_700 : opacity_at 700 (and (Fad 200 300) none) ≡ 0x3F800000
unfolding evaluate_at apply_tags apply_own to_bits
fad_700 = refl

fad_850 : opacity_at 850 (and (Fad 200 300) none) ≡ 0x3F000000
unfolding evaluate_at apply_tags apply_own to_bits
fad_850 = refl

fad_1000 : opacity_at 1000 (and (Fad 200 300) none) ≡ 0
unfolding evaluate_at apply_tags apply_own to_bits
fad_1000 = refl

-- `\fs20\t(0,1000,\t(0,1000,\fs40))`: at 500 the inner \t has come to 30, and the outer is half way from 20 to that
nested : size_at 500 (and (Fs (whole 20)) (and (T (times (pos 0) (pos 1000)) one (and (T (times (pos 0) (pos 1000)) one (and (Fs (whole 40)) none)) none)) none)) ≡ to_bits binary32 (whole 25)
unfolding evaluate_at apply_tags apply_own to_bits of_int
nested = refl

-- `\fs1000000\t(0,1000,\fs0.1)`: at 1000 it has come to 0.125, not to 0.1, as the way from one to the other is rounded
end_mixed : size_at 1000 (and (Fs (whole 1000000)) (and (T (times (pos 0) (pos 1000)) one (and (Fs (of_bits binary32 0x3DCCCCCD)) none)) none)) ≡ 0x3E000000
unfolding evaluate_at apply_tags apply_own to_bits of_int of_bits
end_mixed = refl

-- milliseconds above 2^24 are rounded to f32 before they are divided: the quotient of the numbers themselves would be 3EAAAAAB
times-rounded : to_bits binary32 (quotient (pos 16777217) (pos 50331651)) ≡ 0x3EAAAAAA
unfolding quotient to_bits of_int
times-rounded = refl

-- an alpha inside \t rounds: 255 down to 0 at half is 128
alpha_rounds : unwrap_or (evaluate_at (pos 500) (pos 1000) (and (Alpha1 255) (and (T absent one (and (Alpha1 0) none)) none))).alphas.primary_alpha 0 ≡ 128
unfolding evaluate_at apply_tags apply_own
alpha_rounds = refl
