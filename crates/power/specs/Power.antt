-- powf(x, a) as 01, Evaluation, has it for 0 ≤ x ≤ 1 and a finite a. Outside of that the same steps are taken. Definitions only.
use Rattle.std.specs.Prelude.{ℕ, zero, suc, ◌*◌, ◌/◌, ◌%◌, ◌^◌, cond, Float}
use Rattle.std.specs.Float.{binary32}
use Rattle.std.specs.Float.Ieee.{mul, div, neg, lt, eq}
use Rattle.float.specs.Float.{zero as +0, one, scaled_to}
use Rattle.root.specs.Root.{sqrt}

-- "multiply 1 by x as often as a's whole part says": p multiplied by x, n times over
unfoldable pub times : ℕ → Float → Float → Float
unfolding mul
times zero x p = p
times (suc n) x p = times n x (mul binary32 p x)

-- "multiply by it if the next binary digit of a's fraction is 1": p, multiplied by y if the digit is 1
unfoldable pub if_one : ℕ → Float → Float → Float
unfolding mul
if_one zero y p = p
if_one (suc d) y p = mul binary32 p y

-- "then eight times take the correctly rounded square root (starting from x)": the d lowest binary digits of v, from the highest of them on, r being the last root
unfoldable pub roots : ℕ → ℕ → Float → Float → Float
unfolding sqrt if_one
roots zero v r p = p
roots (suc d) v r p = let y = sqrt binary32 r in roots d v y (if_one (v / 2 ^ d % 2) y p)

-- x to the power v / 256
unfoldable pub power256 : Float → ℕ → Float
unfolding times roots
power256 x v = roots 8 v x (times (v / 256) x one)

-- "cap a at 64 ... Later digits are dropped": an a above 0 in 256ths
abbrev pub steps : Float → ℕ
steps a = scaled_to 8 (64 * 256) a

-- "for a above 0, x = 0 gives 0"
unfoldable pub power_up : Float → Float → Float
unfolding eq scaled_to power256
power_up x a = cond (eq x +0) +0 (power256 x (steps a))

-- "for a = 0 of either sign the result is 1, at x = 0 too"; "For a below 0: 1 divided by the power of -a, infinite at 0"
unfoldable pub power : Float → Float → Float
unfolding lt neg div power_up
power x a = cond (lt +0 a) (power_up x a) (cond (lt a +0) (div binary32 one (power_up x (neg a))) one)
