-- 02, N4: a numeral "written out with the point shifted", as the text that it then is. Definitions only.
use Rattle.std.specs.Prelude.{List, ◌∷◌, ◌++◌, ℕ, suc, ◌+◌, ◌-◌, length, take, drop, replicate, leb, ℤ, pos, negsuc}
use Rattle.numeral.specs.declared.Decimal.{Decimal}
use Rattle.scan.specs.Scan.{pick}
use Rattle.numeral.specs.Numeral.{before, zeros, most_exponent_digits, exponent_start, exponent_of, F32, none, too_long_lem, number, f32_of}

-- the text from i to j
abbrev pub cut : List ℕ → ℕ → ℕ → List ℕ
cut s i j = take (j - i) (drop i s)

-- the zeros that a shift puts before the first digit, behind the point
abbrev pub zeros_before : ℕ → ℤ → ℕ
zeros_before w (pos n) = 0
zeros_before w (negsuc n) = suc n - w

-- all digits, with the zeros put in on either side
unfoldable pub digits_out : List ℕ → Decimal → ℤ → List ℕ
digits_out s d x = replicate (zeros_before (d.whole - d.from) x) 48 ++ cut s d.from d.whole ++ cut s d.fraction d.end ++ replicate (zeros (d.end - d.fraction) x) 48

-- sign, digits, point, digits
unfoldable pub spelled_out : List ℕ → ℕ → Decimal → ℤ → List ℕ
spelled_out s a d x =
    let n = before (d.whole - d.from) x in
    let ds = digits_out s d x in
    cut s a d.from ++ take n ds ++ 46 ∷ drop n ds

-- an answer on the text from a on, as one on the whole text
abbrev pub placed : ℕ → F32 → F32
placed a none = none
placed a (too_long_lem p) = too_long_lem (a + p)
placed a (number x) = number x

-- what the digits at d say with the exponent behind them: what they say written out
abbrev pub as_spelled : List ℕ → ℕ → ℕ → Decimal → F32
as_spelled s a b d =
    let t = spelled_out s a d (exponent_of s d.end b) in
    pick (leb (b - exponent_start s d.end b) most_exponent_digits) (placed a (f32_of t 0 (length t))) (too_long_lem a)
