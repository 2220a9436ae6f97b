-- Numbers as text writes them. 01, Numerals.
use Rattle.std.specs.Prelude.{List, Bool, true, false, ℕ, zero, suc, ◌+◌, ◌-◌, ◌*◌, ◌^◌, get_or, ltb, leb, eqb, Option, Some, None, ℤ, pos, negsuc, neg_ℤ, Float}
use Rattle.std.specs.Float.{binary32}
use Rattle.std.specs.Float.Ieee.{round, to_bits}
use Rattle.scan.specs.Scan.{pick, digit_of, digit, only, one_of, span_to, past, trim_start, trim_end}
use Rattle.float.specs.Float.{to_word}
use Rattle.numeral.specs.declared.Numeral.{Numeral}
use Rattle.numeral.specs.declared.Numeral.TheVariants.{No, TooLong, Word}
use Rattle.numeral.specs.declared.Decimal.{Decimal}

-- the classes of bytes that numbers are made of
abbrev pub is_digit : ℕ → Bool
is_digit b = digit 10 b

abbrev pub is_sign : ℕ → Bool
is_sign b = one_of 43 45 b

abbrev pub is_minus : ℕ → Bool
is_minus b = only 45 b

abbrev pub is_plus : ℕ → Bool
is_plus b = only 43 b

abbrev pub is_point : ℕ → Bool
is_point b = only 46 b

abbrev pub is_e : ℕ → Bool
is_e b = one_of 69 101 b

-- the word of a number
abbrev pub word : Numeral → Option ℕ
word No = None
word (TooLong p) = None
word (Word w) = Some w

-- the place of a numeral that is too long
abbrev pub too_long : Numeral → Option ℕ
too_long No = None
too_long (TooLong p) = Some p
too_long (Word w) = None

-- the number that n digits of a radix from i on write behind a
unfoldable pub value : ℕ → List ℕ → ℕ → ℕ → ℕ → ℕ
value radix s zero i a = a
value radix s (suc n) i a = value radix s n (i + 1) (a * radix + digit_of (get_or s i 0))

-- more than any whole number that is kept
abbrev pub most : ℕ
most = 1000000000000000000

-- the whole number that fills the text from i to e, at least one digit; `most` where there is none
unfoldable pub whole_number : ℕ → List ℕ → ℕ → ℕ → ℕ
whole_number radix s i e = pick (ltb i e) (pick (eqb (span_to (digit radix) s i e) e) (value radix s (e - i) i 0) most) most

-- an i32, or none
pub data I32 : Type 0 where
  none : I32
  whole : ℤ → I32

abbrev pub word_of_i32 : I32 → Numeral
word_of_i32 none = No
word_of_i32 (whole z) = Word (to_word z)

-- 01, Numerals: integers follow Rust's i32 (sign allowed, too large is no number); here the text from a to b
unfoldable pub i32_of : List ℕ → ℕ → ℕ → I32
i32_of s a b =
    let v = whole_number 10 s (past is_sign s a b) b in
    pick (eqb (past is_minus s a b) a)
    (pick (leb v 2147483647) (whole (pos v)) none)
    (pick (leb v 2147483648) (whole (neg_ℤ (pos v))) none)

-- the same, blanks around it dropped
abbrev pub i32_at : List ℕ → ℕ → ℕ → I32
i32_at s p q =
    let a = trim_start s p q in
    i32_of s a (trim_end s a q)

abbrev pub up_to : ℕ → ℕ → Option ℕ
up_to v limit = pick (leb v limit) (Some v) None

-- 01, Numerals: hexadecimal follows Rust's u32 (`+` allowed); here the text from a to b
unfoldable pub hex_at : List ℕ → ℕ → ℕ → Option ℕ
hex_at s a b = up_to (whole_number 16 s (past is_plus s a b) b) 4294967295

-- where the digits of a numeral stand: optional sign, digits with at most one point
unfoldable pub split_at : List ℕ → ℕ → ℕ → Decimal
split_at s a b =
    let i = past is_sign s a b in
    let d = span_to is_digit s i b in
    let f = past is_point s d b in
    record { from = i; whole = d; fraction = f; end = span_to is_digit s f b }

-- whether an exponent that Rust accepts fills the text from i to b: e or E, optional sign, at least one digit
unfoldable pub exponent_at : List ℕ → ℕ → ℕ → Bool
exponent_at s i b =
    let x = past is_e s i b in
    let d = past is_sign s x b in
    pick (ltb i x) (pick (ltb d b) (eqb (span_to is_digit s d b) b) false) false

-- an f32, a numeral that is too long with the place of its first byte, or none
pub data F32 : Type 0 where
  none : F32
  too_long_lem : ℕ → F32
  number : Float → F32

abbrev pub word_of_f32 : F32 → Numeral
word_of_f32 none = No
word_of_f32 (too_long_lem p) = TooLong p
word_of_f32 (number x) = Word (to_bits binary32 x)

-- ---- where the point stands

-- how many digits stand at d
abbrev pub digit_count : Decimal → ℕ
digit_count d = d.whole - d.from + (d.end - d.fraction)

-- the number that the digits at d write, the point left out
abbrev pub digits_of : List ℕ → Decimal → ℕ
digits_of s d = value 10 s (d.end - d.fraction) d.fraction (value 10 s (d.whole - d.from) d.from 0)

-- 02, N4: "written out with the point shifted", by x places to the right: of w digits before the point and f behind it, so many stand
-- there then. Zeros that the shift puts in count like those of the text.
abbrev pub before : ℕ → ℤ → ℕ
before w (pos n) = w + n
before w (negsuc n) = w - suc n

abbrev pub behind : ℕ → ℤ → ℕ
behind f (pos n) = f - n
behind f (negsuc n) = f + suc n

-- the zeros that the shift puts behind the last digit, before the point
abbrev pub zeros : ℕ → ℤ → ℕ
zeros f (pos n) = n - f
zeros f (negsuc n) = 0

-- the number written out, as a fraction: v is what the digits write, f of them behind the point
abbrev pub written_out : ℕ → ℕ → ℤ → ℕ × ℕ
written_out v f x = (v * 10 ^ zeros f x, 10 ^ behind f x)

-- the same number as digits times a power of ten; `numeral::shifted` promises both, and Spelled.antt has the text written out
abbrev pub times_power : ℕ → ℕ → ℤ → ℕ × ℕ
times_power v f (pos n) = (v * 10 ^ n, 10 ^ f)
times_power v f (negsuc n) = (v, 10 ^ f * 10 ^ suc n)

-- the f32 nearest to a fraction, ties to even; below 0 if the numeral that starts at a has a minus
abbrev pub nearest : List ℕ → ℕ → ℕ → ℕ × ℕ → Float
nearest s a b q = round binary32 (ltb a (past is_minus s a b)) q.0 q.1

-- the f32 nearest to what the digits at d say with the point shifted by x
unfoldable pub float_of : List ℕ → ℕ → ℕ → Decimal → ℤ → Float
float_of s a b d x = nearest s a b (written_out (digits_of s d) (d.end - d.fraction) x)

-- the same by digits times a power
abbrev pub power_float_of : List ℕ → ℕ → ℕ → Decimal → ℤ → Float
power_float_of s a b d x = nearest s a b (times_power (digits_of s d) (d.end - d.fraction) x)

-- 01, Numerals: "over 9 digits before or after the point"
abbrev pub most_digits : ℕ
most_digits = 9

-- y, the number of the digits at d with the point shifted by x, where they are few enough
abbrev pub limited : ℕ → Decimal → ℤ → Float → F32
limited a d x y =
    pick (leb (before (d.whole - d.from) x) most_digits)
    (pick (leb (behind (d.end - d.fraction) x) most_digits) (number y) (too_long_lem a))
    (too_long_lem a)

-- ---- 02, N4: "e or E, an optional sign and one or two digits"

-- the first digit of the exponent whose e is at i
abbrev pub exponent_start : List ℕ → ℕ → ℕ → ℕ
exponent_start s i b = past is_sign s (past is_e s i b) b

abbrev pub most_exponent_digits : ℕ
most_exponent_digits = 2

abbrev pub signed : Bool → ℕ → ℤ
signed minus n = pick minus (neg_ℤ (pos n)) (pos n)

-- what the exponent from i to b says, 0 where there is none
abbrev pub exponent_of : List ℕ → ℕ → ℕ → ℤ
exponent_of s i b =
    let x = past is_e s i b in
    let d = exponent_start s i b in
    signed (ltb x (past is_minus s x b)) (value 10 s (b - d) d 0)

-- the digits at d with the exponent behind them, where y is the number at each shift
abbrev pub with_exponent : List ℕ → ℕ → ℕ → Decimal → (ℤ → Float) → F32
with_exponent s a b d y =
    let x = exponent_of s d.end b in
    pick (leb (b - exponent_start s d.end b) most_exponent_digits) (limited a d x (y x)) (too_long_lem a)

-- whether the text behind the digits, from i to b, is an exponent or nothing
abbrev pub ends_at : List ℕ → ℕ → ℕ → Bool
ends_at s i b = pick (ltb i b) (exponent_at s i b) true

-- 01, Numerals, and 02, N4: a good one has at least one digit, perhaps an exponent, and written out at most `most_digits` digits on each side of the point;
-- one that is otherwise good is too long
unfoldable pub f32_of : List ℕ → ℕ → ℕ → F32
f32_of s a b =
    let d = split_at s a b in
    pick (eqb (digit_count d) 0) none (pick (ends_at s d.end b) (with_exponent s a b d (float_of s a b d)) none)

-- the same, blanks around it dropped
abbrev pub f32_at : List ℕ → ℕ → ℕ → F32
f32_at s p q =
    let a = trim_start s p q in
    f32_of s a (trim_end s a q)
