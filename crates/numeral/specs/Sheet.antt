-- Worked examples, by computation: a text and what it says.
use Rattle.std.specs.Prelude.{◌≡◌, refl, Some, None, List, [], ◌∷◌, map, ℕ, length}
use Prim.Native.String.{String}
use Rattle.std.specs.Float.Ieee.{round, to_bits}
use Rattle.scan.specs.Scan.{bytes, span, skip, skip_back, blank_at, blank_before}
use Rattle.numeral.specs.declared.Numeral.TheVariants.{No, TooLong, Word}
use Rattle.numeral.specs.Numeral.{value, whole_number, word_of_i32, i32_of, i32_at, hex_at, split_at, exponent_at, exponent_of, word_of_f32, float_of, f32_of, f32_at}
use Rattle.numeral.specs.Spelled.{digits_out, spelled_out}

-- that a reading of whole texts gives each text's answer
abbrev pub Reads : {A : Type 0} → (List ℕ → ℕ → ℕ → A) → List (String × A) → Type 0
Reads {A} read rows = map (λ (r : String × A). read (bytes r.0) 0 (length (bytes r.0))) rows ≡ map (λ (r : String × A). r.1) rows

pub floats : Reads (λ s p q. word_of_f32 (f32_at s p q)) (
    ("12.5", Word 0x41480000) ∷
    (" -.5 ", Word 0xBF000000) ∷
    ("1.", Word 0x3F800000) ∷
    ("-0", Word 0x80000000) ∷
    ("0.1", Word 0x3DCCCCCD) ∷
    ("16777217", Word 0x4B800000) ∷
    ("16777219", Word 0x4B800002) ∷
    ("999999999.999999999", Word 0x4E6E6B28) ∷
    ("000000001.5", Word 0x3FC00000) ∷
    ("", No) ∷
    (".", No) ∷
    ("+", No) ∷
    ("--1", No) ∷
    ("1 2", No) ∷
    ("nan", No) ∷
    ("-inf", No) ∷
    ("0x10", No) ∷
    ("1_0", No) ∷
    ("1234567890x", No) ∷
    (" 1234567890", TooLong 1) ∷
    ("0000000001", TooLong 0) ∷
    ("1.0000000000", TooLong 0) ∷
    [])
unfolding round to_bits span skip skip_back blank_at blank_before value split_at exponent_at float_of f32_of
floats = refl

-- 02, N4
pub exponents : Reads (λ s p q. word_of_f32 (f32_at s p q)) (
    ("1e2", Word 0x42C80000) ∷
    ("1.e5", Word 0x47C35000) ∷
    (" -1E-7 ", Word 0xB3D6BF95) ∷
    ("2.5E-3", Word 0x3B23D70A) ∷
    ("-0e+00", Word 0x80000000) ∷
    ("1e8", Word 0x4CBEBC20) ∷
    ("1e-9", Word 0x3089705F) ∷
    ("1234567890e-1", Word 0x4CEB79A3) ∷
    ("0.0000000001e5", Word 0x3727C5AC) ∷
    (".123456789012345678e9", Word 0x4CEB79A3) ∷
    ("123456789012345678e-09", Word 0x4CEB79A3) ∷
    ("1e9", TooLong 0) ∷
    ("0e9", TooLong 0) ∷
    ("01e8", TooLong 0) ∷
    ("1e-10", TooLong 0) ∷
    ("10e-10", TooLong 0) ∷
    (" +1e002", TooLong 1) ∷
    ("1e100", TooLong 0) ∷
    ("1e", No) ∷
    ("1e+", No) ∷
    ("1e+-1", No) ∷
    ("1e2.", No) ∷
    ("1e2e2", No) ∷
    ("e5", No) ∷
    (".e5", No) ∷
    [])
unfolding round to_bits span skip skip_back blank_at blank_before value split_at exponent_at float_of f32_of
exponents = refl

-- the same as text, written out
abbrev pub Spells : List (String × String) → Type 0
Spells rows = Reads (λ s a b. spelled_out s a (split_at s a b) (exponent_of s (split_at s a b).end b)) (map (λ (r : String × String). (r.0, bytes r.1)) rows)

pub spellings : Spells (
    ("1e2", "100.") ∷
    ("2.5E-3", ".0025") ∷
    ("-12.5e1", "-125.") ∷
    ("+12.5e-1", "+1.25") ∷
    ("1234567890e-1", "123456789.0") ∷
    ("0.0000000001e5", "000000.00001") ∷
    ("1e9", "1000000000.") ∷
    ("01e8", "0100000000.") ∷
    ("10e-10", ".0000000010") ∷
    ("-.5", "-.5") ∷
    ("7", "7.") ∷
    [])
unfolding span value split_at digits_out spelled_out
spellings = refl

pub integers : Reads (λ s p q. word_of_i32 (i32_at s p q)) (
    ("-2147483648", Word 0x80000000) ∷
    ("2147483647", Word 0x7FFFFFFF) ∷
    ("+7", Word 7) ∷
    ("-1", Word 0xFFFFFFFF) ∷
    ("00000000000000000000012", Word 12) ∷
    ("-0", Word 0) ∷
    ("\t12 ", Word 12) ∷
    ("2147483648", No) ∷
    ("-2147483649", No) ∷
    ("99999999999999999999999999", No) ∷
    ("", No) ∷
    ("-", No) ∷
    ("+-1", No) ∷
    ("1.0", No) ∷
    [])
unfolding span skip skip_back blank_at blank_before value whole_number i32_of
integers = refl

pub hexadecimals : Reads hex_at (
    ("+ff", Some 255) ∷
    ("FfFfFfFf", Some 0xFFFFFFFF) ∷
    ("0000000000000000001a", Some 26) ∷
    ("100000000", None) ∷
    ("-1", None) ∷
    ("0x1", None) ∷
    (" 1", None) ∷
    ("", None) ∷
    ("+", None) ∷
    ("g", None) ∷
    [])
unfolding span value whole_number hex_at
hexadecimals = refl
