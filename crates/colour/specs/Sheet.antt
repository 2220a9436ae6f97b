-- Worked examples, by computation: a text and the alpha or the colour that it says.
use Rattle.std.specs.Prelude.{refl, [], ◌∷◌, Option, Some, None, ℕ}
use Rattle.scan.specs.Scan.{span, back, skip, skip_back, blank_at, blank_before}
use Rattle.numeral.specs.Numeral.{value, whole_number, hex_at}
use Rattle.numeral.specs.Sheet.{Reads}
use Rattle.colour.specs.declared.Rgb.{Rgb}
use Rattle.colour.specs.Colour.{trimmed, ampersands, zero_xat, digits, alpha_at, colour_at}

pub alphas : Reads alpha_at (
    ("&HFF&", Some 255) ∷
    ("&H1FF&", Some 255) ∷
    ("H80", Some 128) ∷
    ("0xFF", Some 255) ∷
    ("&H0x0xFF&", Some 255) ∷
    ("& FF &", Some 255) ∷
    (" &h7f& ", Some 127) ∷
    ("&hH00", Some 0) ∷
    ("&&80&&", Some 128) ∷
    ("&H 7F &", Some 127) ∷
    ("&H0x&80", Some 128) ∷
    ("+1", Some 1) ∷
    ("FFFFFFFF", Some 255) ∷
    ("100000000", None) ∷
    ("-1", None) ∷
    ("0X10", None) ∷
    ("x80", None) ∷
    ("FF& &", None) ∷
    ("&H&", None) ∷
    ("0x", None) ∷
    ("", None) ∷
    [])
unfolding span back skip skip_back blank_at blank_before value whole_number hex_at trimmed ampersands zero_xat digits alpha_at
alphas = refl

abbrev pub colour : ℕ → ℕ → ℕ → Option Rgb
colour red green blue = Some (record { red = red; green = green; blue = blue })

pub colours : Reads colour_at (
    ("&H0000FF&", colour 255 0 0) ∷
    ("&HFF0000&", colour 0 0 255) ∷
    ("&H123456&", colour 86 52 18) ∷
    ("&H80123456&", colour 86 52 18) ∷
    ("H80", colour 128 0 0) ∷
    ("0xFF", colour 255 0 0) ∷
    ("&H0x0xFF&", colour 255 0 0) ∷
    ("& FF &", colour 255 0 0) ∷
    ("&H 7F &", colour 127 0 0) ∷
    ("&H0x&80", None) ∷
    ("0x80& ", colour 128 0 0) ∷
    ("FFFFFFFF", colour 255 255 255) ∷
    ("100000000", None) ∷
    ("-1", None) ∷
    ("FF& &", None) ∷
    ("&H&", None) ∷
    ("", None) ∷
    [])
unfolding span back skip skip_back blank_at blank_before value whole_number hex_at trimmed ampersands zero_xat digits colour_at
colours = refl
