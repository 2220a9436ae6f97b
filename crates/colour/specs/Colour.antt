-- Alphas and colours: Rust's `parse_alpha_byte` and `parse_color_rgb`, by positions. 01, Numerals: hexadecimal follows Rust's u32.
use Rattle.std.specs.Prelude.{List, Bool, Option, Some, None, ℕ, ◌+◌, ◌-◌, ◌/◌, ◌%◌, min, get_or, leb, eqb}
use Rattle.scan.specs.Scan.{pick, only, one_of, span_to, back_to, skip_to, trim_start, trim_end}
use Rattle.numeral.specs.Numeral.{hex_at}
use Rattle.colour.specs.declared.Stretch.{Stretch}
use Rattle.colour.specs.declared.Rgb.{Rgb}

abbrev pub is_ampersand : ℕ → Bool
is_ampersand b = only 38 b

-- `trim`
unfoldable pub trimmed : List ℕ → ℕ → ℕ → Stretch
trimmed s p q =
    let a = trim_start s p q in
    record { from = a; to = trim_end s a q }

-- `trim_matches('&')`
unfoldable pub ampersands : List ℕ → ℕ → ℕ → Stretch
ampersands s p q =
    let a = span_to is_ampersand s p q in
    record { from = a; to = back_to is_ampersand s a q }

-- the width of a `0x` that starts at i, before e; 0 where none does
unfoldable pub zero_xat : List ℕ → ℕ → ℕ → ℕ
zero_xat s i e = pick (leb 2 (e - i)) (pick (eqb (get_or s i 0) 48) (pick (eqb (get_or s (i + 1) 0) 120) 2 0) 0) 0

-- what both drop first: blanks, ampersands, then every H or h and every `0x` in front
unfoldable pub digits : List ℕ → ℕ → ℕ → Stretch
digits s p q =
    let t = trimmed s p q in
    let u = ampersands s t.from t.to in
    let h = span_to (one_of 72 104) s u.from u.to in
    record { from = skip_to zero_xat s h u.to; to = u.to }

abbrev pub cap : Option ℕ → Option ℕ
cap None = None
cap (Some v) = Some (min v 255)

-- the byte of an alpha: `trim_matches('&')` and `trim` once more, then hexadecimal, at most 255
unfoldable pub alpha_at : List ℕ → ℕ → ℕ → Option ℕ
alpha_at s p q =
    let d = digits s p q in
    let u = ampersands s d.from d.to in
    let t = trimmed s u.from u.to in
    cap (hex_at s t.from t.to)

-- `&Hbbggrr&`: the lowest byte is red
abbrev pub rgb : Option ℕ → Option Rgb
rgb None = None
rgb (Some v) = Some (record { red = v % 256; green = v / 256 % 256; blue = v / 65536 % 256 })

-- a colour: `trim_end_matches('&')` and `trim` once more, then hexadecimal
unfoldable pub colour_at : List ℕ → ℕ → ℕ → Option Rgb
colour_at s p q =
    let d = digits s p q in
    let e = back_to is_ampersand s d.from d.to in
    let t = trimmed s d.from e in
    rgb (hex_at s t.from t.to)
