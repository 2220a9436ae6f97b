-- Worked examples, by computation: a list and what it holds.
use Rattle.std.specs.Prelude.{◌≡◌, refl, List, [], ◌∷◌, map, Bool, true, false, Option, Some, None, ℕ, ℤ, pos, neg_ℤ, length}
use Prim.Native.String.{String}
use Rattle.std.specs.Float.Ieee.{round, to_bits}
use Rattle.scan.specs.Scan.{bytes, span, skip, skip_back, blank_at, blank_before}
use Rattle.numeral.specs.Numeral.{value, whole_number, word_of_i32, i32_of, I32, split_at, exponent_at, float_of, f32_of}
use Rattle.lists.specs.declared.Numbers.{Numbers}
use Rattle.lists.specs.Lists.{split}
use Rattle.lists.specs.Inner.{items, items_to, word_of, all_words, filled, first_long, numbers_of}

-- what a list holds
abbrev pub holds : Bool → ℕ → List ℕ → Option ℕ → Numbers
holds all count words long = record { all = all; count = count; words = words; too_long = long }

-- whether each list, read whole, holds what its row says
abbrev pub Holds : Bool → List (String × Numbers) → Type 0
Holds whole rows = map (λ (r : String × Numbers). numbers_of (items_to whole (bytes r.0) 0 (length (bytes r.0)))) rows ≡ map (λ (r : String × Numbers). r.1) rows

pub floats : Holds false (
    ("1,2.5", holds true 2 (0x3F800000 ∷ 0x40200000 ∷ 0 ∷ 0 ∷ 0 ∷ 0 ∷ 0 ∷ []) None) ∷
    ("1,,2", holds false 3 (0x3F800000 ∷ 0 ∷ 0x40000000 ∷ 0 ∷ 0 ∷ 0 ∷ 0 ∷ []) None) ∷
    ("1,", holds false 2 (0x3F800000 ∷ 0 ∷ 0 ∷ 0 ∷ 0 ∷ 0 ∷ 0 ∷ []) None) ∷
    ("", holds false 1 (0 ∷ 0 ∷ 0 ∷ 0 ∷ 0 ∷ 0 ∷ 0 ∷ []) None) ∷
    ("x,1e9", holds false 2 (0 ∷ 0 ∷ 0 ∷ 0 ∷ 0 ∷ 0 ∷ 0 ∷ []) (Some 2)) ∷
    ("1, 1e9,1e10", holds false 3 (0x3F800000 ∷ 0 ∷ 0 ∷ 0 ∷ 0 ∷ 0 ∷ 0 ∷ []) (Some 3)) ∷
    ("1e2,2.5E-3", holds true 2 (0x42C80000 ∷ 0x3B23D70A ∷ 0 ∷ 0 ∷ 0 ∷ 0 ∷ 0 ∷ []) None) ∷
    ("0,-0,.5,1.,2,3,4,8", holds true 8 (0 ∷ 0x80000000 ∷ 0x3F000000 ∷ 0x3F800000 ∷ 0x40000000 ∷ 0x40400000 ∷ 0x40800000 ∷ []) None) ∷
    [])
unfolding round to_bits span skip skip_back blank_at blank_before value split_at exponent_at float_of f32_of split items all_words filled first_long
floats = refl

-- the word of an i32
abbrev pub int : ℤ → ℕ
int z = word_of (word_of_i32 (I32.whole z))

pub integers : Holds true (
    ("+1, -2 ,3", holds true 3 (int (pos 1) ∷ int (neg_ℤ (pos 2)) ∷ int (pos 3) ∷ 0 ∷ 0 ∷ 0 ∷ 0 ∷ []) None) ∷
    ("1,2.5", holds false 2 (int (pos 1) ∷ 0 ∷ 0 ∷ 0 ∷ 0 ∷ 0 ∷ 0 ∷ []) None) ∷
    ("1e5,7", holds false 2 (0 ∷ int (pos 7) ∷ 0 ∷ 0 ∷ 0 ∷ 0 ∷ 0 ∷ []) None) ∷
    ("1,2,3,4,5,6,7,x", holds false 8 (int (pos 1) ∷ int (pos 2) ∷ int (pos 3) ∷ int (pos 4) ∷ int (pos 5) ∷ int (pos 6) ∷ int (pos 7) ∷ []) None) ∷
    [])
unfolding span skip skip_back blank_at blank_before value whole_number i32_of split items all_words filled first_long
integers = refl
