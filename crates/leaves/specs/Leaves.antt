-- What the leaf calls answer, packed into words. Remainders keep a packed word whole: of a text that is read, every place and every count is below them.
use Rattle.std.specs.Prelude.{List, Bool, true, false, ℕ, ◌+◌, ◌-◌, ◌*◌, ◌%◌, ◌^◌, length, set, leb, ℤ, Float, Option, Some, None}
use Rattle.std.proofs.Math.Seq.{paste}
use Rattle.std.specs.Float.{inf, binary32}
use Rattle.std.specs.Float.Ieee.{of_bits, to_bits, lt, le}
use Rattle.scan.specs.Scan.{pick, trim_start, trim_end, closing_to}
use Rattle.numeral.specs.Numeral.{i32_at, hex_at, f32_at, word_of_i32, word_of_f32}
use Rattle.numeral.specs.declared.Numeral.{Numeral}
use Rattle.numeral.specs.declared.Numeral.TheVariants.{No, TooLong, Word}
use Rattle.colour.specs.Colour.{alpha_at, colour_at}
use Rattle.colour.specs.declared.Rgb.{Rgb}
use Rattle.lists.specs.Inner.{items_to, numbers_of}
use Rattle.float.specs.Float.{zero, in_reach_lem, to_word}
use Rattle.root.specs.Root.{sqrt}
use Rattle.power.specs.Power.{power}

-- ---- texts. What a reading says of a whole text, 0 where it has more than 12,288 bytes
abbrev pub leaf : (List ℕ → ℕ → ℕ → ℕ) → List ℕ → ℕ
leaf read s = pick (leb (length s) 12288) (read s 0 (length s)) 0

-- a number, from bit 32 on: 0 none, 1 its word below, 2 too long, its place below
abbrev pub packed : Numeral → ℕ
packed No = 0
packed (TooLong p) = 2 * 2 ^ 32 + p % 2 ^ 32
packed (Word w) = 2 ^ 32 + w

-- a number in hexadecimal, which is never too long
abbrev pub packed_word : Option ℕ → ℕ
packed_word None = 0
packed_word (Some w) = 2 ^ 32 + w

-- a colour: 0 none, 1 with the bytes of red, green and blue below
abbrev pub packed_colour : Option Rgb → ℕ
packed_colour None = 0
packed_colour (Some c) = 2 ^ 32 + c.red * 65536 + c.green * 256 + c.blue

abbrev pub numeral_leaf : List ℕ → ℕ → ℕ → ℕ
numeral_leaf s p q = packed (word_of_f32 (f32_at s p q))

abbrev pub i32_leaf : List ℕ → ℕ → ℕ → ℕ
i32_leaf s p q = packed (word_of_i32 (i32_at s p q))

abbrev pub hex_leaf : List ℕ → ℕ → ℕ → ℕ
hex_leaf s p q = packed_word (hex_at s p q)

abbrev pub alpha_leaf : List ℕ → ℕ → ℕ → ℕ
alpha_leaf s p q = packed_word (alpha_at s p q)

abbrev pub colour_leaf : List ℕ → ℕ → ℕ → ℕ
colour_leaf s p q = packed_colour (colour_at s p q)

-- where the trimmed text starts, from bit 32 on, and ends
abbrev pub trim_leaf : List ℕ → ℕ → ℕ → ℕ
trim_leaf s p q =
    let a = trim_start s p q in
    a * 2 ^ 32 + trim_end s a q

-- the place of the parenthesis that closes one open before the text
abbrev pub closing_leaf : List ℕ → ℕ → ℕ → ℕ
closing_leaf s p q = closing_to s p q 1

-- ---- lists: whether all parts are numbers, and how many parts there are
abbrev pub packed_list : Bool → ℕ → ℕ
packed_list all count = pick all (2 ^ 32 + count % 2 ^ 32) (count % 2 ^ 32)

abbrev pub list_leaf : Bool → List ℕ → ℕ → ℕ → ℕ
list_leaf whole s p q =
    let n = numbers_of (items_to whole s p q) in
    packed_list n.all n.count

-- 0, or 1 and the place of the first part that is too long
abbrev pub packed_place : Option ℕ → ℕ
packed_place None = 0
packed_place (Some p) = p % (2 ^ 32 - 1) + 1

-- eight words in front: the words of the first seven parts, and the place
abbrev pub laid : List ℕ → List ℕ → ℕ → List ℕ
laid out words place = set (paste out 0 words 7) 7 place

-- the lent words after a list is read into them, where there are eight
abbrev pub list_words : Bool → List ℕ → List ℕ → List ℕ
list_words whole s out =
    let n = numbers_of (items_to whole s 0 (length s)) in
    pick (leb (length s) 12288) (pick (leb 8 (length out)) (laid out n.words (packed_place n.too_long)) out) out

-- ---- numbers
-- the float of a word, and the word of a float
abbrev pub of : ℕ → Float
of w = of_bits binary32 w

abbrev pub to : Float → ℕ
to x = to_bits binary32 x

-- the bits of a NaN
abbrev pub none : ℕ
none = 0x7FC00000

-- what stands for a number that is out of reach
abbrev pub far : ℕ
far = 0x80000000

-- finite and not below zero
abbrev pub rooted : Float → Bool
rooted x = pick (le zero x) (lt x (inf false)) false

abbrev pub finite : Float → Bool
finite x = pick (lt (inf true) x) (lt x (inf false)) false

abbrev pub root_leaf : Float → ℕ
root_leaf x = pick (rooted x) (to (sqrt binary32 x)) none

abbrev pub power_leaf : Float → Float → ℕ
power_leaf x a = pick (rooted x) (pick (finite a) (to (power x a)) none) none

-- a float to a whole number, where it is in reach
abbrev pub whole_leaf : (Float → ℤ) → Float → ℕ
whole_leaf whole x = pick (in_reach_lem x) (to_word (whole x)) far
