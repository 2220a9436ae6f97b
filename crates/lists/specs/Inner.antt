-- What the inner functions say, in the code's words: nothing here is a promise to a caller.
use Rattle.std.specs.Prelude.{List, [], ◌∷◌, Bool, true, false, Option, None, ℕ, ◌+◌, length, set, replicate}
use Rattle.scan.specs.Scan.{pick}
use Rattle.numeral.specs.Numeral.{i32_at, f32_at, word_of_i32, word_of_f32, too_long}
use Rattle.numeral.specs.declared.Numeral.{Numeral}
use Rattle.numeral.specs.declared.Numeral.TheVariants.{No, TooLong, Word}
use Rattle.lists.specs.declared.Numbers.{Numbers}
use Rattle.lists.specs.Lists.{Stretch, parts, first_of}

-- the number that a part holds: an i32, or an f32
abbrev pub item_at : Bool → List ℕ → ℕ → ℕ → Numeral
item_at true s p q = word_of_i32 (i32_at s p q)
item_at false s p q = word_of_f32 (f32_at s p q)

unfoldable pub items : Bool → List ℕ → List Stretch → List Numeral
items whole s [] = []
items whole s (x ∷ xs) = item_at whole s x.from x.to ∷ items whole s xs

abbrev pub items_to : Bool → List ℕ → ℕ → ℕ → List Numeral
items_to whole s p e = items whole s (parts s p e)

abbrev pub is_word : Numeral → Bool
is_word No = false
is_word (TooLong p) = false
is_word (Word w) = true

-- the word of a number, 0 where there is none
abbrev pub word_of : Numeral → ℕ
word_of No = 0
word_of (TooLong p) = 0
word_of (Word w) = w

unfoldable pub all_words : List Numeral → Bool
all_words [] = true
all_words (x ∷ l) = let r = all_words l in pick (is_word x) r false

-- the words, from the n-th place of the array a on, as far as it goes
unfoldable pub filled : List ℕ → ℕ → List Numeral → List ℕ
filled a n [] = a
filled a n (x ∷ l) = filled (set a n (word_of x)) (n + 1) l

-- 01, ground 3: the first numeral of the list that is too long
unfoldable pub first_long : List Numeral → Option ℕ
first_long [] = None
first_long (x ∷ l) = let r = first_long l in first_of (too_long x) r

abbrev pub numbers_of : List Numeral → Numbers
numbers_of l = record { all = all_words l; count = length l; words = filled (replicate 7 0) 0 l; too_long = first_long l }

-- the numbers of a list with one part more
abbrev pub pushed : Numbers → Numeral → Numbers
pushed l x = record { all = pick l.all (is_word x) false; count = l.count + 1; words = set l.words l.count (word_of x); too_long = first_of l.too_long (too_long x) }
