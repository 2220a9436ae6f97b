-- 01, A table record: the table as an encoding of the tags.
use Rattle.std.specs.Prelude.{ℕ, ◌/◌, List, [], ◌∷◌, ◌++◌, Bool, true, false, Float, length, get_or}
pub use Rattle.rows.specs.Rows.{bits}
use Rattle.rows.specs.Rows.{laid_rows}
use Rattle.float.specs.Float.{to_word}
use Rattle.tag.specs.declared.Record.{Record}
use Rattle.tag.specs.Tag.{Part, Times, absent, times, Rgb, Reset, plain, named, AnimatedTag, Fad, Fade, Pos, Move, Frz, Blur, Fscx, Fscy, Color1, Fs, ClipRect, ClipDrawing, Frx, Fry, Org, Bord, Xbord, Ybord, Shad, Xshad, Yshad, Be, Fax, Fay, IClipRect, IClipDrawing, Color2, Color3, Color4, Alpha, Alpha1, Alpha2, Alpha3, Alpha4, Fsp, Q, An, A, Fn, Fe, R, B, I, U, S, Karaoke, Pbo, P, T, Tags, fold_tag, fold_tags, count}
use Rattle.tag.specs.declared.KaraokeKind.{KaraokeKind}
use Rattle.tag.specs.declared.KaraokeKind.TheVariants.{Fill, Sweep, Outline}

-- the words of a record
abbrev pub width : ℕ
width = 8

-- a record: its kind and seven words
abbrev pub rec : ℕ → ℕ → ℕ → ℕ → ℕ → ℕ → ℕ → ℕ → Record
rec k a b c d e f g = record { kind = k; w1 = a; w2 = b; w3 = c; w4 = d; w5 = e; w6 = f; w7 = g }

-- its first words given; the others are 0
abbrev pub record_of : ℕ → List ℕ → Record
record_of k l = rec k (get_or l 0 0) (get_or l 1 0) (get_or l 2 0) (get_or l 3 0) (get_or l 4 0) (get_or l 5 0) (get_or l 6 0)

abbrev pub words : Record → List ℕ
words r = r.kind ∷ r.w1 ∷ r.w2 ∷ r.w3 ∷ r.w4 ∷ r.w5 ∷ r.w6 ∷ r.w7 ∷ []

abbrev pub flag_word : Bool → ℕ
flag_word true = 1
flag_word false = 0

abbrev pub kind_word : KaraokeKind → ℕ
kind_word Fill = 0
kind_word Sweep = 1
kind_word Outline = 2

-- a flag for the times, and both; absent times are 0
abbrev pub times_flag : Times → ℕ
times_flag absent = 0
times_flag (times a b) = 1

abbrev pub times_start : Times → ℕ
times_start absent = 0
times_start (times a b) = to_word a

abbrev pub times_end : Times → ℕ
times_end absent = 0
times_end (times a b) = to_word b

-- the record of one f32, of two, of four, of one number, of a part, of a colour, of a \r, of a \t with n records inside
abbrev pub one_float : ℕ → Float → Record
one_float k x = rec k (bits x) 0 0 0 0 0 0

abbrev pub two_floats : ℕ → Float → Float → Record
two_floats k x y = rec k (bits x) (bits y) 0 0 0 0 0

abbrev pub four_floats : ℕ → Float → Float → Float → Float → Record
four_floats k x y z w = rec k (bits x) (bits y) (bits z) (bits w) 0 0 0

abbrev pub one_number : ℕ → ℕ → Record
one_number k n = rec k n 0 0 0 0 0 0

abbrev pub part_record : ℕ → Part → Record
part_record k x = rec k x.offset x.size 0 0 0 0 0

abbrev pub rgb_record : ℕ → Rgb → Record
rgb_record k c = rec k c.red c.green c.blue 0 0 0 0

abbrev pub reset_record : Reset → Record
reset_record plain = rec 41 0 0 0 0 0 0 0
reset_record (named x) = rec 41 1 x.offset x.size 0 0 0 0

abbrev pub t_record : Times → Float → ℕ → Record
t_record t x n = rec 49 (times_flag t) (times_start t) (times_end t) (bits x) n 0 0

-- a tag's own record; that of a \t counts the tags inside it
abbrev pub head : AnimatedTag → Record
head (Fad a b) = rec 1 a b 0 0 0 0 0
head (Fade a b c d e f g) = rec 2 a b c (to_word d) (to_word e) (to_word f) (to_word g)
head (Pos x y) = two_floats 3 x y
head (Move x y z w t) = rec 4 (bits x) (bits y) (bits z) (bits w) (times_flag t) (times_start t) (times_end t)
head (Frz x) = one_float 5 x
head (Blur x) = one_float 6 x
head (Fscx x) = one_float 7 x
head (Fscy x) = one_float 8 x
head (Color1 c) = rgb_record 9 c
head (Fs x) = one_float 10 x
head (ClipRect x y z w) = four_floats 11 x y z w
head (ClipDrawing x) = part_record 12 x
head (Frx x) = one_float 13 x
head (Fry x) = one_float 14 x
head (Org x y) = two_floats 15 x y
head (Bord x) = one_float 16 x
head (Xbord x) = one_float 17 x
head (Ybord x) = one_float 18 x
head (Shad x) = one_float 19 x
head (Xshad x) = one_float 20 x
head (Yshad x) = one_float 21 x
head (Be n) = one_number 22 n
head (Fax x) = one_float 23 x
head (Fay x) = one_float 24 x
head (IClipRect x y z w) = four_floats 25 x y z w
head (IClipDrawing x) = part_record 26 x
head (Color2 c) = rgb_record 27 c
head (Color3 c) = rgb_record 28 c
head (Color4 c) = rgb_record 29 c
head (Alpha n) = one_number 30 n
head (Alpha1 n) = one_number 31 n
head (Alpha2 n) = one_number 32 n
head (Alpha3 n) = one_number 33 n
head (Alpha4 n) = one_number 34 n
head (Fsp x) = one_float 35 x
head (Q n) = one_number 36 n
head (An n) = one_number 37 n
head (A n) = one_number 38 n
head (Fn x y) = rec 39 x.offset x.size y.offset y.size 0 0 0
head (Fe n) = one_number 40 n
head (R r) = reset_record r
head (B n) = one_number 42 n
head (I b) = one_number 43 (flag_word b)
head (U b) = one_number 44 (flag_word b)
head (S b) = one_number 45 (flag_word b)
head (Karaoke k n) = rec 46 (kind_word k) n.0 0 0 0 0 0
head (Pbo z) = one_number 47 (to_word z)
head (P n) = one_number 48 n
head (T t x l) = t_record t x (count l)

-- the records of a tag: its own, then those of all inside it
unfoldable pub records : AnimatedTag → List Record
records x = fold_tag (λ x rs. head x ∷ rs) [] ◌++◌ x

-- the records of all tags
unfoldable pub encode : Tags → List Record
encode l = fold_tags (λ x rs. head x ∷ rs) [] ◌++◌ l

-- a place is one whole record
abbrev pub places_of : List ℕ → ℕ
places_of t = length t / width

-- a table with the records written from its front on, as many as it has room for; every word behind them as it was
abbrev pub laid : List ℕ → List Record → List ℕ
laid t rs = laid_rows width words t rs

-- the words of records, one behind the other
unfoldable pub table_words : List Record → List ℕ
table_words [] = []
table_words (r ∷ rs) = words r ++ table_words rs
