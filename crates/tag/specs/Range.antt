-- 01, A table record: the range of every word, by kind. One row for each kind, and the few rules that join words.
use Rattle.std.specs.Prelude.{List, [], ◌∷◌, Bool, true, false, ℕ, ◌+◌, ◌-◌, ◌^◌, leb, ltb, eqb, length, get_or}
use Rattle.std.specs.Float.{binary32}
use Rattle.std.specs.Float.Ieee.{of_bits}
use Rattle.scan.specs.Scan.{pick, within}
use Rattle.float.specs.Float.{reach, in_reach_lem}
use Rattle.refusal.specs.Refusal.{most_bytes}
use Rattle.tag.specs.declared.Record.{Record}

-- what a word may be
pub data WordClass : Type 0 where
  -- an unused word: 0
  unused : WordClass
  -- the bits of a finite f32, magnitude at most 1,000,000,000
  float : WordClass
  -- from the first number to the second
  range : ℕ → ℕ → WordClass
  -- in two's complement, within ±1,000,000,000
  time : WordClass
  -- \b: 0 or 100 to 900
  weight : WordClass
  -- any word: another rule speaks of it
  free : WordClass

abbrev byte : WordClass
byte = range 0 255

abbrev flag : WordClass
flag = range 0 1

abbrev pub time_word : ℕ → Bool
time_word w = pick (leb w reach) true (within (2 ^ 32 - reach) (2 ^ 32 - 1) w)

abbrev pub word_fits : WordClass → ℕ → Bool
word_fits unused w = eqb w 0
word_fits float w = in_reach_lem (of_bits binary32 w)
word_fits (range a b) w = within a b w
word_fits time w = time_word w
word_fits weight w = pick (eqb w 0) true (within 100 900 w)
word_fits free w = true

-- a kind's words: those that are not named are unused
pub record Row : Type 0 where
  pub c1 : WordClass
  pub c2 : WordClass
  pub c3 : WordClass
  pub c4 : WordClass
  pub c5 : WordClass
  pub c6 : WordClass
  pub c7 : WordClass
  -- what joins words
  pub join : Record → Bool

-- no rule joins words
abbrev any_words : Record → Bool
any_words r = true

abbrev row : WordClass → WordClass → WordClass → WordClass → WordClass → WordClass → WordClass → Row
row a b c d e f g = record { c1 = a; c2 = b; c3 = c; c4 = d; c5 = e; c6 = f; c7 = g; join = any_words }

abbrev joined : (Record → Bool) → Row → Row
joined j c = record { c1 = c.c1; c2 = c.c2; c3 = c.c3; c4 = c.c4; c5 = c.c5; c6 = c.c6; c7 = c.c7; join = j }

abbrev one_word : WordClass → Row
one_word a = row a unused unused unused unused unused unused

abbrev two_words : WordClass → WordClass → Row
two_words a b = row a b unused unused unused unused unused

abbrev colour_row : Row
colour_row = row byte byte byte unused unused unused unused

abbrev rect_row : Row
rect_row = row float float float float unused unused unused

-- absent times are 0
abbrev pub times_fit : ℕ → ℕ → ℕ → Bool
times_fit f a b = pick (eqb f 0) (pick (eqb a 0) (eqb b 0) false) true

-- offset plus length at most 12,288, the offset of an empty part 0
abbrev pub part_fits : ℕ → ℕ → Bool
part_fits o n = pick (eqb n 0) (eqb o 0) (leb (o + n) most_bytes)

abbrev move_times : Record → Bool
move_times r = times_fit r.w5 r.w6 r.w7

abbrev t_times : Record → Bool
t_times r = times_fit r.w1 r.w2 r.w3

abbrev drawing : Record → Bool
drawing r = part_fits r.w1 r.w2

-- \fn: both parts, and one of them not empty
abbrev font_name : Record → Bool
font_name r = pick (part_fits r.w1 r.w2) (pick (part_fits r.w3 r.w4) (ltb 0 (r.w2 + r.w4)) false) false

-- \r: no name, or one that is not empty
abbrev style_name : Record → Bool
style_name r = pick (eqb r.w1 0) (pick (eqb r.w2 0) (eqb r.w3 0) false) (pick (part_fits r.w2 r.w3) (ltb 0 r.w3) false)

-- the kinds from 1 on
unfoldable pub rows : List Row
rows =
    two_words (range 0 2147483647) (range 0 2147483647) ∷  -- Fad
    row byte byte byte time time time time ∷  -- Fade
    two_words float float ∷  -- Pos
    joined move_times (row float float float float flag time time) ∷  -- Move
    one_word float ∷  -- Frz
    one_word float ∷  -- Blur
    one_word float ∷  -- Fscx
    one_word float ∷  -- Fscy
    colour_row ∷  -- Color1
    one_word float ∷  -- Fs
    rect_row ∷  -- ClipRect
    joined drawing (two_words free free) ∷  -- ClipDrawing
    one_word float ∷  -- Frx
    one_word float ∷  -- Fry
    two_words float float ∷  -- Org
    one_word float ∷  -- Bord
    one_word float ∷  -- Xbord
    one_word float ∷  -- Ybord
    one_word float ∷  -- Shad
    one_word float ∷  -- Xshad
    one_word float ∷  -- Yshad
    one_word byte ∷  -- Be
    one_word float ∷  -- Fax
    one_word float ∷  -- Fay
    rect_row ∷  -- IClipRect
    joined drawing (two_words free free) ∷  -- IClipDrawing
    colour_row ∷  -- Color2
    colour_row ∷  -- Color3
    colour_row ∷  -- Color4
    one_word byte ∷  -- Alpha
    one_word byte ∷  -- Alpha1
    one_word byte ∷  -- Alpha2
    one_word byte ∷  -- Alpha3
    one_word byte ∷  -- Alpha4
    one_word float ∷  -- Fsp
    one_word (range 0 3) ∷  -- Q
    one_word (range 1 9) ∷  -- An
    one_word byte ∷  -- A
    joined font_name (row free free free free unused unused unused) ∷  -- Fn
    one_word byte ∷  -- Fe
    joined style_name (row flag free free unused unused unused unused) ∷  -- R
    one_word weight ∷  -- B
    one_word flag ∷  -- I
    one_word flag ∷  -- U
    one_word flag ∷  -- S
    two_words (range 0 2) (range 0 reach) ∷  -- Karaoke
    one_word time ∷  -- Pbo
    one_word byte ∷  -- P
    joined t_times (row flag time time float free unused unused) ∷  -- T
    []

-- a kind with no row has no record in range
abbrev pub no_row : Row
no_row = joined (λ r. false) (row unused unused unused unused unused unused unused)

abbrev pub row_fits : Row → Record → Bool
row_fits c r =
    pick (word_fits c.c1 r.w1) (pick (word_fits c.c2 r.w2) (pick (word_fits c.c3 r.w3) (pick (word_fits c.c4 r.w4)
    (pick (word_fits c.c5 r.w5) (pick (word_fits c.c6 r.w6) (word_fits c.c7 r.w7) false) false) false) false) false) false

-- whether a record is in range: what 01 asks of its own words (how far a T reaches is asked of the table)
unfoldable pub in_range : Record → Bool
in_range r =
    let c = get_or rows (r.kind - 1) no_row in
    pick (within 1 (length rows) r.kind) (pick (row_fits c r) (c.join r) false) false
