-- What the inner functions say, in the code's words: nothing here is a promise to a caller.
-- The words of a plain tag's record, from the words of its numbers, proved to be the record of the tag (proofs/Bridge.antt).
use Rattle.std.specs.Prelude.{◌≡◌, List, Option, Some, None, Bool, true, false, ℕ, ◌+◌, ◌-◌, ◌^◌, min, leb, ltb, eqb, get_or}
use Rattle.std.specs.Float.{binary32}
use Rattle.std.specs.Float.Ieee.{of_bits, to_signed}
use Rattle.scan.specs.Scan.{pick, either, trim_start, trim_end}
use Rattle.float.specs.Float.{zero as plus_zero, reach, max_zero, round_away, round_byte, to_word}
use Rattle.numeral.specs.Numeral.{f32_at, i32_at, word_of_f32, word_of_i32}
use Rattle.numeral.specs.declared.Numeral.{Numeral}
use Rattle.numeral.specs.declared.Numeral.TheVariants.{No, TooLong, Word}
use Rattle.lists.specs.Inner.{items_to, numbers_of}
use Rattle.lists.specs.declared.Numbers.{Numbers}
use Rattle.colour.specs.Colour.{alpha_at, colour_at}
use Rattle.colour.specs.declared.Rgb as C
use Rattle.tag.specs.declared.Record.{Record}
use Rattle.tag.specs.Tag as Tag
use Rattle.tag.specs.Tag.{AnimatedTag}
use Rattle.tag.specs.Table.{rec, head, kind_word}
use Rattle.plain.specs.declared.Shape as Code
use Rattle.plain.specs.declared.Shape.TheVariants.{Float, Pair, Ranged, Flag, Alpha, Colour, Clip, Beat, Fad, Fade, Move, Edge, Baseline, Weight, Reset, Unknown}
use Rattle.plain.specs.declared.Kept.{Kept}
use Rattle.plain.specs.Names as Names
use Rattle.plain.specs.Plain.{One, no, long, kept, far, part}

-- what a tag gives, as the code has it
abbrev pub kept_of : One → Kept
kept_of no = Kept.No
kept_of (long p) = Kept.Long p
kept_of (kept x) = Kept.Tag (head x)
kept_of (far x) = Kept.Far (head x)

-- a shape as the code has it: with the kind of the records that it makes
abbrev pub kind_of : AnimatedTag → ℕ
kind_of x = (head x).kind

unfoldable pub code_of : Names.Shape → Code.Shape
code_of (Names.float f) = Float (kind_of (f plus_zero))
code_of (Names.pair f) = Pair (kind_of (f plus_zero plus_zero))
code_of (Names.ranged a b f) = Ranged (kind_of (f 0)) a b
code_of (Names.flag f) = Flag (kind_of (f false))
code_of (Names.alpha f) = Alpha (kind_of (f 0))
code_of (Names.colour f) = Colour (kind_of (f (record { red = 0; green = 0; blue = 0 })))
code_of (Names.clip f g) = Clip (kind_of (f plus_zero plus_zero plus_zero plus_zero)) (kind_of (g (record { offset = 0; size = 0 })))
code_of (Names.beat k) = Beat k
code_of Names.fad = Fad
code_of Names.fade = Fade
code_of Names.move = Move
code_of Names.edge = Edge
code_of Names.baseline = Baseline
code_of Names.weight = Weight
code_of Names.reset = Reset
code_of Names.unknown = Unknown

abbrev pub keep_word : (ℕ → Record) → Numeral → Kept
keep_word f No = Kept.No
keep_word f (TooLong p) = Kept.Long p
keep_word f (Word w) = Kept.Tag (f w)

-- the same of a code's closure, that gives the record of a word
abbrev pub KeepsWord : (ℕ → Record → Type 0) → Numeral → Kept → Type 0
KeepsWord P No k = k ≡ Kept.No
KeepsWord P (TooLong p) k = k ≡ Kept.Long p
KeepsWord P (Word w) k = (r : Record) × P w r × (k ≡ Kept.Tag r)

abbrev pub kept_record : Option Record → Kept
kept_record (Some r) = Kept.Tag r
kept_record None = Kept.No

abbrev pub beat_word : ℕ → ℕ
beat_word w = to_word (round_away (max_zero (of_bits binary32 w)))

abbrev pub edge_word : ℕ → ℕ
edge_word w = round_byte (of_bits binary32 w)

abbrev pub baseline_word : ℕ → ℕ
baseline_word w = to_word (round_away (of_bits binary32 w))

abbrev pub cut_word : ℕ → ℕ
cut_word w = to_word (to_signed 31 (of_bits binary32 w))

abbrev pub long_or : Option ℕ → Kept → Kept
long_or None k = k
long_or (Some p) k = Kept.Long p

abbrev pub nth_word : List ℕ → ℕ → ℕ
nth_word w n = get_or w n 0

unfoldable pub pair_tag : ℕ → Bool → ℕ → List ℕ → Kept
pair_tag k all n w = pick all (pick (eqb n 2) (Kept.Tag (rec k (nth_word w 0) (nth_word w 1) 0 0 0 0 0)) Kept.No) Kept.No

unfoldable pub move_tag : Bool → ℕ → List ℕ → Kept
move_tag all n w =
    pick all
    (pick (eqb n 4) (Kept.Tag (rec 4 (nth_word w 0) (nth_word w 1) (nth_word w 2) (nth_word w 3) 0 0 0))
    (pick (eqb n 6) (Kept.Tag (rec 4 (nth_word w 0) (nth_word w 1) (nth_word w 2) (nth_word w 3) 1 (cut_word (nth_word w 4)) (cut_word (nth_word w 5)))) Kept.No))
    Kept.No

abbrev pub not_below_zero_word : ℕ → ℕ
not_below_zero_word w = pick (ltb w 2147483648) w 0

abbrev pub byte_word : ℕ → ℕ
byte_word w = min (not_below_zero_word w) 255

-- a signed word beyond ±`reach`
abbrev pub far_word : ℕ → Bool
far_word w = pick (leb w reach) false (ltb w (2 ^ 32 - reach))

unfoldable pub fad_tag : Bool → ℕ → List ℕ → Kept
fad_tag all n w = pick all (pick (leb 2 n) (Kept.Tag (rec 1 (not_below_zero_word (nth_word w 0)) (not_below_zero_word (nth_word w 1)) 0 0 0 0 0)) Kept.No) Kept.No

unfoldable pub fade_tag : Bool → ℕ → List ℕ → Kept
fade_tag all n w =
    let x = rec 2 (byte_word (nth_word w 0)) (byte_word (nth_word w 1)) (byte_word (nth_word w 2)) (nth_word w 3) (nth_word w 4) (nth_word w 5) (nth_word w 6) in
    let f = either (far_word (nth_word w 3)) (either (far_word (nth_word w 4)) (either (far_word (nth_word w 5)) (far_word (nth_word w 6)))) in
    pick all (pick (leb 7 n) (pick f (Kept.Far x) (Kept.Tag x)) Kept.No) Kept.No

unfoldable pub ranged_tag : ℕ → ℕ → ℕ → Numeral → Kept
ranged_tag k low high No = Kept.No
ranged_tag k low high (TooLong p) = Kept.No
ranged_tag k low high (Word w) = pick (leb low w) (pick (leb w high) (Kept.Tag (rec k w 0 0 0 0 0 0)) Kept.No) Kept.No

unfoldable pub weight_tag : Numeral → Kept
weight_tag No = Kept.No
weight_tag (TooLong p) = Kept.No
weight_tag (Word w) = pick (eqb w 0) (Kept.Tag (rec 42 0 0 0 0 0 0 0)) (pick (eqb w 1) (Kept.Tag (rec 42 700 0 0 0 0 0 0)) (ranged_tag 42 100 900 (Word w)))

unfoldable pub flag_tag : ℕ → List ℕ → ℕ → ℕ → Kept
flag_tag k s p q =
    let a = trim_start s p q in
    pick (eqb (trim_end s a q - a) 1)
    (pick (eqb (get_or s a 0) 48) (Kept.Tag (rec k 0 0 0 0 0 0 0)) (pick (eqb (get_or s a 0) 49) (Kept.Tag (rec k 1 0 0 0 0 0 0)) Kept.No))
    Kept.No

abbrev pub alpha_tag : ℕ → Option ℕ → Kept
alpha_tag k None = Kept.No
alpha_tag k (Some w) = Kept.Tag (rec k w 0 0 0 0 0 0)

abbrev pub colour_tag : ℕ → Option C.Rgb → Kept
colour_tag k None = Kept.No
colour_tag k (Some c) = Kept.Tag (rec k c.red c.green c.blue 0 0 0 0)

abbrev pub part_words : Tag.Part → ℕ × ℕ
part_words x = (x.offset, x.size)

abbrev pub drawing_tag : ℕ → ℕ → ℕ → Kept
drawing_tag k p q = Kept.Tag (rec k (part p q).offset (part p q).size 0 0 0 0 0)

unfoldable pub clip_tag : ℕ → ℕ → Numbers → ℕ → ℕ → Kept
clip_tag k d n p q =
    let w = n.words in
    pick (eqb n.count 4)
    (pick n.all (long_or n.too_long (Kept.Tag (rec k (nth_word w 0) (nth_word w 1) (nth_word w 2) (nth_word w 3) 0 0 0))) (long_or n.too_long (drawing_tag d p q)))
    (drawing_tag d p q)

unfoldable pub reset_tag : List ℕ → ℕ → ℕ → Kept
reset_tag s p q =
    let a = trim_start s p q in
    let b = trim_end s a q in
    pick (ltb a b) (Kept.Tag (rec 41 1 (part a b).offset (part a b).size 0 0 0 0)) (Kept.Tag (rec 41 0 0 0 0 0 0 0))

abbrev pub numbers_at : Bool → List ℕ → ℕ → ℕ → Numbers
numbers_at whole s p q = numbers_of (items_to whole s p q)

unfoldable pub shaped_tag : Code.Shape → List ℕ → ℕ → ℕ → Kept
shaped_tag (Float k) s p q = keep_word (λ w. rec k w 0 0 0 0 0 0) (word_of_f32 (f32_at s p q))
shaped_tag (Pair k) s p q = let n = numbers_at false s p q in long_or n.too_long (pair_tag k n.all n.count n.words)
shaped_tag (Ranged k a b) s p q = ranged_tag k a b (word_of_i32 (i32_at s p q))
shaped_tag (Flag k) s p q = flag_tag k s p q
shaped_tag (Alpha k) s p q = alpha_tag k (alpha_at s p q)
shaped_tag (Colour k) s p q = colour_tag k (colour_at s p q)
shaped_tag (Clip k d) s p q = clip_tag k d (numbers_at false s p q) p q
shaped_tag (Beat k) s p q = keep_word (λ w. rec 46 (kind_word k) (beat_word w) 0 0 0 0 0) (word_of_f32 (f32_at s p q))
shaped_tag Fad s p q = let n = numbers_at true s p q in fad_tag n.all n.count n.words
shaped_tag Fade s p q = let n = numbers_at true s p q in fade_tag n.all n.count n.words
shaped_tag Move s p q = let n = numbers_at false s p q in long_or n.too_long (move_tag n.all n.count n.words)
shaped_tag Edge s p q = keep_word (λ w. rec 22 (edge_word w) 0 0 0 0 0 0) (word_of_f32 (f32_at s p q))
shaped_tag Baseline s p q = keep_word (λ w. rec 47 (baseline_word w) 0 0 0 0 0 0) (word_of_f32 (f32_at s p q))
shaped_tag Weight s p q = weight_tag (word_of_i32 (i32_at s p q))
shaped_tag Reset s p q = reset_tag s p q
shaped_tag Unknown s p q = Kept.No

unfoldable pub fn_tag : List ℕ → ℕ → ℕ → ℕ → ℕ → Kept
fn_tag s i m p q =
    let x = part (i + 2) m in
    let y = part p (trim_end s p q) in
    Kept.Tag (rec 39 x.offset x.size y.offset y.size 0 0 0)
