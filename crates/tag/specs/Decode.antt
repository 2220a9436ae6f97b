-- The tags that a table's records stand for: one for each kind, in the order of the enum.
use Rattle.std.specs.Prelude.{List, [], ◌∷◌, Bool, true, false, ℕ, zero, suc, eqb, ℤ, Float, length, get_or, take, drop}
use Rattle.std.specs.Float.{binary32}
use Rattle.std.specs.Float.Ieee.{of_bits}
use Rattle.scan.specs.Scan.{pick}
use Rattle.float.specs.Float.{of_word}
use Rattle.tag.specs.declared.Record.{Record}
use Rattle.tag.specs.Tag.{Part, Times, absent, times, Rgb, Reset, plain, named, AnimatedTag, Fad, Fade, Pos, Move, Frz, Blur, Fscx, Fscy, Color1, Fs, ClipRect, ClipDrawing, Frx, Fry, Org, Bord, Xbord, Ybord, Shad, Xshad, Yshad, Be, Fax, Fay, IClipRect, IClipDrawing, Color2, Color3, Color4, Alpha, Alpha1, Alpha2, Alpha3, Alpha4, Fsp, Q, An, A, Fn, Fe, R, B, I, U, S, Karaoke, cs, Pbo, P, T, Tags, none, and}
use Rattle.tag.specs.declared.KaraokeKind.{KaraokeKind}
use Rattle.tag.specs.declared.KaraokeKind.TheVariants.{Fill, Sweep, Outline}
use Rattle.tag.specs.WellFormed.{t_kind, holds, records_of}

-- ---- words

-- the f32 of bits, the signed number of a word, a flag, the kind of a beat
abbrev pub f : ℕ → Float
f w = of_bits binary32 w

abbrev pub z : ℕ → ℤ
z w = of_word w

abbrev pub flag_of : ℕ → Bool
flag_of w = pick (eqb w 0) false true

abbrev pub beat_of : ℕ → KaraokeKind
beat_of w = pick (eqb w 0) Fill (pick (eqb w 1) Sweep Outline)

abbrev pub times_of : ℕ → ℕ → ℕ → Times
times_of flag a b = pick (eqb flag 0) absent (times (z a) (z b))

abbrev pub part_of : ℕ → ℕ → Part
part_of o n = record { offset = o; size = n }

abbrev pub rgb_of : Record → Rgb
rgb_of r = record { red = r.w1; green = r.w2; blue = r.w3 }

abbrev pub reset_of : Record → Reset
reset_of r = pick (eqb r.w1 0) plain (named (part_of r.w2 r.w3))

-- ---- one record

-- the kinds from 1 on; a T without what is inside it
unfoldable pub decoders : List (Record → AnimatedTag)
decoders =
    (λ r. Fad r.w1 r.w2) ∷
    (λ r. Fade r.w1 r.w2 r.w3 (z r.w4) (z r.w5) (z r.w6) (z r.w7)) ∷
    (λ r. Pos (f r.w1) (f r.w2)) ∷
    (λ r. Move (f r.w1) (f r.w2) (f r.w3) (f r.w4) (times_of r.w5 r.w6 r.w7)) ∷
    (λ r. Frz (f r.w1)) ∷
    (λ r. Blur (f r.w1)) ∷
    (λ r. Fscx (f r.w1)) ∷
    (λ r. Fscy (f r.w1)) ∷
    (λ r. Color1 (rgb_of r)) ∷
    (λ r. Fs (f r.w1)) ∷
    (λ r. ClipRect (f r.w1) (f r.w2) (f r.w3) (f r.w4)) ∷
    (λ r. ClipDrawing (part_of r.w1 r.w2)) ∷
    (λ r. Frx (f r.w1)) ∷
    (λ r. Fry (f r.w1)) ∷
    (λ r. Org (f r.w1) (f r.w2)) ∷
    (λ r. Bord (f r.w1)) ∷
    (λ r. Xbord (f r.w1)) ∷
    (λ r. Ybord (f r.w1)) ∷
    (λ r. Shad (f r.w1)) ∷
    (λ r. Xshad (f r.w1)) ∷
    (λ r. Yshad (f r.w1)) ∷
    (λ r. Be r.w1) ∷
    (λ r. Fax (f r.w1)) ∷
    (λ r. Fay (f r.w1)) ∷
    (λ r. IClipRect (f r.w1) (f r.w2) (f r.w3) (f r.w4)) ∷
    (λ r. IClipDrawing (part_of r.w1 r.w2)) ∷
    (λ r. Color2 (rgb_of r)) ∷
    (λ r. Color3 (rgb_of r)) ∷
    (λ r. Color4 (rgb_of r)) ∷
    (λ r. Alpha r.w1) ∷
    (λ r. Alpha1 r.w1) ∷
    (λ r. Alpha2 r.w1) ∷
    (λ r. Alpha3 r.w1) ∷
    (λ r. Alpha4 r.w1) ∷
    (λ r. Fsp (f r.w1)) ∷
    (λ r. Q r.w1) ∷
    (λ r. An r.w1) ∷
    (λ r. A r.w1) ∷
    (λ r. Fn (part_of r.w1 r.w2) (part_of r.w3 r.w4)) ∷
    (λ r. Fe r.w1) ∷
    (λ r. R (reset_of r)) ∷
    (λ r. B r.w1) ∷
    (λ r. I (flag_of r.w1)) ∷
    (λ r. U (flag_of r.w1)) ∷
    (λ r. S (flag_of r.w1)) ∷
    (λ r. Karaoke (beat_of r.w1) (cs r.w2)) ∷
    (λ r. Pbo (z r.w1)) ∷
    (λ r. P r.w1) ∷
    (λ r. T (times_of r.w1 r.w2 r.w3) (f r.w4) none) ∷
    []

-- a beat of no length, which does nothing
abbrev pub nothing : Record → AnimatedTag
nothing = λ r. Karaoke Fill (cs 0)

-- the tag of a record in range; outside the kinds there is none, and `nothing` stands for it
unfoldable pub decode_one : Record → AnimatedTag
decode_one r = get_or (nothing ∷ decoders) r.kind nothing r

-- ---- a table

-- a T's record with the tags inside it
abbrev pub decode_t : Record → Tags → AnimatedTag
decode_t r l = T (times_of r.w1 r.w2 r.w3) (f r.w4) l

-- the tags of records, over at most n of them
unfoldable pub decode_in : ℕ → List Record → Tags
decode_in zero l = none
decode_in (suc n) [] = none
decode_in (suc n) (r ∷ l) =
    let t = and (decode_t r (decode_in n (take (holds r) l))) (decode_in n (drop (holds r) l)) in
    let x = and (decode_one r) (decode_in n l) in
    pick (eqb r.kind t_kind) t x

abbrev pub decode : List Record → Tags
decode l = decode_in (length l) l

-- the tags that a table stands for
abbrev pub tags_of : List ℕ → Tags
tags_of t = decode (records_of t)
