-- The tag reference: each tag's name, the shape of its parameter, and the tag that it makes.
use Rattle.std.specs.Prelude.{List, [], ◌∷◌, Bool, ℕ, zero, suc, ◌+◌, ◌-◌, ◌*◌, leb, eqb, Float, get_or}
use Prim.Native.String.{String}
use Rattle.scan.specs.Scan.{bytes, pick, lower}
use Rattle.tag.specs.Tag.{Part, Rgb, AnimatedTag, Pos, Frz, Blur, Fscx, Fscy, Color1, Fs, ClipRect, ClipDrawing, Frx, Fry, Org, Bord, Xbord, Ybord, Shad, Xshad, Yshad, Fax, Fay, IClipRect, IClipDrawing, Color2, Color3, Color4, Alpha, Alpha1, Alpha2, Alpha3, Alpha4, Fsp, Q, An, A, Fe, I, U, S, P}
use Rattle.tag.specs.declared.KaraokeKind.{KaraokeKind}
use Rattle.tag.specs.declared.KaraokeKind.TheVariants.{Fill, Sweep, Outline}

-- what a tag's parameter is
pub data Shape : Type 0 where
  -- one f32
  float : (Float → AnimatedTag) → Shape
  -- two f32
  pair : (Float → Float → AnimatedTag) → Shape
  -- a whole number from the first to the second
  ranged : ℕ → ℕ → (ℕ → AnimatedTag) → Shape
  -- 0 or 1
  flag : (Bool → AnimatedTag) → Shape
  -- an alpha, a colour
  alpha : (ℕ → AnimatedTag) → Shape
  colour : (Rgb → AnimatedTag) → Shape
  -- four f32, else a drawing
  clip : (Float → Float → Float → Float → AnimatedTag) → (Part → AnimatedTag) → Shape
  -- centiseconds
  beat : KaraokeKind → Shape
  -- what only one tag has: \fad, \fade, \move, \be, \pbo, \b, \r
  fad : Shape
  fade : Shape
  move : Shape
  edge : Shape
  baseline : Shape
  weight : Shape
  reset : Shape
  -- no tag of this paper
  unknown : Shape

pub record Named : Type 0 where
  pub key : ℕ
  pub shape : Shape

-- A name is compared as a number, its key: its bytes as digits to the base 256. `key_with a` goes on behind the key a.
abbrev pub key_with : ℕ → List ℕ → ℕ
key_with a [] = a
key_with a (b ∷ l) = key_with (a * 256 + b) l

abbrev pub key_of : List ℕ → ℕ
key_of l = key_with 0 l

-- the key of a name written out
abbrev pub key : String → ℕ
key name = key_of (bytes name)

abbrev named : String → Shape → Named
named name s = record { key = key name; shape = s }

-- The names, in lower case: a text's name is put into it before it is looked up (`key_at`).
-- \t is not here: it holds tags. \fn and a named \r take a name from the letters behind them (`is_fn`, `is_named_reset` of Plain.antt).
unfoldable pub names : List Named
names =
    named "fad" fad ∷
    named "fade" fade ∷
    named "move" move ∷
    named "frz" (float Frz) ∷
    named "fr" (float Frz) ∷
    named "frx" (float Frx) ∷
    named "fry" (float Fry) ∷
    named "pos" (pair Pos) ∷
    named "org" (pair Org) ∷
    named "blur" (float Blur) ∷
    named "be" edge ∷
    named "bord" (float Bord) ∷
    named "xbord" (float Xbord) ∷
    named "ybord" (float Ybord) ∷
    named "shad" (float Shad) ∷
    named "xshad" (float Xshad) ∷
    named "yshad" (float Yshad) ∷
    named "pbo" baseline ∷
    named "p" (ranged 0 255 P) ∷
    named "fax" (float Fax) ∷
    named "fay" (float Fay) ∷
    named "fscx" (float Fscx) ∷
    named "fscy" (float Fscy) ∷
    named "fs" (float Fs) ∷
    named "fsp" (float Fsp) ∷
    named "q" (ranged 0 3 Q) ∷
    named "an" (ranged 1 9 An) ∷
    named "a" (ranged 0 255 A) ∷
    named "k" (beat Fill) ∷
    named "K" (beat Sweep) ∷  -- \K alone keeps its case
    named "kf" (beat Sweep) ∷
    named "ko" (beat Outline) ∷
    named "c" (colour Color1) ∷
    named "1c" (colour Color1) ∷
    named "2c" (colour Color2) ∷
    named "3c" (colour Color3) ∷
    named "4c" (colour Color4) ∷
    named "alpha" (alpha Alpha) ∷
    named "1a" (alpha Alpha1) ∷
    named "2a" (alpha Alpha2) ∷
    named "3a" (alpha Alpha3) ∷
    named "4a" (alpha Alpha4) ∷
    named "clip" (clip ClipRect ClipDrawing) ∷
    named "iclip" (clip IClipRect IClipDrawing) ∷
    named "fe" (ranged 0 255 Fe) ∷
    named "b" weight ∷
    named "i" (flag I) ∷
    named "u" (flag U) ∷
    named "s" (flag S) ∷
    named "r" reset ∷
    []

abbrev pub t_key : ℕ
t_key = key "t"

unfoldable pub lookup : ℕ → List Named → Shape
lookup k [] = unknown
lookup k (n ∷ l) = let r = lookup k l in pick (eqb k n.key) n.shape r

-- n bytes from i on, in lower case
unfoldable pub lowered : List ℕ → ℕ → ℕ → List ℕ
lowered s zero i = []
lowered s (suc n) i = lower (get_or s i 0) ∷ lowered s n (i + 1)

-- the name from i to e; no tag's name has more than five bytes
unfoldable pub key_at : List ℕ → ℕ → ℕ → ℕ
key_at s i e =
    let k = key_of (lowered s (e - i) i) in
    pick (leb (e - i) 5) (pick (eqb (e - i) 1) (pick (eqb (get_or s i 0) (key "K")) (key "K") k) k) 0
