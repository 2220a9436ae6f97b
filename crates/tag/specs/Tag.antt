-- The tags of a block, as the Rust's `AnimatedTag` has them: its cases, names and order.
-- What each means is said beside it, after the SSA v4.00+ specification and Aegisub's tag pages.
use Rattle.std.specs.Prelude.{ℕ, suc, ◌+◌, Bool, ℤ, Float}
use Rattle.tag.specs.declared.KaraokeKind.{KaraokeKind}
use Rattle.tag.specs.declared.Cs.{Cs}

-- 01, Reading: "At depth 16 a \t is dropped with its parameter unread" (02, N7: it was 8); a table's T nest no deeper
abbrev pub most_depth : ℕ
most_depth = 16

-- 01, "String": a part of the text given, by offset and length; an empty part has offset and length 0
pub record Part : Type 0 where
  pub offset : ℕ
  pub size : ℕ

-- `t1_ms` and `t2_ms` of \move and \t: both or neither
pub data Times : Type 0 where
  absent : Times
  times : ℤ → ℤ → Times

pub record Rgb : Type 0 where
  pub red : ℕ
  pub green : ℕ
  pub blue : ℕ

-- so many centiseconds
abbrev pub cs : ℕ → Cs
cs n = record { 0 = n }

-- `Option<String>` of \r: the line's own style, or the named one
pub data Reset : Type 0 where
  plain : Reset
  named : Part → Reset

mutual
  pub data AnimatedTag : Type 0 where
    -- \fad: fades in over the first milliseconds of the line and out over the last
    Fad : ℕ → ℕ → AnimatedTag
    -- \fade: alpha a1 up to t1, to a2 by t2, held to t3, to a3 by t4
    Fade : ℕ → ℕ → ℕ → ℤ → ℤ → ℤ → ℤ → AnimatedTag
    -- \pos: where the line stands
    Pos : Float → Float → AnimatedTag
    -- \move: from x1, y1 to x2, y2 between two times, or over the whole line
    Move : Float → Float → Float → Float → Times → AnimatedTag
    -- \frz, \fr: degrees around z
    Frz : Float → AnimatedTag
    -- \blur: Gaussian blur
    Blur : Float → AnimatedTag
    -- \fscx, \fscy: scale in percent
    Fscx : Float → AnimatedTag
    Fscy : Float → AnimatedTag
    -- \c, \1c: the primary colour
    Color1 : Rgb → AnimatedTag
    -- \fs: font size
    Fs : Float → AnimatedTag
    -- \clip with four numbers: the rectangle shown
    ClipRect : Float → Float → Float → Float → AnimatedTag
    -- \clip with a drawing, its scale in front: what the drawing covers is shown
    ClipDrawing : Part → AnimatedTag
    -- \frx, \fry: degrees around x and y
    Frx : Float → AnimatedTag
    Fry : Float → AnimatedTag
    -- \org: the point that rotations go around
    Org : Float → Float → AnimatedTag
    -- \bord, \xbord, \ybord: border width
    Bord : Float → AnimatedTag
    Xbord : Float → AnimatedTag
    Ybord : Float → AnimatedTag
    -- \shad, \xshad, \yshad: shadow distance
    Shad : Float → AnimatedTag
    Xshad : Float → AnimatedTag
    Yshad : Float → AnimatedTag
    -- \be: edge blur, a whole strength
    Be : ℕ → AnimatedTag
    -- \fax, \fay: shear
    Fax : Float → AnimatedTag
    Fay : Float → AnimatedTag
    -- \iclip: the same two as \clip, hidden inside
    IClipRect : Float → Float → Float → Float → AnimatedTag
    IClipDrawing : Part → AnimatedTag
    -- \2c, \3c, \4c: secondary, border and shadow colour
    Color2 : Rgb → AnimatedTag
    Color3 : Rgb → AnimatedTag
    Color4 : Rgb → AnimatedTag
    -- \alpha: all four alphas, 0 opaque; \1a to \4a: each by itself
    Alpha : ℕ → AnimatedTag
    Alpha1 : ℕ → AnimatedTag
    Alpha2 : ℕ → AnimatedTag
    Alpha3 : ℕ → AnimatedTag
    Alpha4 : ℕ → AnimatedTag
    -- \fsp: letter spacing
    Fsp : Float → AnimatedTag
    -- \q: wrap style 0 to 3
    Q : ℕ → AnimatedTag
    -- \an: alignment as on a numeric keypad; \a: in the old numbering
    An : ℕ → AnimatedTag
    A : ℕ → AnimatedTag
    -- \fn: font name, the letters behind fn and then the parameter
    Fn : Part → Part → AnimatedTag
    -- \fe: font encoding
    Fe : ℕ → AnimatedTag
    -- \r: back to a style
    R : Reset → AnimatedTag
    -- \b: weight, 0 for none
    B : ℕ → AnimatedTag
    -- \i, \u, \s: italic, underline, strikeout
    I : Bool → AnimatedTag
    U : Bool → AnimatedTag
    S : Bool → AnimatedTag
    -- \k, \kf, \K, \ko: a syllable's length in centiseconds
    Karaoke : KaraokeKind → Cs → AnimatedTag
    -- \pbo: offset of a drawing's baseline
    Pbo : ℤ → AnimatedTag
    -- \p: drawing mode and its scale
    P : ℕ → AnimatedTag
    -- \t: the tags inside come in between two times, or over the whole line, at the power accel
    T : Times → Float → Tags → AnimatedTag

  -- `Vec<AnimatedTag>`
  pub data Tags : Type 0 where
    none : Tags
    and : AnimatedTag → Tags → Tags

-- the one behind the other
unfoldable pub append : Tags → Tags → Tags
append none u = u
append (and x l) u = and x (append l u)

-- What is worked out of tags, level by level: `own` what a tag gives, from what those inside it give; `nil` what none gives;
-- `cons` what a tag gives put before what those behind it give.
abbrev mutual
  pub fold_tag : {A B : Type 0} → (AnimatedTag → A → B) → A → (B → A → A) → AnimatedTag → B
  fold_tag own nil cons (Fad a b) = own (Fad a b) nil
  fold_tag own nil cons (Fade a b c i j k h) = own (Fade a b c i j k h) nil
  fold_tag own nil cons (Pos x y) = own (Pos x y) nil
  fold_tag own nil cons (Move x y z w t) = own (Move x y z w t) nil
  fold_tag own nil cons (Frz x) = own (Frz x) nil
  fold_tag own nil cons (Blur x) = own (Blur x) nil
  fold_tag own nil cons (Fscx x) = own (Fscx x) nil
  fold_tag own nil cons (Fscy x) = own (Fscy x) nil
  fold_tag own nil cons (Color1 c) = own (Color1 c) nil
  fold_tag own nil cons (Fs x) = own (Fs x) nil
  fold_tag own nil cons (ClipRect x y z w) = own (ClipRect x y z w) nil
  fold_tag own nil cons (ClipDrawing p) = own (ClipDrawing p) nil
  fold_tag own nil cons (Frx x) = own (Frx x) nil
  fold_tag own nil cons (Fry x) = own (Fry x) nil
  fold_tag own nil cons (Org x y) = own (Org x y) nil
  fold_tag own nil cons (Bord x) = own (Bord x) nil
  fold_tag own nil cons (Xbord x) = own (Xbord x) nil
  fold_tag own nil cons (Ybord x) = own (Ybord x) nil
  fold_tag own nil cons (Shad x) = own (Shad x) nil
  fold_tag own nil cons (Xshad x) = own (Xshad x) nil
  fold_tag own nil cons (Yshad x) = own (Yshad x) nil
  fold_tag own nil cons (Be a) = own (Be a) nil
  fold_tag own nil cons (Fax x) = own (Fax x) nil
  fold_tag own nil cons (Fay x) = own (Fay x) nil
  fold_tag own nil cons (IClipRect x y z w) = own (IClipRect x y z w) nil
  fold_tag own nil cons (IClipDrawing p) = own (IClipDrawing p) nil
  fold_tag own nil cons (Color2 c) = own (Color2 c) nil
  fold_tag own nil cons (Color3 c) = own (Color3 c) nil
  fold_tag own nil cons (Color4 c) = own (Color4 c) nil
  fold_tag own nil cons (Alpha a) = own (Alpha a) nil
  fold_tag own nil cons (Alpha1 a) = own (Alpha1 a) nil
  fold_tag own nil cons (Alpha2 a) = own (Alpha2 a) nil
  fold_tag own nil cons (Alpha3 a) = own (Alpha3 a) nil
  fold_tag own nil cons (Alpha4 a) = own (Alpha4 a) nil
  fold_tag own nil cons (Fsp x) = own (Fsp x) nil
  fold_tag own nil cons (Q a) = own (Q a) nil
  fold_tag own nil cons (An a) = own (An a) nil
  fold_tag own nil cons (A a) = own (A a) nil
  fold_tag own nil cons (Fn p q) = own (Fn p q) nil
  fold_tag own nil cons (Fe a) = own (Fe a) nil
  fold_tag own nil cons (R r) = own (R r) nil
  fold_tag own nil cons (B a) = own (B a) nil
  fold_tag own nil cons (I b) = own (I b) nil
  fold_tag own nil cons (U b) = own (U b) nil
  fold_tag own nil cons (S b) = own (S b) nil
  fold_tag own nil cons (Karaoke k a) = own (Karaoke k a) nil
  fold_tag own nil cons (Pbo i) = own (Pbo i) nil
  fold_tag own nil cons (P a) = own (P a) nil
  fold_tag own nil cons (T t x l) = own (T t x l) (fold_tags own nil cons l)

  pub fold_tags : {A B : Type 0} → (AnimatedTag → A → B) → A → (B → A → A) → Tags → A
  fold_tags own nil cons none = nil
  fold_tags own nil cons (and x l) = cons (fold_tag own nil cons x) (fold_tags own nil cons l)

-- the tags inside a tag: only a \t has any
abbrev pub inside : AnimatedTag → Tags
inside (Fad a b) = none
inside (Fade a b c i j k h) = none
inside (Pos x y) = none
inside (Move x y z w t) = none
inside (Frz x) = none
inside (Blur x) = none
inside (Fscx x) = none
inside (Fscy x) = none
inside (Color1 c) = none
inside (Fs x) = none
inside (ClipRect x y z w) = none
inside (ClipDrawing p) = none
inside (Frx x) = none
inside (Fry x) = none
inside (Org x y) = none
inside (Bord x) = none
inside (Xbord x) = none
inside (Ybord x) = none
inside (Shad x) = none
inside (Xshad x) = none
inside (Yshad x) = none
inside (Be a) = none
inside (Fax x) = none
inside (Fay x) = none
inside (IClipRect x y z w) = none
inside (IClipDrawing p) = none
inside (Color2 c) = none
inside (Color3 c) = none
inside (Color4 c) = none
inside (Alpha a) = none
inside (Alpha1 a) = none
inside (Alpha2 a) = none
inside (Alpha3 a) = none
inside (Alpha4 a) = none
inside (Fsp x) = none
inside (Q a) = none
inside (An a) = none
inside (A a) = none
inside (Fn p q) = none
inside (Fe a) = none
inside (R r) = none
inside (B a) = none
inside (I b) = none
inside (U b) = none
inside (S b) = none
inside (Karaoke k a) = none
inside (Pbo i) = none
inside (P a) = none
inside (T t x l) = l

-- 01, What demand 3 speaks of: "A \t counts as one tag and each tag inside it as one more"
unfoldable pub count : Tags → ℕ
count l = fold_tags (λ x n. suc n) 0 ◌+◌ l

-- ---- parts of the text: drawings, font names and style names

abbrev pub map_reset : (Part → Part) → Reset → Reset
map_reset f plain = plain
map_reset f (named p) = named (f p)

-- a tag with its own parts changed, and with other tags inside it
abbrev pub map_own : (Part → Part) → AnimatedTag → Tags → AnimatedTag
map_own f (Fad a b) u = Fad a b
map_own f (Fade a b c i j k h) u = Fade a b c i j k h
map_own f (Pos x y) u = Pos x y
map_own f (Move x y z w t) u = Move x y z w t
map_own f (Frz x) u = Frz x
map_own f (Blur x) u = Blur x
map_own f (Fscx x) u = Fscx x
map_own f (Fscy x) u = Fscy x
map_own f (Color1 c) u = Color1 c
map_own f (Fs x) u = Fs x
map_own f (ClipRect x y z w) u = ClipRect x y z w
map_own f (ClipDrawing p) u = ClipDrawing (f p)
map_own f (Frx x) u = Frx x
map_own f (Fry x) u = Fry x
map_own f (Org x y) u = Org x y
map_own f (Bord x) u = Bord x
map_own f (Xbord x) u = Xbord x
map_own f (Ybord x) u = Ybord x
map_own f (Shad x) u = Shad x
map_own f (Xshad x) u = Xshad x
map_own f (Yshad x) u = Yshad x
map_own f (Be a) u = Be a
map_own f (Fax x) u = Fax x
map_own f (Fay x) u = Fay x
map_own f (IClipRect x y z w) u = IClipRect x y z w
map_own f (IClipDrawing p) u = IClipDrawing (f p)
map_own f (Color2 c) u = Color2 c
map_own f (Color3 c) u = Color3 c
map_own f (Color4 c) u = Color4 c
map_own f (Alpha a) u = Alpha a
map_own f (Alpha1 a) u = Alpha1 a
map_own f (Alpha2 a) u = Alpha2 a
map_own f (Alpha3 a) u = Alpha3 a
map_own f (Alpha4 a) u = Alpha4 a
map_own f (Fsp x) u = Fsp x
map_own f (Q a) u = Q a
map_own f (An a) u = An a
map_own f (A a) u = A a
map_own f (Fn p q) u = Fn (f p) (f q)
map_own f (Fe a) u = Fe a
map_own f (R r) u = R (map_reset f r)
map_own f (B a) u = B a
map_own f (I b) u = I b
map_own f (U b) u = U b
map_own f (S b) u = S b
map_own f (Karaoke k a) u = Karaoke k a
map_own f (Pbo i) u = Pbo i
map_own f (P a) u = P a
map_own f (T t x l) u = T t x u

-- all parts changed, at every depth
abbrev pub map_parts : (Part → Part) → Tags → Tags
map_parts f l = fold_tags (map_own f) none and l
