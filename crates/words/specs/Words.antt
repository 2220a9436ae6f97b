-- A render state as the 92 words of the C interface: the fields of the Rust's RenderState in its order, less `transform`.
use Rattle.std.specs.Prelude.{replicate, ℕ, ℤ, Bool, List, [], ◌∷◌, ◌++◌, Float, Option, None, Some}
use Rattle.std.specs.Int.{from_bool}
use Rattle.float.specs.Float.{to_word}
use Rattle.rows.specs.Rows.{bits}
use Rattle.state.specs.declared.Pair.{Pair}
use Rattle.state.specs.declared.ClipRect.{ClipRect}
use Rattle.state.specs.declared.Rgb.{Rgb}
use Rattle.state.specs.declared.Part.{Part}
use Rattle.state.specs.declared.Name.{Name}
use Rattle.state.specs.declared.RenderState.{RenderState}

-- a number as itself
abbrev pub number : ℕ → List ℕ
number n = n ∷ []

-- in two's complement
abbrev pub int : ℤ → List ℕ
int z = to_word z ∷ []

abbrev pub flag : Bool → List ℕ
flag b = from_bool b ∷ []

-- an f32 as its bits, 7FC00000 for a NaN
abbrev pub f32 : Float → List ℕ
f32 x = bits x ∷ []

abbrev pub pair : Pair → List ℕ
pair p = bits p.x ∷ bits p.y ∷ []

abbrev pub rect : ClipRect → List ℕ
rect r = bits r.x1 ∷ bits r.y1 ∷ bits r.x2 ∷ bits r.y2 ∷ []

abbrev pub rgb : Rgb → List ℕ
rgb c = c.red ∷ c.green ∷ c.blue ∷ []

-- a drawing: offset and length
abbrev pub part : Part → List ℕ
part p = p.offset ∷ p.size ∷ []

-- the font name: offset, length, offset, length
abbrev pub name : Name → List ℕ
name n = n.letters.offset ∷ n.letters.size ∷ n.parameter.offset ∷ n.parameter.size ∷ []

-- an option of a value of n words: a flag, 0 or 1, and then its words, 0 where it is absent
unfoldable pub option : {A : Type 0} → ℕ → (A → List ℕ) → Option A → List ℕ
option n words None = 0 ∷ replicate n 0
option n words (Some x) = 1 ∷ words x

-- 0 none, 1 plain, 2 named; then offset and length
unfoldable pub reset : Option (Option Part) → List ℕ
reset None = 0 ∷ 0 ∷ 0 ∷ []
reset (Some None) = 1 ∷ 0 ∷ 0 ∷ []
reset (Some (Some p)) = 2 ∷ p.offset ∷ p.size ∷ []

-- Each field stands with the offset of its first word.

abbrev pub words_from0 : RenderState → List ℕ
words_from0 st =
    f32 st.always.alpha_mul  -- 0
    ++ f32 st.always.rotate_radians  -- 1
    ++ f32 st.always.rotate_x_radians  -- 2
    ++ f32 st.always.rotate_y_radians  -- 3
    ++ pair st.always.scale  -- 4
    ++ option 2 pair st.places.translate  -- 6
    ++ f32 st.always.blur_sigma  -- 9
    ++ option 4 rect st.clips.clip_rect  -- 10
    ++ option 2 part st.line.clip_drawing  -- 15

abbrev pub words_from18 : RenderState → List ℕ
words_from18 st =
    option 3 rgb st.colors.primary_color  -- 18
    ++ option 1 f32 st.sizes.font_size  -- 22
    ++ option 2 pair st.line.pivot  -- 24
    ++ option 2 pair st.places.border  -- 27
    ++ option 2 pair st.places.shadow  -- 30
    ++ number st.always.be_strength  -- 33
    ++ pair st.always.shear  -- 34
    ++ option 4 rect st.clips.iclip_rect  -- 36
    ++ option 2 part st.line.iclip_drawing  -- 41

abbrev pub words_from44 : RenderState → List ℕ
words_from44 st =
    option 3 rgb st.colors.secondary_color  -- 44
    ++ option 3 rgb st.colors.outline_color  -- 48
    ++ option 3 rgb st.colors.shadow_color  -- 52
    ++ option 1 number st.alphas.primary_alpha  -- 56
    ++ option 1 number st.alphas.secondary_alpha  -- 58
    ++ option 1 number st.alphas.outline_alpha  -- 60
    ++ option 1 number st.alphas.shadow_alpha  -- 62
    ++ option 1 f32 st.sizes.letter_spacing  -- 64
    ++ option 1 number st.line.wrap_style  -- 66
    ++ option 1 number st.line.alignment  -- 68

abbrev pub words_from70 : RenderState → List ℕ
words_from70 st =
    option 4 name st.font.font_name  -- 70
    ++ option 1 number st.font.font_encoding  -- 75
    ++ option 1 number st.font.bold_weight  -- 77
    ++ reset st.line.reset_to_style  -- 79
    ++ option 1 flag st.font.italic  -- 82
    ++ option 1 flag st.font.underline  -- 84
    ++ option 1 flag st.font.strikeout  -- 86
    ++ option 1 int st.sizes.drawing_baseline_offset  -- 88
    ++ option 1 number st.line.drawing_scale  -- 90

unfoldable pub state_words : RenderState → List ℕ
state_words st = words_from0 st ++ words_from18 st ++ words_from44 st ++ words_from70 st
