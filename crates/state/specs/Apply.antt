-- What a tag does to the state at an instant t of a line that lasts dur milliseconds: `apply_tag` of the Rust, one clause for each case.
use Rattle.std.specs.Prelude.{ℕ, ◌-◌, min, [], ◌∷◌, eqb, leb, ltb, ℤ, pos, negsuc, ◌-ℤ◌, Float, get_or, Option, None, Some, unwrap_or}
use Rattle.std.specs.Int.Signed.{lt_z}
use Rattle.std.specs.Float.{binary32}
use Rattle.std.specs.Float.Ieee.{mul, div, sub, le, of_int}
use Rattle.scan.specs.Scan.{pick, within}
use Rattle.float.specs.Float.{zero, one, max_zero, clamp, to_radians}
use Rattle.tag.specs.Tag.{Part as TagPart, Rgb as TagRgb, Reset, plain, named, AnimatedTag, Fad, Fade, Pos, Move, Frz, Blur, Fscx, Fscy, Color1, Fs, ClipRect, ClipDrawing, Frx, Fry, Org, Bord, Xbord, Ybord, Shad, Xshad, Yshad, Be, Fax, Fay, IClipRect, IClipDrawing, Color2, Color3, Color4, Alpha, Alpha1, Alpha2, Alpha3, Alpha4, Fsp, Q, An, A, Fn, Fe, R, B, I, U, S, Karaoke, Pbo, P, T, Tags, fold_tags}
use Rattle.state.specs.declared.Pair.{Pair}
use Rattle.state.specs.declared.ClipRect.{ClipRect as Rect}
use Rattle.state.specs.declared.Rgb.{Rgb}
use Rattle.state.specs.declared.Part.{Part}
use Rattle.state.specs.declared.Always.{Always}
use Rattle.state.specs.declared.Alphas.{Alphas}
use Rattle.state.specs.declared.Line.{Line}
use Rattle.state.specs.declared.RenderState.{RenderState}
use Rattle.state.specs.State.{splat, identity, with_always, with_places, with_clips, with_sizes, with_colors, with_alphas, with_line, with_font, set_alpha_mul, set_rotate_radians, set_rotate_xradians, set_rotate_yradians, set_scale, set_blur_sigma, set_be_strength, set_shear, set_translate, set_border, set_shadow, set_clip_rect, set_iclip_rect, set_font_size, set_letter_spacing, set_drawing_baseline_offset, set_primary_color, set_secondary_color, set_outline_color, set_shadow_color, set_primary_alpha, set_secondary_alpha, set_outline_alpha, set_shadow_alpha, set_pivot, set_clip_drawing, set_iclip_drawing, set_wrap_style, set_alignment, set_reset_to_style, set_drawing_scale, set_font_name, set_font_encoding, set_bold_weight, set_italic, set_underline, set_strikeout}
use Rattle.state.specs.Mix.{quotient, advance, start_of, end_of, factor, of_nat, cut_between, mix_pair, between}

-- ---- \fad

-- `max(0)`
abbrev pub from_zero_lem : ℤ → ℕ
from_zero_lem (pos n) = n
from_zero_lem (negsuc n) = 0

-- comes in over the first t1 milliseconds
unfoldable pub fade_in : ℕ → ℕ → Float
unfolding quotient
fade_in t1 t = pick (ltb t t1) (quotient (pos t) (pos t1)) one

-- goes out over the last t2 of d milliseconds
unfoldable pub fade_out : ℕ → ℕ → ℕ → Float
unfolding quotient clamp
fade_out t2 t d = pick (eqb t2 0) one (pick (leb d t) zero (pick (ltb (d - t2) t) (clamp (quotient (pos (d - t)) (pos t2)) zero one) one))

-- `fad_alpha`
unfoldable pub fad_alpha : ℕ → ℕ → ℤ → ℤ → Float
unfolding fade_in fade_out clamp mul
fad_alpha t1 t2 t dur = clamp (mul binary32 (fade_in t1 (from_zero_lem t)) (fade_out t2 (from_zero_lem t) (from_zero_lem dur))) zero one

-- ---- \fade

-- A byte's field. No tag that a table stands for has more there.
abbrev pub byte : ℕ → ℕ
byte n = min n 255

-- `fade_alpha`
unfoldable pub fade_alpha : ℕ → ℕ → ℕ → ℤ → ℤ → ℤ → ℤ → ℤ → ℕ
unfolding quotient cut_between
fade_alpha a1 a2 a3 t1 t2 t3 t4 t =
    pick (lt_z t t1) a1 (pick (lt_z t t2) (cut_between a1 a2 (quotient (t -ℤ t1) (t2 -ℤ t1)))
    (pick (lt_z t t3) a2 (pick (lt_z t t4) (cut_between a2 a3 (quotient (t -ℤ t3) (t4 -ℤ t3))) a3)))

-- `ass_alpha_to_mul`: 0 is opaque, 255 transparent
unfoldable pub alpha_to_mul : ℕ → Float
unfolding of_int div sub
alpha_to_mul a = sub binary32 one (div binary32 (of_nat a) (of_nat 255))

-- \fad and \fade multiply what there is
unfoldable pub faded : Always → Float → Always
unfolding mul
faded s m = set_alpha_mul s (mul binary32 s.alpha_mul m)

-- ---- places, rectangles, names

abbrev pub pair : Float → Float → Pair
pair x y = record { x = x; y = y }

-- one axis alone, the other as it is, 0 where there is none
abbrev pub with_x : Option Pair → Float → Pair
with_x p x = pair x (unwrap_or p (splat zero)).y

abbrev pub with_y : Option Pair → Float → Pair
with_y p y = pair (unwrap_or p (splat zero)).x y

-- `percent / 100.0`
unfoldable pub hundredth : Float → Float
unfolding div of_int
hundredth x = div binary32 x (of_nat 100)

-- the corners in order
unfoldable pub rect_of : Float → Float → Float → Float → Rect
unfolding le
rect_of x1 y1 x2 y2 = record { x1 = pick (le x1 x2) x1 x2; y1 = pick (le y1 y2) y1 y2; x2 = pick (le x1 x2) x2 x1; y2 = pick (le y1 y2) y2 y1 }

abbrev pub part : TagPart → Part
part p = record { offset = p.offset; size = p.size }

abbrev pub rgb : TagRgb → Rgb
rgb c = record { red = byte c.red; green = byte c.green; blue = byte c.blue }

abbrev pub all_alphas : ℕ → Alphas
all_alphas a = record { primary_alpha = Some (byte a); secondary_alpha = Some (byte a); outline_alpha = Some (byte a); shadow_alpha = Some (byte a) }

abbrev pub reset_of : Reset → Option Part
reset_of plain = None
reset_of (named p) = Some (part p)

-- `ssa_alignment_to_numpad`: the old numbering's place on the keypad, 0 where it has none
unfoldable pub numpad : ℕ → ℕ
numpad n = get_or (0 ∷ 1 ∷ 2 ∷ 3 ∷ 0 ∷ 7 ∷ 8 ∷ 9 ∷ 0 ∷ 4 ∷ 5 ∷ 6 ∷ []) n 0

-- an alignment outside 1 to 9 changes nothing, nor does a wrap style above 3
unfoldable pub aligned : Line → ℕ → Line
aligned s n = pick (within 1 9 n) (set_alignment s (Some n)) s

unfoldable pub wrapped : Line → ℕ → Line
wrapped s n = pick (leb n 3) (set_wrap_style s (Some n)) s

-- ---- a tag; `inner` is what the tags inside it do

unfoldable pub apply_own : ℤ → ℤ → AnimatedTag → (RenderState → RenderState) → RenderState → RenderState
unfolding fad_alpha fade_alpha alpha_to_mul faded to_radians max_zero hundredth rect_of numpad aligned wrapped identity advance factor between
-- \fad: opacity comes in at the line's start and goes out at its end
apply_own t dur (Fad t1 t2) inner st = with_always st (faded st.always (fad_alpha t1 t2 t dur))
-- \fade: three alphas, four times
apply_own t dur (Fade a1 a2 a3 t1 t2 t3 t4) inner st = with_always st (faded st.always (alpha_to_mul (fade_alpha (byte a1) (byte a2) (byte a3) t1 t2 t3 t4 t)))
-- \pos: the line's place; the last of \pos and \move counts
apply_own t dur (Pos x y) inner st = with_places st (set_translate st.places (Some (pair x y)))
-- \move: the place on the way from the one to the other
apply_own t dur (Move x1 y1 x2 y2 x) inner st = with_places st (set_translate st.places (Some (mix_pair (pair x1 y1) (pair x2 y2) (advance (start_of x) (end_of x dur) t))))
-- \frz, \frx, \fry: rotations, given in degrees
apply_own t dur (Frz x) inner st = with_always st (set_rotate_radians st.always (to_radians x))
-- \blur: Gaussian blur, never below 0
apply_own t dur (Blur x) inner st = with_always st (set_blur_sigma st.always (max_zero x))
-- \fscx, \fscy: scale in percent
apply_own t dur (Fscx x) inner st = with_always st (set_scale st.always (pair (hundredth x) st.always.scale.y))
apply_own t dur (Fscy x) inner st = with_always st (set_scale st.always (pair st.always.scale.x (hundredth x)))
-- \c, \1c to \4c: colours
apply_own t dur (Color1 c) inner st = with_colors st (set_primary_color st.colors (Some (rgb c)))
-- \fs: font size
apply_own t dur (Fs x) inner st = with_sizes st (set_font_size st.sizes (Some x))
-- \clip, \iclip with a rectangle, its corners put in order
apply_own t dur (ClipRect x1 y1 x2 y2) inner st = with_clips st (set_clip_rect st.clips (Some (rect_of x1 y1 x2 y2)))
-- \clip, \iclip with a drawing
apply_own t dur (ClipDrawing p) inner st = with_line st (set_clip_drawing st.line (Some (part p)))
apply_own t dur (Frx x) inner st = with_always st (set_rotate_xradians st.always (to_radians x))
apply_own t dur (Fry x) inner st = with_always st (set_rotate_yradians st.always (to_radians x))
-- \org: what rotations turn around
apply_own t dur (Org x y) inner st = with_line st (set_pivot st.line (Some (pair x y)))
-- \bord, \xbord, \ybord: border, never below 0; one axis alone keeps the other, 0 where there was none
apply_own t dur (Bord x) inner st = with_places st (set_border st.places (Some (splat (max_zero x))))
apply_own t dur (Xbord x) inner st = with_places st (set_border st.places (Some (with_x st.places.border (max_zero x))))
apply_own t dur (Ybord x) inner st = with_places st (set_border st.places (Some (with_y st.places.border (max_zero x))))
-- \shad, \xshad, \yshad: shadow; only \shad is never below 0
apply_own t dur (Shad x) inner st = with_places st (set_shadow st.places (Some (splat (max_zero x))))
apply_own t dur (Xshad x) inner st = with_places st (set_shadow st.places (Some (with_x st.places.shadow x)))
apply_own t dur (Yshad x) inner st = with_places st (set_shadow st.places (Some (with_y st.places.shadow x)))
-- \be: edge blur
apply_own t dur (Be n) inner st = with_always st (set_be_strength st.always (byte n))
-- \fax, \fay: shear
apply_own t dur (Fax x) inner st = with_always st (set_shear st.always (pair x st.always.shear.y))
apply_own t dur (Fay x) inner st = with_always st (set_shear st.always (pair st.always.shear.x x))
apply_own t dur (IClipRect x1 y1 x2 y2) inner st = with_clips st (set_iclip_rect st.clips (Some (rect_of x1 y1 x2 y2)))
apply_own t dur (IClipDrawing p) inner st = with_line st (set_iclip_drawing st.line (Some (part p)))
apply_own t dur (Color2 c) inner st = with_colors st (set_secondary_color st.colors (Some (rgb c)))
apply_own t dur (Color3 c) inner st = with_colors st (set_outline_color st.colors (Some (rgb c)))
apply_own t dur (Color4 c) inner st = with_colors st (set_shadow_color st.colors (Some (rgb c)))
-- \alpha: all four alphas at once; \1a to \4a: each by itself
apply_own t dur (Alpha a) inner st = with_alphas st (all_alphas a)
apply_own t dur (Alpha1 a) inner st = with_alphas st (set_primary_alpha st.alphas (Some (byte a)))
apply_own t dur (Alpha2 a) inner st = with_alphas st (set_secondary_alpha st.alphas (Some (byte a)))
apply_own t dur (Alpha3 a) inner st = with_alphas st (set_outline_alpha st.alphas (Some (byte a)))
apply_own t dur (Alpha4 a) inner st = with_alphas st (set_shadow_alpha st.alphas (Some (byte a)))
-- \fsp: letter spacing
apply_own t dur (Fsp x) inner st = with_sizes st (set_letter_spacing st.sizes (Some x))
-- \q: wrap style
apply_own t dur (Q n) inner st = with_line st (wrapped st.line n)
-- \an: alignment as on a keypad; \a: in the old numbering
apply_own t dur (An n) inner st = with_line st (aligned st.line n)
apply_own t dur (A n) inner st = with_line st (aligned st.line (numpad n))
-- \fn: font name
apply_own t dur (Fn p q) inner st = with_font st (set_font_name st.font (Some (record { letters = part p; parameter = part q })))
-- \fe: font encoding
apply_own t dur (Fe n) inner st = with_font st (set_font_encoding st.font (Some (byte n)))
-- \r: back to a style; every other override goes
apply_own t dur (R r) inner st = with_line identity (set_reset_to_style identity.line (Some (reset_of r)))
-- \b: weight
apply_own t dur (B n) inner st = with_font st (set_bold_weight st.font (Some (min n 65535)))
-- \i, \u, \s: italic, underline, strikeout
apply_own t dur (I b) inner st = with_font st (set_italic st.font (Some b))
apply_own t dur (U b) inner st = with_font st (set_underline st.font (Some b))
apply_own t dur (S b) inner st = with_font st (set_strikeout st.font (Some b))
-- \k, \kf, \K, \ko: the spans speak of these, not the state
apply_own t dur (Karaoke k n) inner st = st
-- \pbo: baseline of drawings
apply_own t dur (Pbo z) inner st = with_sizes st (set_drawing_baseline_offset st.sizes (Some z))
-- \p: drawing mode
apply_own t dur (P n) inner st = with_line st (set_drawing_scale st.line (Some (byte n)))
-- \t: part of the way from the state before to that which the tags inside it make of it
apply_own t dur (T x accel l) inner st = between (factor x accel t dur) st (inner st)

-- ---- tags one after the other

-- all of them, from any state
unfoldable pub apply_tags : ℤ → ℤ → Tags → RenderState → RenderState
unfolding apply_own
apply_tags t dur l = fold_tags (apply_own t dur) (λ st. st) (λ f g st. g (f st)) l

-- `evaluate_at`: the state at t
unfoldable pub evaluate_at : ℤ → ℤ → Tags → RenderState
unfolding apply_tags identity
evaluate_at t dur l = apply_tags t dur l identity
