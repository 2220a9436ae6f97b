-- The render state as the Rust has it, its fields by their names and in groups: `identity`, and a state or a group with one field changed.
use Rattle.std.specs.Prelude.{ℕ, ℤ, Bool, Float, Option, None}
use Rattle.float.specs.Float.{zero, one}
use Rattle.state.specs.declared.Pair.{Pair}
use Rattle.state.specs.declared.ClipRect.{ClipRect}
use Rattle.state.specs.declared.Rgb.{Rgb}
use Rattle.state.specs.declared.Part.{Part}
use Rattle.state.specs.declared.Name.{Name}
use Rattle.state.specs.declared.Always.{Always}
use Rattle.state.specs.declared.Places.{Places}
use Rattle.state.specs.declared.Clips.{Clips}
use Rattle.state.specs.declared.Sizes.{Sizes}
use Rattle.state.specs.declared.Colors.{Colors}
use Rattle.state.specs.declared.Alphas.{Alphas}
use Rattle.state.specs.declared.Line.{Line}
use Rattle.state.specs.declared.Font.{Font}
use Rattle.state.specs.declared.RenderState.{RenderState}

-- the same on both axes
abbrev pub splat : Float → Pair
splat v = record { x = v; y = v }

-- `RenderState::identity`: no override
unfoldable pub identity : RenderState
identity = record {
  always = record { alpha_mul = one; rotate_radians = zero; rotate_x_radians = zero; rotate_y_radians = zero; scale = splat one; blur_sigma = zero; be_strength = 0; shear = splat zero };
  places = record { translate = None; border = None; shadow = None };
  clips = record { clip_rect = None; iclip_rect = None };
  sizes = record { font_size = None; letter_spacing = None; drawing_baseline_offset = None };
  colors = record { primary_color = None; secondary_color = None; outline_color = None; shadow_color = None };
  alphas = record { primary_alpha = None; secondary_alpha = None; outline_alpha = None; shadow_alpha = None };
  line = record { pivot = None; clip_drawing = None; iclip_drawing = None; wrap_style = None; alignment = None; reset_to_style = None; drawing_scale = None };
  font = record { font_name = None; font_encoding = None; bold_weight = None; italic = None; underline = None; strikeout = None };
}

-- what \r left in a state
abbrev pub reset_to : RenderState → Option (Option Part)
reset_to st = st.line.reset_to_style

-- ---- a state with one group changed, a group with one field changed

abbrev pub with_always : RenderState → Always → RenderState
with_always st v = record { always = v; places = st.places; clips = st.clips; sizes = st.sizes; colors = st.colors; alphas = st.alphas; line = st.line; font = st.font }

abbrev pub with_places : RenderState → Places → RenderState
with_places st v = record { always = st.always; places = v; clips = st.clips; sizes = st.sizes; colors = st.colors; alphas = st.alphas; line = st.line; font = st.font }

abbrev pub with_clips : RenderState → Clips → RenderState
with_clips st v = record { always = st.always; places = st.places; clips = v; sizes = st.sizes; colors = st.colors; alphas = st.alphas; line = st.line; font = st.font }

abbrev pub with_sizes : RenderState → Sizes → RenderState
with_sizes st v = record { always = st.always; places = st.places; clips = st.clips; sizes = v; colors = st.colors; alphas = st.alphas; line = st.line; font = st.font }

abbrev pub with_colors : RenderState → Colors → RenderState
with_colors st v = record { always = st.always; places = st.places; clips = st.clips; sizes = st.sizes; colors = v; alphas = st.alphas; line = st.line; font = st.font }

abbrev pub with_alphas : RenderState → Alphas → RenderState
with_alphas st v = record { always = st.always; places = st.places; clips = st.clips; sizes = st.sizes; colors = st.colors; alphas = v; line = st.line; font = st.font }

abbrev pub with_line : RenderState → Line → RenderState
with_line st v = record { always = st.always; places = st.places; clips = st.clips; sizes = st.sizes; colors = st.colors; alphas = st.alphas; line = v; font = st.font }

abbrev pub with_font : RenderState → Font → RenderState
with_font st v = record { always = st.always; places = st.places; clips = st.clips; sizes = st.sizes; colors = st.colors; alphas = st.alphas; line = st.line; font = v }

abbrev pub set_alpha_mul : Always → Float → Always
set_alpha_mul s v = record { alpha_mul = v; rotate_radians = s.rotate_radians; rotate_x_radians = s.rotate_x_radians; rotate_y_radians = s.rotate_y_radians; scale = s.scale; blur_sigma = s.blur_sigma; be_strength = s.be_strength; shear = s.shear }

abbrev pub set_rotate_radians : Always → Float → Always
set_rotate_radians s v = record { alpha_mul = s.alpha_mul; rotate_radians = v; rotate_x_radians = s.rotate_x_radians; rotate_y_radians = s.rotate_y_radians; scale = s.scale; blur_sigma = s.blur_sigma; be_strength = s.be_strength; shear = s.shear }

abbrev pub set_rotate_xradians : Always → Float → Always
set_rotate_xradians s v = record { alpha_mul = s.alpha_mul; rotate_radians = s.rotate_radians; rotate_x_radians = v; rotate_y_radians = s.rotate_y_radians; scale = s.scale; blur_sigma = s.blur_sigma; be_strength = s.be_strength; shear = s.shear }

abbrev pub set_rotate_yradians : Always → Float → Always
set_rotate_yradians s v = record { alpha_mul = s.alpha_mul; rotate_radians = s.rotate_radians; rotate_x_radians = s.rotate_x_radians; rotate_y_radians = v; scale = s.scale; blur_sigma = s.blur_sigma; be_strength = s.be_strength; shear = s.shear }

abbrev pub set_scale : Always → Pair → Always
set_scale s v = record { alpha_mul = s.alpha_mul; rotate_radians = s.rotate_radians; rotate_x_radians = s.rotate_x_radians; rotate_y_radians = s.rotate_y_radians; scale = v; blur_sigma = s.blur_sigma; be_strength = s.be_strength; shear = s.shear }

abbrev pub set_blur_sigma : Always → Float → Always
set_blur_sigma s v = record { alpha_mul = s.alpha_mul; rotate_radians = s.rotate_radians; rotate_x_radians = s.rotate_x_radians; rotate_y_radians = s.rotate_y_radians; scale = s.scale; blur_sigma = v; be_strength = s.be_strength; shear = s.shear }

abbrev pub set_be_strength : Always → ℕ → Always
set_be_strength s v = record { alpha_mul = s.alpha_mul; rotate_radians = s.rotate_radians; rotate_x_radians = s.rotate_x_radians; rotate_y_radians = s.rotate_y_radians; scale = s.scale; blur_sigma = s.blur_sigma; be_strength = v; shear = s.shear }

abbrev pub set_shear : Always → Pair → Always
set_shear s v = record { alpha_mul = s.alpha_mul; rotate_radians = s.rotate_radians; rotate_x_radians = s.rotate_x_radians; rotate_y_radians = s.rotate_y_radians; scale = s.scale; blur_sigma = s.blur_sigma; be_strength = s.be_strength; shear = v }

abbrev pub set_translate : Places → Option Pair → Places
set_translate s v = record { translate = v; border = s.border; shadow = s.shadow }

abbrev pub set_border : Places → Option Pair → Places
set_border s v = record { translate = s.translate; border = v; shadow = s.shadow }

abbrev pub set_shadow : Places → Option Pair → Places
set_shadow s v = record { translate = s.translate; border = s.border; shadow = v }

abbrev pub set_clip_rect : Clips → Option ClipRect → Clips
set_clip_rect s v = record { clip_rect = v; iclip_rect = s.iclip_rect }

abbrev pub set_iclip_rect : Clips → Option ClipRect → Clips
set_iclip_rect s v = record { clip_rect = s.clip_rect; iclip_rect = v }

abbrev pub set_font_size : Sizes → Option Float → Sizes
set_font_size s v = record { font_size = v; letter_spacing = s.letter_spacing; drawing_baseline_offset = s.drawing_baseline_offset }

abbrev pub set_letter_spacing : Sizes → Option Float → Sizes
set_letter_spacing s v = record { font_size = s.font_size; letter_spacing = v; drawing_baseline_offset = s.drawing_baseline_offset }

abbrev pub set_drawing_baseline_offset : Sizes → Option ℤ → Sizes
set_drawing_baseline_offset s v = record { font_size = s.font_size; letter_spacing = s.letter_spacing; drawing_baseline_offset = v }

abbrev pub set_primary_color : Colors → Option Rgb → Colors
set_primary_color s v = record { primary_color = v; secondary_color = s.secondary_color; outline_color = s.outline_color; shadow_color = s.shadow_color }

abbrev pub set_secondary_color : Colors → Option Rgb → Colors
set_secondary_color s v = record { primary_color = s.primary_color; secondary_color = v; outline_color = s.outline_color; shadow_color = s.shadow_color }

abbrev pub set_outline_color : Colors → Option Rgb → Colors
set_outline_color s v = record { primary_color = s.primary_color; secondary_color = s.secondary_color; outline_color = v; shadow_color = s.shadow_color }

abbrev pub set_shadow_color : Colors → Option Rgb → Colors
set_shadow_color s v = record { primary_color = s.primary_color; secondary_color = s.secondary_color; outline_color = s.outline_color; shadow_color = v }

abbrev pub set_primary_alpha : Alphas → Option ℕ → Alphas
set_primary_alpha s v = record { primary_alpha = v; secondary_alpha = s.secondary_alpha; outline_alpha = s.outline_alpha; shadow_alpha = s.shadow_alpha }

abbrev pub set_secondary_alpha : Alphas → Option ℕ → Alphas
set_secondary_alpha s v = record { primary_alpha = s.primary_alpha; secondary_alpha = v; outline_alpha = s.outline_alpha; shadow_alpha = s.shadow_alpha }

abbrev pub set_outline_alpha : Alphas → Option ℕ → Alphas
set_outline_alpha s v = record { primary_alpha = s.primary_alpha; secondary_alpha = s.secondary_alpha; outline_alpha = v; shadow_alpha = s.shadow_alpha }

abbrev pub set_shadow_alpha : Alphas → Option ℕ → Alphas
set_shadow_alpha s v = record { primary_alpha = s.primary_alpha; secondary_alpha = s.secondary_alpha; outline_alpha = s.outline_alpha; shadow_alpha = v }

abbrev pub set_pivot : Line → Option Pair → Line
set_pivot s v = record { pivot = v; clip_drawing = s.clip_drawing; iclip_drawing = s.iclip_drawing; wrap_style = s.wrap_style; alignment = s.alignment; reset_to_style = s.reset_to_style; drawing_scale = s.drawing_scale }

abbrev pub set_clip_drawing : Line → Option Part → Line
set_clip_drawing s v = record { pivot = s.pivot; clip_drawing = v; iclip_drawing = s.iclip_drawing; wrap_style = s.wrap_style; alignment = s.alignment; reset_to_style = s.reset_to_style; drawing_scale = s.drawing_scale }

abbrev pub set_iclip_drawing : Line → Option Part → Line
set_iclip_drawing s v = record { pivot = s.pivot; clip_drawing = s.clip_drawing; iclip_drawing = v; wrap_style = s.wrap_style; alignment = s.alignment; reset_to_style = s.reset_to_style; drawing_scale = s.drawing_scale }

abbrev pub set_wrap_style : Line → Option ℕ → Line
set_wrap_style s v = record { pivot = s.pivot; clip_drawing = s.clip_drawing; iclip_drawing = s.iclip_drawing; wrap_style = v; alignment = s.alignment; reset_to_style = s.reset_to_style; drawing_scale = s.drawing_scale }

abbrev pub set_alignment : Line → Option ℕ → Line
set_alignment s v = record { pivot = s.pivot; clip_drawing = s.clip_drawing; iclip_drawing = s.iclip_drawing; wrap_style = s.wrap_style; alignment = v; reset_to_style = s.reset_to_style; drawing_scale = s.drawing_scale }

abbrev pub set_reset_to_style : Line → Option (Option Part) → Line
set_reset_to_style s v = record { pivot = s.pivot; clip_drawing = s.clip_drawing; iclip_drawing = s.iclip_drawing; wrap_style = s.wrap_style; alignment = s.alignment; reset_to_style = v; drawing_scale = s.drawing_scale }

abbrev pub set_drawing_scale : Line → Option ℕ → Line
set_drawing_scale s v = record { pivot = s.pivot; clip_drawing = s.clip_drawing; iclip_drawing = s.iclip_drawing; wrap_style = s.wrap_style; alignment = s.alignment; reset_to_style = s.reset_to_style; drawing_scale = v }

abbrev pub set_font_name : Font → Option Name → Font
set_font_name s v = record { font_name = v; font_encoding = s.font_encoding; bold_weight = s.bold_weight; italic = s.italic; underline = s.underline; strikeout = s.strikeout }

abbrev pub set_font_encoding : Font → Option ℕ → Font
set_font_encoding s v = record { font_name = s.font_name; font_encoding = v; bold_weight = s.bold_weight; italic = s.italic; underline = s.underline; strikeout = s.strikeout }

abbrev pub set_bold_weight : Font → Option ℕ → Font
set_bold_weight s v = record { font_name = s.font_name; font_encoding = s.font_encoding; bold_weight = v; italic = s.italic; underline = s.underline; strikeout = s.strikeout }

abbrev pub set_italic : Font → Option Bool → Font
set_italic s v = record { font_name = s.font_name; font_encoding = s.font_encoding; bold_weight = s.bold_weight; italic = v; underline = s.underline; strikeout = s.strikeout }

abbrev pub set_underline : Font → Option Bool → Font
set_underline s v = record { font_name = s.font_name; font_encoding = s.font_encoding; bold_weight = s.bold_weight; italic = s.italic; underline = v; strikeout = s.strikeout }

abbrev pub set_strikeout : Font → Option Bool → Font
set_strikeout s v = record { font_name = s.font_name; font_encoding = s.font_encoding; bold_weight = s.bold_weight; italic = s.italic; underline = s.underline; strikeout = v }
