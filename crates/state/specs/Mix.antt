-- How far a \t has come, and what stands between the state before it and the state that the tags inside it make: `apply_t` of the Rust.
use Rattle.std.specs.Prelude.{ℕ, Bool, true, false, eqb, ℤ, pos, ◌-ℤ◌, Float, Option, None, Some, unwrap_or}
use Rattle.std.specs.Int.Signed.{le_z}
use Rattle.std.specs.Float.{nan, inf, fin, binary32}
use Rattle.std.specs.Float.Ieee.{lt, eq, neg, div, of_int, of_bits, to_unsigned}
use Rattle.scan.specs.Scan.{pick}
use Rattle.float.specs.Float.{zero, one, max_zero, clamp, lerp, round_away, round_byte}
use Rattle.power.specs.Power.{power}
use Rattle.tag.specs.Tag.{Times, absent, times}
use Rattle.state.specs.declared.Pair.{Pair}
use Rattle.state.specs.declared.ClipRect.{ClipRect}
use Rattle.state.specs.declared.Rgb.{Rgb}
use Rattle.state.specs.declared.Always.{Always}
use Rattle.state.specs.declared.Places.{Places}
use Rattle.state.specs.declared.Clips.{Clips}
use Rattle.state.specs.declared.Sizes.{Sizes}
use Rattle.state.specs.declared.Colors.{Colors}
use Rattle.state.specs.declared.Alphas.{Alphas}
use Rattle.state.specs.declared.Line.{Line}
use Rattle.state.specs.declared.Font.{Font}
use Rattle.state.specs.declared.RenderState.{RenderState}

-- ---- times

-- a quotient of milliseconds: both are rounded to f32 before they are divided
unfoldable pub quotient : ℤ → ℤ → Float
unfolding of_int div
quotient a b = div binary32 (of_int binary32 a) (of_int binary32 b)

-- how far t is on its way: 0 up to the start, 1 from the end on; where the end does not come after the start, 1 from the end on
unfoldable pub advance : ℤ → ℤ → ℤ → Float
unfolding quotient
advance start end t =
    pick (le_z end start) (pick (le_z end t) one zero)
    (pick (le_z t start) zero (pick (le_z end t) one (quotient (t -ℤ start) (end -ℤ start))))

-- `unwrap_or(0)` and `unwrap_or(dur_ms)` of the times of \move and \t
abbrev pub start_of : Times → ℤ
start_of absent = pos 0
start_of (times a b) = a

abbrev pub end_of : Times → ℤ → ℤ
end_of absent dur = dur
end_of (times a b) dur = b

-- ---- the factor

abbrev pub finite : Float → Bool
finite nan = false
finite (inf s) = false
finite (fin s m e) = true

-- f32::EPSILON
abbrev pub epsilon : Float
epsilon = of_bits binary32 0x34000000

-- `accel.abs() < f32::EPSILON`
unfoldable pub near_zero : Float → Bool
unfolding lt neg of_bits
near_zero a = pick (lt (neg epsilon) a) (lt a epsilon) false

-- an acceleration that is not finite counts as 1
abbrev pub accel_of : Float → Float
accel_of a = pick (finite a) a one

-- `raw.powf(accel)`, or raw itself where the acceleration is nearly 0
unfoldable pub bent : Float → Float → Float
unfolding near_zero power
bent raw a = pick (near_zero a) raw (power raw a)

-- within 0 to 1, and raw where the power is not finite
unfoldable pub held : Float → Float → Float
unfolding clamp
held raw k = pick (finite k) (clamp k zero one) raw

unfoldable pub factor : Times → Float → ℤ → ℤ → Float
unfolding advance bent held
factor x accel t dur = let raw = advance (start_of x) (end_of x dur) t in held raw (bent raw (accel_of accel))

-- ---- numbers between two

abbrev pub of_nat : ℕ → Float
of_nat n = of_int binary32 (pos n)

-- lerp_f32 of two bytes
unfoldable pub lerp_bytes : ℕ → ℕ → Float → Float
unfolding lerp of_int
lerp_bytes a b k = lerp (of_nat a) (of_nat b) k

-- colours and \fade: cut
unfoldable pub cut_between : ℕ → ℕ → Float → ℕ
unfolding lerp_bytes to_unsigned
cut_between a b k = to_unsigned 8 (lerp_bytes a b k)

-- \1a to \4a and \be: rounded, a half away from zero
unfoldable pub round_between : ℕ → ℕ → Float → ℕ
unfolding lerp_bytes round_byte
round_between a b k = round_byte (lerp_bytes a b k)

abbrev pub mix_pair : Pair → Pair → Float → Pair
mix_pair a b k = record { x = lerp a.x b.x k; y = lerp a.y b.y k }

abbrev pub mix_rect : ClipRect → ClipRect → Float → ClipRect
mix_rect a b k = record { x1 = lerp a.x1 b.x1 k; y1 = lerp a.y1 b.y1 k; x2 = lerp a.x2 b.x2 k; y2 = lerp a.y2 b.y2 k }

abbrev pub mix_rgb : Rgb → Rgb → Float → Rgb
mix_rgb a b k = record { red = cut_between a.red b.red k; green = cut_between a.green b.green k; blue = cut_between a.blue b.blue k }

-- ---- options: where the state after has one, between that before, or itself, and it; else that before stays

-- over the value's own mixing
abbrev pub mix_option : {A : Type 0} → (A → A → Float → A) → Option A → Option A → Float → Option A
mix_option mix a None k = a
mix_option mix a (Some y) k = Some (mix (unwrap_or a y) y k)

-- a whole number: rounded
abbrev pub mix_i32 : ℤ → ℤ → Float → ℤ
mix_i32 a b k = round_away (lerp (of_int binary32 a) (of_int binary32 b) k)

-- \pbo: from 0 where there was none
abbrev pub mix_baseline : Option ℤ → Option ℤ → Float → Option ℤ
mix_baseline a None k = a
mix_baseline a (Some y) k = Some (mix_i32 (unwrap_or a (pos 0)) y k)

-- ---- group by group

-- \be moves only where it differs
abbrev pub mix_strength : ℕ → ℕ → Float → ℕ
mix_strength a b k = pick (eqb a b) a (round_between a b k)

unfoldable pub mix_always : Always → Always → Float → Always
unfolding lerp max_zero round_between
mix_always a b k = record {
  alpha_mul = lerp a.alpha_mul b.alpha_mul k;
  rotate_radians = lerp a.rotate_radians b.rotate_radians k;
  rotate_x_radians = lerp a.rotate_x_radians b.rotate_x_radians k;
  rotate_y_radians = lerp a.rotate_y_radians b.rotate_y_radians k;
  scale = mix_pair a.scale b.scale k;
  blur_sigma = max_zero (lerp a.blur_sigma b.blur_sigma k);
  be_strength = mix_strength a.be_strength b.be_strength k;
  shear = mix_pair a.shear b.shear k;
}

unfoldable pub mix_places : Places → Places → Float → Places
unfolding lerp
mix_places a b k = record { translate = mix_option mix_pair a.translate b.translate k; border = mix_option mix_pair a.border b.border k; shadow = mix_option mix_pair a.shadow b.shadow k }

unfoldable pub mix_clips : Clips → Clips → Float → Clips
unfolding lerp
mix_clips a b k = record { clip_rect = mix_option mix_rect a.clip_rect b.clip_rect k; iclip_rect = mix_option mix_rect a.iclip_rect b.iclip_rect k }

unfoldable pub mix_sizes : Sizes → Sizes → Float → Sizes
unfolding lerp round_away
mix_sizes a b k = record {
  font_size = mix_option lerp a.font_size b.font_size k;
  letter_spacing = mix_option lerp a.letter_spacing b.letter_spacing k;
  drawing_baseline_offset = mix_baseline a.drawing_baseline_offset b.drawing_baseline_offset k;
}

unfoldable pub mix_colors : Colors → Colors → Float → Colors
unfolding cut_between
mix_colors a b k = record {
  primary_color = mix_option mix_rgb a.primary_color b.primary_color k;
  secondary_color = mix_option mix_rgb a.secondary_color b.secondary_color k;
  outline_color = mix_option mix_rgb a.outline_color b.outline_color k;
  shadow_color = mix_option mix_rgb a.shadow_color b.shadow_color k;
}

unfoldable pub mix_alphas : Alphas → Alphas → Float → Alphas
unfolding round_between
mix_alphas a b k = record {
  primary_alpha = mix_option round_between a.primary_alpha b.primary_alpha k;
  secondary_alpha = mix_option round_between a.secondary_alpha b.secondary_alpha k;
  outline_alpha = mix_option round_between a.outline_alpha b.outline_alpha k;
  shadow_alpha = mix_option round_between a.shadow_alpha b.shadow_alpha k;
}

-- What is not interpolated is taken over once k is above 0. Where both are the same, as the Rust asks first, it makes no difference which of
-- the two is taken. Only the pivot's floats can be equal and not the same, as 0 and -0: then that before stays.
unfoldable pub same_pair : Option Pair → Option Pair → Bool
unfolding eq
same_pair None None = true
same_pair None (Some q) = false
same_pair (Some p) None = false
same_pair (Some p) (Some q) = pick (eq p.x q.x) (eq p.y q.y) false

unfoldable pub mix_line : Line → Line → Float → Line
unfolding lt same_pair
mix_line a b k = pick (lt zero k) (record {
  pivot = pick (same_pair a.pivot b.pivot) a.pivot b.pivot;
  clip_drawing = b.clip_drawing;
  iclip_drawing = b.iclip_drawing;
  wrap_style = b.wrap_style;
  alignment = b.alignment;
  reset_to_style = b.reset_to_style;
  drawing_scale = b.drawing_scale;
}) a

unfoldable pub mix_font : Font → Font → Float → Font
unfolding lt
mix_font a b k = pick (lt zero k) b a

-- the state that stands k of the way from a, before a \t, to b, which the tags inside it make
unfoldable pub between : Float → RenderState → RenderState → RenderState
unfolding mix_always mix_places mix_clips mix_sizes mix_colors mix_alphas mix_line mix_font
between k a b = record {
  always = mix_always a.always b.always k;
  places = mix_places a.places b.places k;
  clips = mix_clips a.clips b.clips k;
  sizes = mix_sizes a.sizes b.sizes k;
  colors = mix_colors a.colors b.colors k;
  alphas = mix_alphas a.alphas b.alphas k;
  line = mix_line a.line b.line k;
  font = mix_font a.font b.font k;
}
