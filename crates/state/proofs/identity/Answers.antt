use lib.Ieee.{of_bits}
use Rattle.float.specs.Float.{one}
use Rattle.state.specs.State.{identity}
use Rattle.state.proofs.identity.Goals as goal

-- field by field
pub returns : goal.returns
unfolding identity of_bits
returns c = λ i. record {
  always = record { alpha_mul = one; rotate_radians = c.default.ensures.1.0 i; rotate_x_radians = c.default.ensures.1.1.0 i; rotate_y_radians = c.default.ensures.1.1.1.0 i; scale = c.splat.ensures i; blur_sigma = c.default.ensures.1.1.1.1.1.0 i; be_strength = c.default.ensures.1.1.1.1.1.1.0 i; shear = record { x = c.default.ensures.1.1.1.1.1.1.1.0 i; y = c.default.ensures.1.1.1.1.1.1.1.1 i } };
  places = record { translate = c.default-2.ensures.0 i; border = c.default-2.ensures.1.0 i; shadow = c.default-2.ensures.1.1 i };
  clips = record { clip_rect = c.default-3.ensures.0 i; iclip_rect = c.default-3.ensures.1 i };
  sizes = record { font_size = c.default-4.ensures.0 i; letter_spacing = c.default-4.ensures.1.0 i; drawing_baseline_offset = c.default-4.ensures.1.1 i };
  colors = record { primary_color = c.default-5.ensures.0 i; secondary_color = c.default-5.ensures.1.0 i; outline_color = c.default-5.ensures.1.1.0 i; shadow_color = c.default-5.ensures.1.1.1 i };
  alphas = record { primary_alpha = c.default-6.ensures.0 i; secondary_alpha = c.default-6.ensures.1.0 i; outline_alpha = c.default-6.ensures.1.1.0 i; shadow_alpha = c.default-6.ensures.1.1.1 i };
  line = record { pivot = c.default-7.ensures.0 i; clip_drawing = c.default-7.ensures.1.0 i; iclip_drawing = c.default-7.ensures.1.1.0 i; wrap_style = c.default-7.ensures.1.1.1.0 i; alignment = c.default-7.ensures.1.1.1.1.0 i; reset_to_style = c.default-7.ensures.1.1.1.1.1.0 i; drawing_scale = c.default-7.ensures.1.1.1.1.1.1 i };
  font = record { font_name = c.default-8.ensures.0 i; font_encoding = c.default-8.ensures.1.0 i; bold_weight = c.default-8.ensures.1.1.0 i; italic = c.default-8.ensures.1.1.1.0 i; underline = c.default-8.ensures.1.1.1.1.0 i; strikeout = c.default-8.ensures.1.1.1.1.1 i };
}
