-- What \r has left at an instant: of the state that a call evaluates, the one field that the style in force needs.
use Rattle.std.specs.Prelude.{◌≡◌, ℤ, Option}
use Rattle.tag.specs.Tag.{Tags}
use Rattle.state.specs.declared.Part.{Part}
use Rattle.state.specs.declared.RenderState.{RenderState}
use Rattle.state.specs.State.{reset_to}
use Rattle.state.specs.Apply.{apply_tags}

-- no \r, or one to a plain style or to a named one
abbrev pub ResetLeft : Type 0
ResetLeft = Option (Option Part)

-- the tags make r of what \r had left before them, s, whatever else the state has
abbrev pub Leaves : ℤ → ℤ → Tags → ResetLeft → ResetLeft → Type 0
Leaves t dur tags s r = (st : RenderState) → reset_to st ≡ s → reset_to (apply_tags t dur tags st) ≡ r
