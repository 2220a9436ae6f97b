-- What the loop leaves of a whole table, in the code's words.
use Rattle.std.specs.Prelude.{List, Bool, ℕ, min, ℤ, Option}
use Rattle.refusal.specs.Refusal.{most_places}
use Rattle.tag.specs.Tag.{most_depth}
use Rattle.tag.specs.Table.{places_of}
use Rattle.state.specs.declared.RenderState.{RenderState}
use Rattle.state.specs.State.{identity}
use Rattle.evaluators.specs.Inner.{Applied}

-- what the loop leaves of all records, from `identity` on
abbrev pub AppliedAll : ℤ → ℤ → List ℕ → Bool → List ℕ → RenderState → Option ℕ → List ℕ → Type 0
AppliedAll t dur ws write v r x u = Applied t dur ws 0 (min (places_of ws) most_places) most_depth identity write v r x u
