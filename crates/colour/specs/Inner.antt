-- What the inner functions say, in the code's words: nothing here is a promise to a caller.
use Rattle.std.specs.Prelude.{◌≡◌, ℕ, ◌≤◌}
use Rattle.colour.specs.declared.Stretch.{Stretch}

-- a part that a definition names, between two places
pub record Inside (p q : ℕ) (d r : Stretch) : Type 0 where
  pub is : r ≡ d
  pub low : p ≤ r.from
  pub order : r.from ≤ r.to
  pub high : r.to ≤ q
