-- What the inner functions say, in the code's words: nothing here is a promise to a caller.
use Rattle.std.specs.Prelude.{◌≡◌, List, ℕ, ◌≤◌, length}
use Rattle.clips.specs.declared.Clip.{Clip}

-- the places of a clip argument in order, within the text s
pub record InOrder (s : List ℕ) (c : Clip) : Type 0 where
  pub order : c.from ≤ c.to
  pub high : c.to ≤ length s

-- a clip argument's parts: what a definition names, its places in order
pub record ClipIn (s : List ℕ) (d c : Clip) : Type 0 where
  pub is : c ≡ d
  pub places : InOrder s c
