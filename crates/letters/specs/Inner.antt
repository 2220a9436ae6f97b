-- What the inner functions say, in the code's words: nothing here is a promise to a caller.
use Rattle.std.specs.Prelude.{◌≡◌, List, ℕ, ◌+◌, ◌≤◌, length}
use Rattle.tokens.specs.Tokens.{from}
use Rattle.pen.specs.declared.Stroke.{Stroke}
use Rattle.pen.specs.Drawing.{Turn}
use Rattle.pen.specs.Inner.{Writes}

-- a turn of the stroke v, which goes on from `next`, a place `least` or behind it
pub record Turns (s : List ℕ) (v : Stroke) (g : Turn) (least : ℕ) (w : Stroke) (next : ℕ) : Type 0 where
  pub pen : w.pen ≡ g.pen
  pub path : Writes v g.path w
  pub few : w.count ≤ v.count + 2
  pub rest : from s next ≡ g.rest
  pub low : least ≤ next
  pub high : next ≤ length s
