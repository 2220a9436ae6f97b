-- What the inner functions say, in the code's words: nothing here is a promise to a caller.
use Rattle.std.specs.Prelude.{◌≡◌, List, ℕ, ◌+◌, ◌≤◌}
use Rattle.std.specs.Borrow.{MutBor}
use Rattle.path.specs.declared.PathCommand.{PathCommand}
use Rattle.path.specs.Inner.{Emits}
use Rattle.pen.specs.declared.Stroke.{Stroke}
use Rattle.pen.specs.Drawing.{Gives, start}

-- nothing is drawn so far, into the lent words t
pub record Begins (t : MutBor (List ℕ)) (w : Stroke) : Type 0 where
  pub pen : w.pen ≡ start
  pub same : w.words.ghost_name ≡ t.ghost_name
  pub words : w.words.now ≡ t.now
  pub count : w.count ≡ 0

-- commands written behind those of the stroke v, into the same lent words
pub record Writes (v : Stroke) (cs : List PathCommand) (w : Stroke) : Type 0 where
  pub same : w.words.ghost_name ≡ v.words.ghost_name
  pub emits : Emits v.words.now v.count cs w.count w.words.now

-- a pen and commands, from the stroke v on
pub record Strokes (v : Stroke) (g : Gives) (w : Stroke) : Type 0 where
  pub pen : w.pen ≡ g.pen
  pub path : Writes v g.path w
  pub few : w.count ≤ v.count + 2
