-- What `parse_drawing` answers, and what the path table holds afterwards.
use Rattle.std.specs.Prelude.{◌≡◌, List, ℕ, ◌/◌, ltb, length, Ok, Err}
use Rattle.scan.specs.Scan.{pick}
use Rattle.refusal.specs.Refusal.{Checked, text_ground}
use Rattle.refusal.specs.declared.Refusal.TheVariants.{ScaleTooLarge}
use Rattle.path.specs.declared.PathCommand.{PathCommand}
use Rattle.path.specs.Path.{command_width, laid_path}
use Rattle.refusal.specs.Answer.{Answer, first_ground, room_for, unless_bad, table_after}
use Rattle.tokens.specs.Tokens.{from, tokens_ground}
use Rattle.pen.specs.Drawing.{scale_of, draw}

-- 01, ground 7: "a drawing's scale exponent is above 32"
abbrev pub most_exponent : ℕ
most_exponent = 32

abbrev pub exponent_ground : ℕ → Checked
exponent_ground x = pick (ltb most_exponent x) (Err ScaleTooLarge) (Ok tt)

unfoldable pub ground : List ℕ → ℕ → Checked
ground s exponent = first_ground (text_ground s) (first_ground (tokens_ground (from s 0)) (exponent_ground exponent))

-- the commands of a drawing
abbrev pub drawing : List ℕ → ℕ → List PathCommand
drawing s exponent = draw (scale_of exponent) (from s 0)

-- a place is one whole command
abbrev pub places_of : List ℕ → ℕ
places_of t = length t / command_width

-- the answer of `parse_drawing`
unfoldable pub answer : List ℕ → ℕ → ℕ → Answer
answer s exponent places = unless_bad (ground s exponent) (room_for (length (drawing s exponent)) places)

-- the path table afterwards: the commands and then every old word; on a refusal every old word
unfoldable pub after : List ℕ → ℕ → List ℕ → List ℕ
after s exponent t = table_after (answer s exponent (places_of t)) (laid_path t (drawing s exponent)) t

-- what `parse_drawing` says: the answer r, and the path table t before and u after
pub record Answered (s : List ℕ) (exponent : ℕ) (t : List ℕ) (r : Answer) (u : List ℕ) : Type 0 where
  pub drawing : r ≡ answer s exponent (places_of t)
  pub path : u ≡ after s exponent t
