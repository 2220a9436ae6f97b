-- 01, "Style in force": "from a state, the text and the line's own style name comes the name that \r gave, a part of the block, or else the line's own
-- name, a part of the other text".
use Rattle.std.specs.Prelude.{◌≡◌, Bool, true, false, List, ℕ, ◌+◌, ◌≤◌, leb, length, Option, Some, Result, Ok, Err, MatchResult}
use Rattle.std.specs.Result.{result_and, result_unwrap_or}
use Rattle.std.specs.Borrow.{Bor}
use Rattle.scan.specs.Scan.{pick}
use Rattle.refusal.specs.Refusal.{Checked, number_of, text_ground}
use Rattle.refusal.specs.Answer.{Stands}
use Rattle.refusal.specs.declared.Refusal.{Refusal}
use Rattle.refusal.specs.declared.Refusal.TheVariants.{NameBeyondText}
use Rattle.state.specs.declared.Part.{Part}
use Rattle.state.specs.declared.RenderState.{RenderState}
use Rattle.state.specs.State.{reset_to}
use Rattle.clips.specs.Part.{IsPart}
use Rattle.style.specs.declared.Place.{Place}
use Rattle.style.specs.declared.StyleName.{StyleName}

-- ---- the grounds of the two texts

-- of two grounds the one of the lower number, of equal numbers the first
abbrev pub lower_ground : Checked → Checked → Checked
lower_ground (Ok _) d = d
lower_ground (Err r) (Ok _) = Err r
lower_ground (Err r) (Err q) = pick (leb (number_of r) (number_of q)) (Err r) (Err q)

-- "Refusals 1 and 2 look at the block, then at the name": 1 for the block, 1 for the name, 2 for the block, 2 for the name; a place counts in its own text
abbrev pub texts_ground : List ℕ → List ℕ → Checked
texts_ground block own = lower_ground (text_ground block) (text_ground own)

-- ---- which text, and which part of it

abbrev pub place : Bool → ℕ → ℕ → Place
place ofBlock from to = record { of_block = ofBlock; from = from; to = to }

-- beside a refusal an empty part
abbrev pub refused : Place
refused = place false 0 0

-- what stands for an answer: the place that it names, or that part
abbrev pub shown : Result Place Refusal → Place
shown r = result_unwrap_or r refused

-- the line's own name, all of the other text
abbrev pub own_name : List ℕ → Place
own_name own = place false 0 (length own)

-- the name that \r gave, a part of a block of len bytes; ground 8 where it ends beyond it
abbrev pub given_name : Part → ℕ → Result Place Refusal
given_name p len = pick (leb (p.offset + p.size) len) (Ok (place true p.offset (p.offset + p.size))) (Err NameBeyondText)

abbrev pub named : Option (Option Part) → List ℕ → List ℕ → Result Place Refusal
named (Some (Some p)) block own = given_name p (length block)
named _ block own = Ok (own_name own)

-- the style in force, by places
abbrev pub style_in : RenderState → List ℕ → List ℕ → Result Place Refusal
style_in st block own = result_and (texts_ground block own) (named (reset_to st) block own)

-- what stands for the answer: its ground, and its place or, beside one, that part
abbrev pub PlaceStands : RenderState → List ℕ → List ℕ → Result Place Refusal → Type 0
PlaceStands st block own r = let a = style_in st block own in Stands (result_and a (Ok tt)) refused (shown a) (result_and r (Ok tt)) (shown r)

-- that a place lies within its text
pub record InItsText (block own : List ℕ) (p : Place) : Type 0 where
  pub order : p.from ≤ p.to
  pub high : p.to ≤ length (pick p.of_block block own)

-- ---- the slice that is handed back

-- r is the part that p names of one of the two texts, the caller's own bytes where they lie
abbrev pub IsName : Place → Bor (List ℕ) → Bor (List ℕ) → Bor (List ℕ) → Type 0
IsName p block own r = IsPart (pick p.of_block block own) p.from p.to r

-- with nothing against the texts: the place, and the slice that it names
pub record IsInForce (st : RenderState) (block own : Bor (List ℕ)) (n : StyleName) : Type 0 where
  pub places : style_in st block.now own.now ≡ Ok n.place
  pub name : IsName n.place block own n.name

-- with a ground: that one, and beside it an empty part, which `style_name` gives
pub record IsRefused (st : RenderState) (block own : Bor (List ℕ)) (e : Refusal) : Type 0 where
  pub ground : style_in st block.now own.now ≡ Err e
  pub beside : shown (style_in st block.now own.now) ≡ refused

-- what `style_in_force` says of its answer
abbrev pub InForce : RenderState → Bor (List ℕ) → Bor (List ℕ) → Result StyleName Refusal → Type 0
InForce st block own r = MatchResult r (IsInForce st block own) (IsRefused st block own)
