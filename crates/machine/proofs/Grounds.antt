-- Ground 3, turn by turn: what a turn passes over holds no refused numeral, unless it is the token itself or stands in the tail of an unknown command.
use mathlib.Core.Path.{◌≡◌, refl, sym, ap, ◌∙◌}
use mathlib.Core.List.{List, [], ◌∷◌}
use mathlib.Core.Bool.{Bool, true, false}
use Prim.Native.Nat.{ℕ}
use lib.Ieee.{Float}
use Rattle.scan.proofs.Laws.{picked}
use Rattle.refusal.specs.Answer.{first_ground}
use Rattle.refusal.specs.declared.Refusal.{Refusal}
use Rattle.refusal.specs.declared.Refusal.TheVariants.{NumeralTooLong}
use Rattle.std.specs.Prelude.{Ok, Err}
use Rattle.refusal.specs.Refusal.{Checked}
use Rattle.tokens.specs.declared.Token.{Token}
use Rattle.tokens.specs.declared.Token.TheVariants.{Letter, Number, Refused, Other}
use Rattle.pen.specs.declared.Command.{Command}
use Rattle.pen.specs.declared.Command.TheVariants.{Move, MoveOpen, Line, Cubic, Basis, Close, Unknown}
use Rattle.path.specs.declared.Point.{Point}
use Rattle.pen.specs.declared.Mode.{Mode}
use Rattle.pen.specs.declared.Mode.TheVariants.{Idle, Lines, Cubics, Spline}
use Rattle.pen.specs.declared.Pen.{Pen}
use Rattle.tokens.specs.Tokens.{from, until_letter, tail, tokens_ground}
use Rattle.tokens.specs.Inner.{NextIs}
use Rattle.pen.specs.Drawing.{Read1, none1, point, Read3, none3, points, read_point, behind_point, read_three, Turn, turned, settled, continues, pointed_by, curve_by, bare_by, moves_by, command, command_of, letter_turn, turn_of}
use Rattle.machine.specs.Inner.{Passes}

-- the tokens behind a point, or all of them
abbrev rest_of : Read1 → List Token → List Token
rest_of none1 ts = ts
rest_of (point p rest) ts = rest

abbrev rest_of3 : Read3 → List Token → List Token
rest_of3 none3 ts = ts
rest_of3 (points p q r rest) ts = rest

read-ground : (k : Float) (ts : List Token) → tokens_ground (rest_of (read_point k ts) ts) ≡ tokens_ground ts
unfolding tokens_ground
read-ground k [] = refl
read-ground k (Letter b ∷ ts) = refl
read-ground k (Number x ∷ []) = refl
read-ground k (Number x ∷ (Letter b ∷ ts)) = refl
read-ground k (Number x ∷ (Number y ∷ ts)) = refl
read-ground k (Number x ∷ (Refused p ∷ ts)) = refl
read-ground k (Number x ∷ (Other ∷ ts)) = refl
read-ground k (Refused p ∷ ts) = refl
read-ground k (Other ∷ ts) = refl

-- from the tokens behind the first, ts, to what a turn leaves; g is the ground of all
module _ (k : Float) (pen : Pen) (ts : List Token) (g : Checked) (h : tokens_ground ts ≡ g) where
  behind-ground : (r : Read1) (u : List Token) (f : Point → List Token → Read3) → tokens_ground (rest_of r u) ≡ g → ((p : Point) (us : List Token) → tokens_ground us ≡ g → tokens_ground (rest_of3 (f p us) ts) ≡ g) → tokens_ground (rest_of3 (behind_point r f) ts) ≡ g
  behind-ground none1 u f e z = h
  behind-ground (point p us) u f e z = z p us e

  three_ground : (all : List Token) → tokens_ground all ≡ g → tokens_ground (rest_of3 (read_three k all) ts) ≡ g
  three_ground all e =
      behind-ground (read_point k all) all _ (read-ground k all ∙ e) (λ p us a.
      behind-ground (read_point k us) us _ (read-ground k us ∙ a) (λ q vs b.
      behind-ground (read_point k vs) vs _ (read-ground k vs ∙ b) (λ r ws c. c)))

  curve-rest : (r : Read3) → (curve_by pen r ts).rest ≡ rest_of3 r ts
  curve-rest none3 = refl
  curve-rest (points p q r rest) = refl

  pointed-ground : (r : Read1) (u : List Token) → tokens_ground (rest_of r u) ≡ g → tokens_ground (pointed_by pen r ts).rest ≡ g
  pointed-ground none1 u e = h
  pointed-ground (point p rest) u e = e

  bare_ground : (m : Mode) (all : List Token) → tokens_ground all ≡ g → tokens_ground (bare_by m k pen all ts).rest ≡ g
  bare_ground Idle all e = h
  bare_ground Lines all e = pointed-ground (read_point k all) all (read-ground k all ∙ e)
  bare_ground Cubics all e = ap tokens_ground (curve-rest (read_three k all)) ∙ three_ground all e
  bare_ground (Spline c) all e = pointed-ground (read_point k all) all (read-ground k all ∙ e)

moves_ground : (closes : Bool) (pen : Pen) (r : Read1) (ts : List Token) → tokens_ground (rest_of r ts) ≡ tokens_ground ts → tokens_ground ts ≡ tokens_ground (moves_by closes pen r ts).rest
moves_ground closes pen none1 ts e = refl
moves_ground closes pen (point p rest) ts e = sym e

command-ground : (c : Command) (k : Float) (pen : Pen) (ts : List Token) → (c ≡ Unknown → ⊥) → tokens_ground ts ≡ tokens_ground (command c k pen ts).rest
command-ground Move k pen ts h = moves_ground true pen (read_point k ts) ts (read-ground k ts)
command-ground MoveOpen k pen ts h = moves_ground false pen (read_point k ts) ts (read-ground k ts)
command-ground Line k pen ts h = refl
command-ground Cubic k pen ts h = refl
command-ground Basis k pen ts h = refl
command-ground Close k pen ts h = refl
command-ground Unknown k pen ts h = absurd (h refl)

-- the tail of an unknown command, then the rest
tail_splits : (ts : List Token) → tokens_ground ts ≡ first_ground (tokens_ground (tail ts)) (tokens_ground (until_letter ts))
unfolding tokens_ground tail until_letter
tail_splits [] = refl
tail_splits (Letter b ∷ ts) = refl
tail_splits (Number x ∷ ts) = tail_splits ts
tail_splits (Refused p ∷ ts) = refl
tail_splits (Other ∷ ts) = tail_splits ts

module _ (k : Float) (pen : Pen) (ts : List Token) where
  pub letter_known : (b : ℕ) (c : Command) → c ≡ command_of b → (c ≡ Unknown → ⊥) → tokens_ground (Letter b ∷ ts) ≡ tokens_ground (letter_turn b k pen ts).rest
  unfolding tokens_ground letter_turn
  letter_known b c e h = picked (λ (u : Turn). tokens_ground ts ≡ tokens_ground u.rest) (continues pen.mode b) (turned pen [] ts) (command (command_of b) k (settled pen) ts) refl (rw (← e) (command-ground c k (settled pen) ts h))

  pub letter_unknown : (b : ℕ) → command_of b ≡ Unknown → tokens_ground (Letter b ∷ ts) ≡ first_ground (tokens_ground (tail ts)) (tokens_ground (letter_turn b k pen ts).rest)
  unfolding tokens_ground letter_turn
  letter_unknown b q =
      let r = tokens_ground (tail ts) in
      picked (λ (u : Turn). tokens_ground ts ≡ first_ground r (tokens_ground u.rest)) (continues pen.mode b) (turned pen [] ts) (command (command_of b) k (settled pen) ts)
      (either_way r (tail_splits ts))
      (rw q (tail_splits ts))
    where
      either_way : (r : Checked) → tokens_ground ts ≡ first_ground r (tokens_ground (until_letter ts)) → tokens_ground ts ≡ first_ground r (tokens_ground ts)
      either_way (Ok _) e = refl
      either_way (Err x) e = e

  pub number-ground : (x : Float) → tokens_ground (Number x ∷ ts) ≡ tokens_ground (turn_of (Number x) k pen (Number x ∷ ts) ts).rest
  unfolding tokens_ground
  number-ground x = sym (bare_ground k pen ts (tokens_ground ts) refl pen.mode (Number x ∷ ts) refl)

  pub other-ground : tokens_ground (Other ∷ ts) ≡ tokens_ground (turn_of Other k pen (Other ∷ ts) ts).rest
  unfolding tokens_ground
  other-ground = sym (bare_ground k pen ts (tokens_ground ts) refl pen.mode (Other ∷ ts) refl)

  pub refused-ground : (p : ℕ) → tokens_ground (Refused p ∷ ts) ≡ Err (NumeralTooLong p)
  unfolding tokens_ground
  refused-ground p = refl

-- a turn that passes over no refused numeral, and one that stops at one
module _ {s : List ℕ} {i j : ℕ} {t : Token} (k : Float) (pen : Pen) (n : NextIs s i t j) where
  pub ground-turned : (next : ℕ) → Passes t (from s j) (Ok tt) → from s next ≡ (turn_of t k pen (t ∷ from s j) (from s j)).rest → tokens_ground (from s i) ≡ tokens_ground (from s next)
  ground-turned next f q = ap tokens_ground n.is ∙ f k pen ∙ sym (ap tokens_ground q)

  pub ground_stopped : {x : Refusal} → Passes t (from s j) (Err x) → tokens_ground (from s i) ≡ Err x
  ground_stopped f = ap tokens_ground n.is ∙ f k pen
