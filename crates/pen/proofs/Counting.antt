-- One turn of the machine: it gets on, and draws no more commands than it takes tokens.
use mathlib.Core.Path.{◌≡◌, refl, ap}
use mathlib.Core.List.{List, [], ◌∷◌, ◌++◌}
use mathlib.Core.Bool.{Bool, true, false}
use Prim.Native.Nat.{ℕ, zero, suc, ◌+◌, ◌*◌, ◌≤◌}
use native.Mathlib.Omega.{arith}
use native.Mathlib.Nat.{le_refl}
use lib.Ieee.{Float}
use lib.ListN.{length, length-append}
use Rattle.scan.proofs.Laws.{picked}
use Rattle.path.specs.declared.PathCommand.{PathCommand}
use Rattle.tokens.specs.declared.Token.{Token}
use Rattle.tokens.specs.declared.Token.TheVariants.{Letter, Number, Refused, Other}
use Rattle.path.specs.declared.Point.{Point}
use Rattle.pen.specs.declared.Ctrl.{Ctrl}
use Rattle.pen.specs.declared.Ctrl.TheVariants.{One, Two, Three, Span}
use Rattle.pen.specs.declared.Mode.{Mode}
use Rattle.pen.specs.declared.Mode.TheVariants.{Idle, Lines, Cubics, Spline}
use Rattle.pen.specs.declared.Pen.{Pen}
use Rattle.pen.specs.declared.Command.{Command}
use Rattle.pen.specs.declared.Command.TheVariants.{Move, MoveOpen, Line, Cubic, Basis, Close, Unknown}
use Rattle.tokens.specs.Tokens.{is_letter, until_letter}
use Rattle.pen.specs.Drawing.{Read1, none1, point, Read3, none3, points, behind_number, read_point, behind_point, read_three, Turn, turned, spline_point, by_mode, settled, pointed_by, curve_by, bare_by, continues, closes_first, moves_by, command, command_of, letter_turn, turn_of, walk, start, draw}

-- ---- what is read, by a measure of the tokens that each number adds c to

module _ (c : ℕ) (μ : List Token → ℕ) (more : (x : Float) (ts : List Token) → μ ts + c ≤ μ (Number x ∷ ts)) where
  -- what is read leaves at least so many numbers less than n
  abbrev pub Two1 : ℕ → Read1 → Type 0
  Two1 n none1 = Unit
  Two1 n (point p ts) = μ ts + 2 * c ≤ n

  abbrev pub Two3 : ℕ → Read3 → Type 0
  Two3 n none3 = Unit
  Two3 n (points p q r ts) = μ ts + 6 * c ≤ n

  number_less : (n : ℕ) (ts : List Token) (f : Float → List Token → Read1) → ((x : Float) (us : List Token) → μ us + c ≤ μ ts → Two1 n (f x us)) → Two1 n (behind_number ts f)
  number_less n [] f h = tt
  number_less n (Letter b ∷ ts) f h = tt
  number_less n (Number x ∷ ts) f h = h x ts (more x ts)
  number_less n (Refused p ∷ ts) f h = tt
  number_less n (Other ∷ ts) f h = tt

  pub read_less : (k : Float) (ts : List Token) → Two1 (μ ts) (read_point k ts)
  read_less k ts = number_less (μ ts) ts _ (λ x us a. number_less (μ ts) us _ (λ y vs b. omega arith))

  point_less : (n m : ℕ) (r : Read1) (f : Point → List Token → Read3) → Two1 m r → ((p : Point) (us : List Token) → μ us + 2 * c ≤ m → Two3 n (f p us)) → Two3 n (behind_point r f)
  point_less n m none1 f h g = tt
  point_less n m (point p us) f h g = g p us h

  pub three_less : (k : Float) (ts : List Token) → Two3 (μ ts) (read_three k ts)
  three_less k ts =
      let n = μ ts in
      point_less n n (read_point k ts) _ (read_less k ts) (λ p us a.
      point_less n (μ us) (read_point k us) _ (read_less k us) (λ q vs b.
      point_less n (μ vs) (read_point k vs) _ (read_less k vs) (λ r ws d. omega arith)))

-- ---- by their number

longer : (x : Float) (ts : List Token) → length ts + 1 ≤ length (Number x ∷ ts)
longer x ts = omega arith

abbrev Short1 : ℕ → Read1 → Type 0
Short1 = Two1 1 length longer

abbrev Short3 : ℕ → Read3 → Type 0
Short3 = Two3 1 length longer

read_shorter : (k : Float) (ts : List Token) → Short1 (length ts) (read_point k ts)
read_shorter = read_less 1 length longer

three_shorter : (k : Float) (ts : List Token) → Short3 (length ts) (read_three k ts)
three_shorter = three_less 1 length longer

until_shorter : (ts : List Token) → length (until_letter ts) ≤ length ts
unfolding until_letter
until_shorter [] = omega arith
until_shorter (t ∷ ts) = picked (λ (l : List Token). length l ≤ suc (length ts)) (is_letter t) (t ∷ ts) (until_letter ts) (le_refl (suc (length ts))) (let h = until_shorter ts in omega arith)

-- of a turn with n tokens behind its first
pub record Counts (n : ℕ) (u : Turn) : Type 0 where
  pub shorter : length u.rest ≤ n
  pub few : length u.path + length u.rest ≤ suc n

nothing : (n : ℕ) (pen : Pen) (ts : List Token) → length ts ≤ n → Counts n (turned pen [] ts)
nothing n pen ts h = record { shorter = h; few = omega arith }

-- a point draws at most two commands
spline_two : (cur : Point) (opened : Bool) (c : Ctrl) (p : Point) → length (spline_point cur opened c p).path ≤ 2
spline_two cur opened (One a) p = omega arith
spline_two cur opened (Two a b) p = omega arith
spline_two cur opened (Three a b c) p = omega arith
spline_two cur opened (Span b c) p = omega arith

point_two : (m : Mode) (pen : Pen) (p : Point) → length (by_mode m pen p).path ≤ 2
point_two Idle pen p = omega arith
point_two Lines pen p = omega arith
point_two Cubics pen p = omega arith
point_two (Spline c) pen p = spline_two pen.cur pen.opened c p

pointed_counts : (pen : Pen) (r : Read1) (ts : List Token) → Short1 (suc (length ts)) r → Counts (length ts) (pointed_by pen r ts)
pointed_counts pen none1 ts h = nothing (length ts) (settled pen) ts (le_refl (length ts))
pointed_counts pen (point p rest) ts h =
    let w = point_two pen.mode pen p in
    record { shorter = omega arith; few = omega arith }

curve_counts : (pen : Pen) (r : Read3) (ts : List Token) → Short3 (suc (length ts)) r → Counts (length ts) (curve_by pen r ts)
curve_counts pen none3 ts h = nothing (length ts) pen ts (le_refl (length ts))
curve_counts pen (points p q r rest) ts h = record { shorter = omega arith; few = omega arith }

bare_counts : (m : Mode) (k : Float) (pen : Pen) (t : Token) (ts : List Token) → Counts (length ts) (bare_by m k pen (t ∷ ts) ts)
bare_counts Idle k pen t ts = nothing (length ts) pen ts (le_refl (length ts))
bare_counts Lines k pen t ts = pointed_counts pen (read_point k (t ∷ ts)) ts (read_shorter k (t ∷ ts))
bare_counts Cubics k pen t ts = curve_counts pen (read_three k (t ∷ ts)) ts (three_shorter k (t ∷ ts))
bare_counts (Spline c) k pen t ts = pointed_counts pen (read_point k (t ∷ ts)) ts (read_shorter k (t ∷ ts))

pub closing-one : (a b : Bool) → length (closes_first a b) ≤ 1
closing-one false b = omega arith
closing-one true false = omega arith
closing-one true true = omega arith

moves_counts : (closes : Bool) (pen : Pen) (r : Read1) (ts : List Token) → Short1 (length ts) r → Counts (length ts) (moves_by closes pen r ts)
moves_counts closes pen none1 ts h = nothing (length ts) pen ts (le_refl (length ts))
moves_counts closes pen (point p rest) ts h =
    let w = closing-one closes pen.opened in
    record { shorter = omega arith; few = simp length-append (omega arith) }

command_counts : (c : Command) (k : Float) (pen : Pen) (ts : List Token) → Counts (length ts) (command c k pen ts)
command_counts Move k pen ts = moves_counts true pen (read_point k ts) ts (read_shorter k ts)
command_counts MoveOpen k pen ts = moves_counts false pen (read_point k ts) ts (read_shorter k ts)
command_counts Line k pen ts = nothing (length ts) _ ts (le_refl (length ts))
command_counts Cubic k pen ts = nothing (length ts) _ ts (le_refl (length ts))
command_counts Basis k pen ts = nothing (length ts) _ ts (le_refl (length ts))
command_counts Close k pen ts = record { shorter = le_refl (length ts); few = omega arith }
command_counts Unknown k pen ts = nothing (length ts) pen (until_letter ts) (until_shorter ts)

pub turn_counts : (t : Token) (k : Float) (pen : Pen) (ts : List Token) → Counts (length ts) (turn_of t k pen (t ∷ ts) ts)
unfolding letter_turn
turn_counts (Letter b) k pen ts =
    picked (Counts (length ts)) (continues pen.mode b) (turned pen [] ts) (command (command_of b) k (settled pen) ts)
    (nothing (length ts) pen ts (le_refl (length ts)))
    (command_counts (command_of b) k (settled pen) ts)
turn_counts (Number x) k pen ts = bare_counts pen.mode k pen (Number x) ts
turn_counts (Refused p) k pen ts = bare_counts pen.mode k pen (Refused p) ts
turn_counts Other k pen ts = bare_counts pen.mode k pen Other ts

-- ---- more turns than there are tokens change nothing

module _ (k : Float) where
  fuel : (n m : ℕ) (pen : Pen) (ts : List Token) → length ts ≤ n → length ts ≤ m → walk k n pen ts ≡ walk k m pen ts
  unfolding walk
  fuel zero zero pen ts a b = refl
  fuel zero (suc m) pen [] a b = refl
  fuel zero (suc m) pen (t ∷ ts) a b = absurd (omega arith)
  fuel (suc n) zero pen [] a b = refl
  fuel (suc n) zero pen (t ∷ ts) a b = absurd (omega arith)
  fuel (suc n) (suc m) pen [] a b = refl
  fuel (suc n) (suc m) pen (t ∷ ts) a b =
      let u = turn_of t k pen (t ∷ ts) ts in
      let c = turn_counts t k pen ts in
      ap (λ (l : List PathCommand). u.path ++ l) (fuel n m u.pen u.rest (omega (arith, c.shorter)) (omega (arith, c.shorter)))

  -- what is still to come from a pen and the tokens left
  abbrev pub left : Pen → List Token → List PathCommand
  left pen ts = walk k (length ts) pen ts

  pub left_end : (pen : Pen) (ts : List Token) → ts ≡ [] → left pen ts ≡ []
  unfolding walk
  left_end pen ts e = rw e

  pub left_turn : (pen : Pen) (t : Token) (all ts : List Token) → all ≡ t ∷ ts → left pen all ≡ (turn_of t k pen all ts).path ++ left (turn_of t k pen all ts).pen (turn_of t k pen all ts).rest
  unfolding walk
  left_turn pen t all ts e =
      let u = turn_of t k pen (t ∷ ts) ts in
      let c = turn_counts t k pen ts in
      rw e (ap (λ (l : List PathCommand). u.path ++ l) (fuel (length ts) (length u.rest) u.pen u.rest c.shorter (le_refl (length u.rest))))

  -- a drawing gives at most as many commands as it has tokens
  walk-few : (n : ℕ) (pen : Pen) (ts : List Token) → length (walk k n pen ts) ≤ length ts
  unfolding walk
  walk-few zero pen ts = omega arith
  walk-few (suc n) pen [] = omega arith
  walk-few (suc n) pen (t ∷ ts) =
      let u = turn_of t k pen (t ∷ ts) ts in
      let c = turn_counts t k pen ts in
      let i = walk-few n u.pen u.rest in
      simp length-append (omega (arith, c.few, i))

  pub few_commands : (ts : List Token) → length (draw k ts) ≤ length ts
  few_commands ts = walk-few (length ts) start ts
