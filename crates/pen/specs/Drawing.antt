-- A drawing's path: Rust's `parse_drawing`, `emit_bspline`, `read_point` and `read_three_points` over the list of tokens.
-- 01, src/drawing.rs. What the documents say stands beside each command: (S) the format's description, (L) another reader.
use Rattle.std.specs.Prelude.{List, [], ◌∷◌, ◌++◌, Bool, true, false, ℕ, zero, suc, ◌-◌, ◌^◌, eqb, pos, Float, length}
use Rattle.std.specs.Float.{fin, binary32}
use Rattle.std.specs.Float.Ieee.{add, mul, div, of_int}
use Rattle.scan.specs.Scan.{pick, lower}
use Rattle.float.specs.Float.{zero as f0, one as f1}
use Rattle.path.specs.declared.PathCommand.{PathCommand}
use Rattle.path.specs.declared.PathCommand.TheVariants.{MoveTo, LineTo, CubicTo, Close as Closed}
use Rattle.tokens.specs.declared.Token.{Token}
use Rattle.tokens.specs.declared.Token.TheVariants.{Letter, Number, Refused, Other}
use Rattle.tokens.specs.Tokens.{until_letter}
use Rattle.path.specs.declared.Point.{Point}
use Rattle.pen.specs.declared.Ctrl.{Ctrl}
use Rattle.pen.specs.declared.Ctrl.TheVariants.{One, Two, Three, Span}
use Rattle.pen.specs.declared.Mode.{Mode}
use Rattle.pen.specs.declared.Mode.TheVariants.{Idle, Lines, Cubics, Spline}
use Rattle.pen.specs.declared.Pen.{Pen}
use Rattle.pen.specs.declared.Command.{Command}
use Rattle.pen.specs.declared.Command.TheVariants.{Move, MoveOpen, Line, Cubic, Basis, Close, Unknown}

-- ---- numbers

-- 2, 4 and 6 as f32
abbrev pub f2 : Float
f2 = fin false 1 (pos 1)

abbrev pub f4 : Float
f4 = fin false 1 (pos 2)

abbrev pub f6 : Float
f6 = fin false 3 (pos 1)

abbrev pub point_at : Float → Float → Point
point_at x y = record { x = x; y = y }

-- what coordinates are multiplied by: 1 / 2 ^ (exponent - 1), at exponent 0 as at 1
unfoldable pub scale_of : ℕ → Float
unfolding div of_int
scale_of exponent = pick (eqb exponent 0) f1 (div binary32 f1 (of_int binary32 (pos (2 ^ (exponent - 1)))))

unfoldable pub scaled : Float → Float → Float → Point
unfolding mul
scaled k x y = point_at (mul binary32 x k) (mul binary32 y k)

-- (a · wa + b · wb + c · wc) / 6, each operation rounded, in this order
unfoldable pub weighed : Float → Float → Float → Float → Float → Float → Float
unfolding add mul div
weighed a wa b wb c wc = div binary32 (add binary32 (add binary32 (mul binary32 a wa) (mul binary32 b wb)) (mul binary32 c wc)) f6

abbrev pub bez : Point → Float → Point → Float → Point → Float → Point
bez a wa b wb c wc = point_at (weighed a.x wa b.x wb c.x wc) (weighed a.y wa b.y wb c.y wc)

-- ---- splines

-- Rust's `emit_bspline` on a window of four control points a b c d: where the first span starts, its cubic, and where that ends
abbrev pub span_start : Point → Point → Point → Point
span_start a b c = bez a f1 b f4 c f1

abbrev pub span_end : Point → Point → Point → Point
span_end b c d = bez b f1 c f4 d f1

abbrev pub span_of : Point → Point → Point → PathCommand
span_of b c d = CubicTo (bez b f4 c f2 c f0) (bez b f2 c f4 c f0) (span_end b c d)

-- ---- reading points

-- a point and the tokens behind it, or none
pub data Read1 : Type 0 where
  none1 : Read1
  point : Point → List Token → Read1

pub data Read3 : Type 0 where
  none3 : Read3
  points : Point → Point → Point → List Token → Read3

-- what f reads behind a first number; none where there is no number
abbrev pub behind_number : List Token → (Float → List Token → Read1) → Read1
behind_number [] f = none1
behind_number (Letter b ∷ ts) f = none1
behind_number (Number x ∷ ts) f = f x ts
behind_number (Refused p ∷ ts) f = none1
behind_number (Other ∷ ts) f = none1

-- Rust's `read_point`, coordinates multiplied by k
abbrev pub read_point : Float → List Token → Read1
read_point k ts = behind_number ts (λ x us. behind_number us (λ y vs. point (scaled k x y) vs))

-- what f reads behind a point; none where there is no point
abbrev pub behind_point : Read1 → (Point → List Token → Read3) → Read3
behind_point none1 f = none3
behind_point (point p ts) f = f p ts

-- Rust's `read_three_points`
abbrev pub read_three : Float → List Token → Read3
read_three k ts = behind_point (read_point k ts) (λ p us. behind_point (read_point k us) (λ q vs. behind_point (read_point k vs) (λ r ws. points p q r ws)))

-- ---- the machine

-- What a turn gives: the pen, the commands, and the tokens behind it. Rust's `cur` and `subpath_open` are the pen's. Its `last_cmd` matters only by
-- what a number without a letter does: after m, n, l and p it draws lines, after b cubics; after c, a finished s or no command nothing. So the loops of
-- l, b and p are these turns, and s is the mode that gathers control points: as each comes, the window of four moves on.
pub record Turn : Type 0 where
  pub pen : Pen
  pub path : List PathCommand
  pub rest : List Token

abbrev pub turned : Pen → List PathCommand → List Token → Turn
turned pen path rest = record { pen = pen; path = path; rest = rest }

abbrev pub pen_of : Point → Bool → Mode → Pen
pen_of cur opened mode = record { cur = cur; opened = opened; mode = mode }

-- a pen and commands
pub record Gives : Type 0 where
  pub pen : Pen
  pub path : List PathCommand

abbrev pub gives : Pen → List PathCommand → Gives
gives pen path = record { pen = pen; path = path }

abbrev pub behind : Gives → List Token → Turn
behind g rest = turned g.pen g.path rest

-- a span between b and c
abbrev pub span_gives : Point → Point → Point → Gives
span_gives b c p = gives (pen_of (span_end b c p) true (Spline (Span c p))) (span_of b c p ∷ [])

-- a spline with one control point more: from the fourth on each draws a span, the first of them behind a line to its start
abbrev pub spline_point : Point → Bool → Ctrl → Point → Gives
spline_point cur opened (One a) p = gives (pen_of cur opened (Spline (Two a p))) []
spline_point cur opened (Two a b) p = gives (pen_of cur opened (Spline (Three a b p))) []
spline_point cur opened (Three a b c) p = gives (pen_of (span_end b c p) true (Spline (Span c p))) (LineTo (span_start a b c) ∷ span_of b c p ∷ [])
spline_point cur opened (Span b c) p = span_gives b c p

abbrev pub by_mode : Mode → Pen → Point → Gives
by_mode Idle pen p = gives pen []
by_mode Lines pen p = gives (pen_of p true Lines) (LineTo p ∷ [])
by_mode Cubics pen p = gives pen []
by_mode (Spline c) pen p = spline_point pen.cur pen.opened c p

-- a point without a letter
abbrev pub on_point : Pen → Point → Gives
on_point pen p = by_mode pen.mode pen p

abbrev pub settled_by : Mode → Pen → Pen
settled_by Idle pen = pen
settled_by Lines pen = pen
settled_by Cubics pen = pen
settled_by (Spline c) pen = pen_of pen.cur pen.opened Idle

-- a spline takes no further points: what comes is neither a point nor `p`
abbrev pub settled : Pen → Pen
settled pen = settled_by pen.mode pen

abbrev pub pointed_by : Pen → Read1 → List Token → Turn
pointed_by pen none1 ts = turned (settled pen) [] ts
pointed_by pen (point p rest) ts = behind (on_point pen p) rest

abbrev pub curve_by : Pen → Read3 → List Token → Turn
curve_by pen none3 ts = turned pen [] ts
curve_by pen (points p q r rest) ts = turned (pen_of r true Cubics) (CubicTo p q r ∷ []) rest

-- a point, or one token less; `all` is the tokens, ts those behind the first
abbrev pub pointed : Float → Pen → List Token → List Token → Turn
pointed k pen all ts = pointed_by pen (read_point k all) ts

abbrev pub curve : Float → Pen → List Token → List Token → Turn
curve k pen all ts = curve_by pen (read_three k all) ts

abbrev pub bare_by : Mode → Float → Pen → List Token → List Token → Turn
bare_by Idle k pen all ts = turned pen [] ts
bare_by Lines k pen all ts = pointed k pen all ts
bare_by Cubics k pen all ts = curve k pen all ts
bare_by (Spline c) k pen all ts = pointed k pen all ts

-- a token that is no letter
abbrev pub bare_turn : Float → Pen → List Token → List Token → Turn
bare_turn k pen all ts = bare_by pen.mode k pen all ts

-- what a letter of either case asks for
unfoldable pub command_of : ℕ → Command
command_of b =
    let c = lower b in
    pick (eqb c 109) Move (pick (eqb c 110) MoveOpen (pick (eqb c 108) Line (pick (eqb c 112) Line
    (pick (eqb c 98) Cubic (pick (eqb c 115) Basis (pick (eqb c 99) Close Unknown))))))

-- 01: "`p` continues a spline only in lower case"
abbrev pub continues : Mode → ℕ → Bool
continues Idle b = false
continues Lines b = false
continues Cubics b = false
continues (Spline c) b = eqb b 112

-- 01: "`m` closes an open subpath, `n` does not"
abbrev pub closes_first : Bool → Bool → List PathCommand
closes_first closes opened = pick (pick closes opened false) (Closed ∷ []) []

abbrev pub moves_by : Bool → Pen → Read1 → List Token → Turn
moves_by closes pen none1 ts = turned pen [] ts
moves_by closes pen (point p rest) ts = turned (pen_of p false Lines) (closes_first closes pen.opened ++ (MoveTo p ∷ [])) rest

-- a move to the next point; without one nothing changes
abbrev pub moves_to : Bool → Float → Pen → List Token → Turn
moves_to closes k pen ts = moves_by closes pen (read_point k ts) ts

abbrev pub command : Command → Float → Pen → List Token → Turn
-- m: (S) moves, and closes an open shape. (L) spare pairs stay moves; here they are lines
command Move k pen ts = moves_to true k pen ts
-- n: (S) moves, and leaves the shape open
command MoveOpen k pen ts = moves_to false k pen ts
-- l: (S) a line to each point. p alone: (S) only extends a spline; the Rust draws lines
command Line k pen ts = turned (pen_of pen.cur pen.opened Lines) [] ts
-- b: (S) a cubic for each three points
command Cubic k pen ts = turned (pen_of pen.cur pen.opened Cubics) [] ts
-- s: (S) a uniform cubic B-spline, at least three points, which p extends. (L) p is passed over, the spline goes on
command Basis k pen ts = turned (pen_of pen.cur pen.opened (Spline (One pen.cur))) [] ts
-- c: (S) closes the spline, (L) joins its first three points at its end; the Rust closes the path: a difference
command Close k pen ts = turned (pen_of pen.cur false Idle) (Closed ∷ []) ts
-- any other letter: it and all up to the next letter are passed over
command Unknown k pen ts = turned pen [] (until_letter ts)

-- a letter; ts stands behind it
unfoldable pub letter_turn : ℕ → Float → Pen → List Token → Turn
letter_turn b k pen ts = pick (continues pen.mode b) (turned pen [] ts) (command (command_of b) k (settled pen) ts)

-- one token; `all` is the tokens from it on, ts those behind it
abbrev pub turn_of : Token → Float → Pen → List Token → List Token → Turn
turn_of (Letter b) k pen all ts = letter_turn b k pen ts
turn_of (Number x) k pen all ts = bare_turn k pen all ts
turn_of (Refused p) k pen all ts = bare_turn k pen all ts
turn_of Other k pen all ts = bare_turn k pen all ts

-- all tokens, in at most n turns
unfoldable pub walk : Float → ℕ → Pen → List Token → List PathCommand
walk k zero pen ts = []
walk k (suc n) pen [] = []
walk k (suc n) pen (t ∷ ts) =
    let u = turn_of t k pen (t ∷ ts) ts in
    u.path ++ walk k n u.pen u.rest

abbrev pub start : Pen
start = pen_of (point_at f0 f0) false Idle

-- the commands of a drawing
abbrev pub draw : Float → List Token → List PathCommand
draw k ts = walk k (length ts) start ts
