-- Turns of letters, from what their parts say.
use mathlib.Core.Path.{◌≡◌, refl}
use mathlib.Core.List.{List, [], ◌∷◌}
use mathlib.Core.Bool.{Bool, true, false}
use Prim.Native.Nat.{ℕ, ◌≤◌}
use native.Mathlib.Omega.{arith}
use lib.Ieee.{Float}
use lib.ListN.{length}
use Rattle.tokens.specs.declared.Token.{Token}
use Rattle.tokens.specs.Tokens.{from}
use Rattle.path.specs.declared.PathCommand.TheVariants.{MoveTo, Close}
use Rattle.path.specs.declared.Point.{Point}
use Rattle.pen.specs.declared.Mode.TheVariants.{Lines}
use Rattle.pen.specs.declared.Pen.{Pen}
use Rattle.pen.specs.declared.Stroke.{Stroke}
use Rattle.pen.specs.declared.Command.{Command}
use Rattle.pen.specs.Drawing.{closes_first, gives, turned, pen_of, settled, continues, command, command_of, letter_turn, moves_to}
use Rattle.pen.proofs.Counting.{closing-one}
use Rattle.pen.proofs.Strokes.{writes_none, writes-join, writes-pen}
use Rattle.pen.specs.Inner.{Writes, Strokes}
use Rattle.points.specs.Inner.{PointIs}
use Rattle.letters.specs.Inner.{Turns}

-- nothing is drawn, and the tokens from j on are left
pub turn_none : {s : List ℕ} {i j : ℕ} (v : Stroke) (pen : Pen) → i ≤ j → j ≤ length s → Turns s v (turned pen [] (from s j)) i (record v { pen = pen }) j
turn_none v pen a b = record { pen = refl; path = writes_none v pen; few = omega arith; rest = refl; low = a; high = b }

-- a close before a move
pub first-closed : {v u w : Stroke} {a b : Bool} → a ≡ true → b ≡ true → u ≡ w → Writes v (Close ∷ []) w → Writes v (closes_first a b) u
first-closed x y e h = rw (x, y, e) h

pub first-inside : {v u : Stroke} {a b : Bool} → a ≡ true → b ≡ false → u ≡ v → Writes v (closes_first a b) u
first-inside {v} x y e = rw (x, y, e) (writes_none v v.pen)

pub first-left : {v u : Stroke} {a : Bool} (b : Bool) → a ≡ false → u ≡ v → Writes v (closes_first a b) u
first-left {v} b x e = rw (x, e) (writes_none v v.pen)

-- a move to a point
pub moves_some : {s : List ℕ} {k : Float} {i next : ℕ} {p : Point} {u w : Stroke} {g : Pen} (closes : Bool) (v : Stroke) → PointIs s k (from s i) i p next → Writes v (closes_first closes v.pen.opened) u → Strokes u (gives g (MoveTo p ∷ [])) w
    → Turns s v (moves_to closes k v.pen (from s i)) i (record w { pen = pen_of p false Lines }) next
moves_some {w = w} closes v g x y =
    rw g.is (record { pen = refl; path = writes-pen {v = v} {w = w} _ (writes-join x y.path); few = omega (arith, x.emits.count, y.path.emits.count, closing-one closes v.pen.opened); rest = refl; low = omega (arith, g.low); high = g.high })

-- a letter that does not continue a spline
pub letter_turns : {s : List ℕ} {i next : ℕ} {w : Stroke} {c : Command} {pen : Pen} (v : Stroke) (b : ℕ) (k : Float) (ts : List Token) → continues v.pen.mode b ≡ false → c ≡ command_of b → pen ≡ settled v.pen
    → Turns s (record v { pen = pen }) (command c k pen ts) i w next → Turns s v (letter_turn b k v.pen ts) i w next
unfolding letter_turn
letter_turns v b k ts q e f x = let y = rw (e, f) at x in rw q (record { pen = y.pen; path = record { same = y.path.same; emits = y.path.emits }; few = y.few; rest = y.rest; low = y.low; high = y.high })
