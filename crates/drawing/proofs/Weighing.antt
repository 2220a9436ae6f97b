-- A drawing has no more commands than its tokens weigh: a letter as one, a number as a half, or a sixth behind b.
use mathlib.Core.Path.{◌≡◌, refl, sym}
use mathlib.Core.List.{List, [], ◌∷◌}
use mathlib.Core.Bool.{Bool, true, false, true≢false}
use mathlib.Core.Logic.{◌⊎◌, inl, inr, ⊎_elim}
use Prim.Native.Nat.{ℕ, zero, suc, ◌+◌, ◌*◌, ◌≤◌}
use native.Mathlib.Omega.{arith}
use native.Mathlib.Nat.{le_refl}
use lib.Dec.{eqb}
use lib.Ieee.{Float}
use borrow.Author.Tests.{eqb-true}
use lib.ListN.{length, length-append}
use Rattle.scan.specs.Scan.{pick, lower}
use Rattle.tokens.specs.declared.Token.{Token}
use Rattle.tokens.specs.declared.Token.TheVariants.{Letter, Number, Refused, Other}
use Rattle.tokens.specs.Tokens.{until_letter}
use Rattle.tokens.specs.Inner.{rate_of, letter_weight, weight}
use Rattle.path.specs.declared.Point.{Point}
use Rattle.pen.specs.declared.Ctrl.{Ctrl}
use Rattle.pen.specs.declared.Ctrl.TheVariants.{One, Two, Three, Span}
use Rattle.pen.specs.declared.Mode.{Mode}
use Rattle.pen.specs.declared.Mode.TheVariants.{Idle, Lines, Cubics, Spline}
use Rattle.pen.specs.declared.Pen.{Pen}
use Rattle.pen.specs.declared.Command.{Command}
use Rattle.pen.specs.declared.Command.TheVariants.{Move, MoveOpen, Line, Cubic, Basis, Close, Unknown}
use Rattle.pen.specs.Drawing.{Read1, none1, point, Read3, none3, points, read_point, read_three, Turn, turned, spline_point, by_mode, settled, settled_by, pointed_by, curve_by, bare_by, continues, closes_first, moves_by, command, command_of, letter_turn, turn_of, walk, start, draw}
use Rattle.pen.proofs.Counting.{Two1, Two3, read_less, three_less}

numbered : (r : ℕ) (x : Float) (ts : List Token) → weight r ts + r ≤ weight r (Number x ∷ ts)
unfolding weight
numbered r x ts = le_refl _

abbrev Light1 : ℕ → ℕ → Read1 → Type 0
Light1 r = Two1 r (weight r) (numbered r)

abbrev Light3 : ℕ → ℕ → Read3 → Type 0
Light3 r = Two3 r (weight r) (numbered r)

-- what a pen still owes, in sixths of a command: a spline's fourth point draws two commands at once, and the third pays for one
abbrev owed : Mode → ℕ
owed Idle = 0
owed Lines = 0
owed Cubics = 0
owed (Spline (One a)) = 0
owed (Spline (Two a b)) = 0
owed (Spline (Three a b c)) = 6
owed (Spline (Span b c)) = 0

-- numbers weigh three, or one where the pen draws cubics
abbrev Suits : ℕ → Pen → Type 0
Suits r pen = (r ≡ 3) ⊎ ((r ≡ 1) × (pen.mode ≡ Cubics))

-- of a turn of a pen that owes o, on tokens of the weight w: at the rate r, what is drawn, what is left and what is owed
pub record Weighs (r o w : ℕ) (u : Turn) : Type 0 where
  pub suits : Suits r u.pen
  pub bound : 6 * length u.path + weight r u.rest + owed u.pen.mode ≤ w + o

settled_owes : (m : Mode) (pen : Pen) → owed (settled_by m pen).mode ≤ owed pen.mode
settled_owes Idle pen = le_refl _
settled_owes Lines pen = le_refl _
settled_owes Cubics pen = le_refl _
settled_owes (Spline c) pen = omega arith

-- ---- tokens that are no letters

spline_weighs : (cur : Point) (opened : Bool) (c : Ctrl) (p : Point) → 6 * length (spline_point cur opened c p).path + owed (spline_point cur opened c p).pen.mode ≤ 6 + owed (Spline c)
spline_weighs cur opened (One a) p = omega arith
spline_weighs cur opened (Two a b) p = omega arith
spline_weighs cur opened (Three a b c) p = omega arith
spline_weighs cur opened (Span b c) p = omega arith

point_weighs : (m : Mode) (pen : Pen) (p : Point) → pen.mode ≡ m → 6 * length (by_mode m pen p).path + owed (by_mode m pen p).pen.mode ≤ 6 + owed m
point_weighs Idle pen p e = rw e (omega arith)
point_weighs Lines pen p e = omega arith
point_weighs Cubics pen p e = rw e (omega arith)
point_weighs (Spline c) pen p e = spline_weighs pen.cur pen.opened c p

pointed_weighs : (w : ℕ) (pen : Pen) (r : Read1) (ts : List Token) → weight 3 ts ≤ w → Light1 3 w r → Weighs 3 (owed pen.mode) w (pointed_by pen r ts)
pointed_weighs w pen none1 ts l h = let o = settled_owes pen.mode pen in record { suits = inl refl; bound = omega arith }
pointed_weighs w pen (point p rest) ts l h = let o = point_weighs pen.mode pen p refl in record { suits = inl refl; bound = omega arith }

curve_weighs : (r w : ℕ) (pen : Pen) (x : Read3) (ts : List Token) → 1 ≤ r → Suits r pen → weight r ts ≤ w → Light3 r w x → Weighs r (owed pen.mode) w (curve_by pen x ts)
curve_weighs r w pen none3 ts a f l h = record { suits = f; bound = omega arith }
curve_weighs r w pen (points p q s rest) ts a f l h = record { suits = ⊎_elim (λ z. inl z) (λ z. inr (z.0, refl)) f; bound = omega arith }

-- the weight w of all tokens is that of those behind the first and no less than theirs
bare_weighs : (m : Mode) (r : ℕ) (k : Float) (pen : Pen) (all ts : List Token) → pen.mode ≡ m → 1 ≤ r → Suits r pen → weight r ts ≤ weight r all → Weighs r (owed pen.mode) (weight r all) (bare_by m k pen all ts)
bare_weighs Idle r k pen all ts e a f l = record { suits = f; bound = omega arith }
bare_weighs Lines r k pen all ts e a f l = ⊎_elim (λ z. rw z (pointed_weighs (weight 3 all) pen (read_point k all) ts (rw z at l) (read_less 3 (weight 3) (numbered 3) k all))) (λ z. absurd (let w : ◌≡◌ {A = ℕ} 0 1 = cc z.1 in omega arith)) f
bare_weighs Cubics r k pen all ts e a f l = curve_weighs r (weight r all) pen (read_three k all) ts a f l (three_less r (weight r) (numbered r) k all)
bare_weighs (Spline c) r k pen all ts e a f l = ⊎_elim (λ z. rw z (pointed_weighs (weight 3 all) pen (read_point k all) ts (rw z at l) (read_less 3 (weight 3) (numbered 3) k all))) (λ z. absurd (let w : ◌≡◌ {A = ℕ} 0 1 = cc z.1 in omega arith)) f

-- ---- letters

until_lighter : (r : ℕ) (ts : List Token) → weight r (until_letter ts) ≤ weight r ts
unfolding until_letter weight
until_lighter r [] = le_refl _
until_lighter r (Letter b ∷ ts) = le_refl _
until_lighter r (Number x ∷ ts) = let h = until_lighter r ts in omega arith
until_lighter r (Refused p ∷ ts) = let h = until_lighter r ts in omega arith
until_lighter r (Other ∷ ts) = let h = until_lighter r ts in omega arith

-- what a command may bring that no number pays for, in sixths
abbrev need : Command → ℕ
need Move = 6
need MoveOpen = 0
need Line = 0
need Cubic = 0
need Basis = 0
need Close = 6
need Unknown = 0

need_letter : (b : ℕ) → need (command_of b) ≤ letter_weight b
unfolding command_of
need_letter b = go (eqb (lower b) 109) (eqb (lower b) 110) (eqb (lower b) 108) (eqb (lower b) 112) (eqb (lower b) 98) (eqb (lower b) 115) (eqb (lower b) 99)
  where
    go : (t u v w x y z : Bool) → need (pick t Move (pick u MoveOpen (pick v Line (pick w Line (pick x Cubic (pick y Basis (pick z Close Unknown))))))) ≤ pick t 6 (pick z 6 0)
    go true u v w x y z = le_refl _
    go false true v w x y z = omega arith
    go false false true w x y z = omega arith
    go false false false true x y z = omega arith
    go false false false false true y z = omega arith
    go false false false false false true z = omega arith
    go false false false false false false true = le_refl _
    go false false false false false false false = le_refl _

closes_six : (a b : Bool) → 6 * length (closes_first a b) ≤ pick a 6 0
closes_six false b = le_refl _
closes_six true false = omega arith
closes_six true true = le_refl _

moves_weighs : (closes : Bool) (pen : Pen) (r : Read1) (ts : List Token) → Light1 3 (weight 3 ts) r → Weighs 3 (owed pen.mode) (weight 3 ts + pick closes 6 0) (moves_by closes pen r ts)
moves_weighs closes pen none1 ts h = record { suits = inl refl; bound = omega arith }
moves_weighs closes pen (point p rest) ts h = let w = closes_six closes pen.opened in record { suits = inl refl; bound = simp length-append (omega arith) }

command_weighs : (c : Command) (k : Float) (pen : Pen) (ts : List Token) → Weighs 3 (owed pen.mode) (weight 3 ts + need c) (command c k pen ts)
command_weighs Move k pen ts = moves_weighs true pen (read_point k ts) ts (read_less 3 (weight 3) (numbered 3) k ts)
command_weighs MoveOpen k pen ts = moves_weighs false pen (read_point k ts) ts (read_less 3 (weight 3) (numbered 3) k ts)
command_weighs Line k pen ts = record { suits = inl refl; bound = omega arith }
command_weighs Cubic k pen ts = record { suits = inl refl; bound = omega arith }
command_weighs Basis k pen ts = record { suits = inl refl; bound = omega arith }
command_weighs Close k pen ts = record { suits = inl refl; bound = omega arith }
command_weighs Unknown k pen ts = let h = until_lighter 3 ts in record { suits = inl refl; bound = omega arith }

-- b alone has the lower rate
rate_command : (b : ℕ) → (rate_of b ≡ 3) ⊎ ((rate_of b ≡ 1) × (command_of b ≡ Cubic))
unfolding command_of
rate_command b = go (eqb (lower b) 98) refl
  where
    go : (t : Bool) → eqb (lower b) 98 ≡ t → (◌≡◌ {A = ℕ} (pick t 1 3) 3) ⊎ ((◌≡◌ {A = ℕ} (pick t 1 3) 1) × (command_of b ≡ Cubic))
    go true e = inr (refl, rw (eqb-true (lower b) 98 e))
    go false e = inl refl

letter_weighs : (b : ℕ) (k : Float) (pen : Pen) (ts : List Token) → Weighs (rate_of b) (owed pen.mode) (weight (rate_of b) ts + letter_weight b) (command (command_of b) k (settled pen) ts)
letter_weighs b k pen ts =
    let o = settled_owes pen.mode pen in
    let n = need_letter b in
    ⊎_elim
    (λ z. let c = command_weighs (command_of b) k (settled pen) ts in rw z (record { suits = c.suits; bound = omega (arith, c.bound) }))
    (λ z. rw (z.0, z.1) (record { suits = inr (refl, refl); bound = omega arith }))
    (rate_command b)

-- ---- a turn, and all of them

rate_least : (b : ℕ) → 1 ≤ rate_of b
rate_least b = ⊎_elim (λ z. omega arith) (λ z. omega (arith, z.0)) (rate_command b)

-- with some rate for what is left
pub record Weighed (o w : ℕ) (u : Turn) : Type 0 where
  pub rate : ℕ
  pub least : 1 ≤ rate
  pub weighs : Weighs rate o w u

continued : (b : ℕ) (m : Mode) → continues m b ≡ true → rate_of b ≡ 3
continued b Idle e = absurd (true≢false (sym e))
continued b Lines e = absurd (true≢false (sym e))
continued b Cubics e = absurd (true≢false (sym e))
continued b (Spline c) e = rw (eqb-true b 112 e)

turn_weighs : (r : ℕ) (t : Token) (k : Float) (pen : Pen) (ts : List Token) → 1 ≤ r → Suits r pen → Weighed (owed pen.mode) (weight r (t ∷ ts)) (turn_of t k pen (t ∷ ts) ts)
unfolding letter_turn weight
turn_weighs r (Letter b) k pen ts a f = record { rate = rate_of b; least = rate_least b; weighs = go (continues pen.mode b) refl }
  where
    go : (t : Bool) → continues pen.mode b ≡ t → Weighs (rate_of b) (owed pen.mode) (weight (rate_of b) ts + letter_weight b) (pick t (turned pen [] ts) (command (command_of b) k (settled pen) ts))
    go true e = record { suits = inl (continued b pen.mode e); bound = omega arith }
    go false e = letter_weighs b k pen ts
turn_weighs r (Number x) k pen ts a f = record { rate = r; least = a; weighs = bare_weighs pen.mode r k pen (Number x ∷ ts) ts refl a f (omega arith) }
turn_weighs r (Refused p) k pen ts a f = record { rate = r; least = a; weighs = bare_weighs pen.mode r k pen (Refused p ∷ ts) ts refl a f (omega arith) }
turn_weighs r Other k pen ts a f = record { rate = r; least = a; weighs = bare_weighs pen.mode r k pen (Other ∷ ts) ts refl a f (omega arith) }

walk_weighs : (k : Float) (n r : ℕ) (pen : Pen) (ts : List Token) → 1 ≤ r → Suits r pen → 6 * length (walk k n pen ts) ≤ weight r ts + owed pen.mode
unfolding walk
walk_weighs k zero r pen ts a f = omega arith
walk_weighs k (suc n) r pen [] a f = omega arith
walk_weighs k (suc n) r pen (t ∷ ts) a f =
    let u = turn_of t k pen (t ∷ ts) ts in
    let c = turn_weighs r t k pen ts a f in
    let i = walk_weighs k n c.rate u.pen u.rest c.least c.weighs.suits in
    simp length-append (omega (arith, c.weighs.bound))

pub few_by_weight : (k : Float) (ts : List Token) → 6 * length (draw k ts) ≤ weight 3 ts
few_by_weight k ts = omega (arith, walk_weighs k (length ts) 3 start ts (omega arith) (inl refl))
