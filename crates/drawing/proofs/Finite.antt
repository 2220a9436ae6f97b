-- Every coordinate word of a drawing is the bits of a finite f32, of magnitude at most 1,000,000,000.
use mathlib.Core.Path.{◌≡◌, refl, subst}
use mathlib.Core.List.{List, [], ◌∷◌, ◌++◌}
use mathlib.Core.Bool.{Bool, true, false, ◌&&◌}
use mathlib.Core.Logic.{⊎_elim}
use Prim.Native.Nat.{ℕ, zero, suc, ◌+◌, ◌-◌, ◌*◌, ◌≤◌, ◌<◌}
use native.Mathlib.Omega.{arith}
use lib.Dec.{T, ltb, leb, leb→le}
use lib.Ieee.{Float, nan, inf, fin, binary32, up, down, round, to_bits, fits, div, of_int}
use lib.Ieee.Fits.{mul-fits, and_l, and_r}
use lib.Ieee.Bits.{of_bits-fits}
use lib.ListN.{length}
use Rattle.scan.specs.Scan.{pick, trim_start, trim_end}
use Rattle.scan.proofs.Laws.{picked, le_or_lt}
use Rattle.float.specs.Float.{zero as f0, one as f1}
use Rattle.numeral.specs.Numeral.{F32, too_long_lem, number, f32_at}
use Rattle.numeral.proofs.Reach.{number-in_reach}
use Rattle.path.specs.declared.PathCommand.{PathCommand}
use Rattle.rows.specs.Rows.{bits}
use Rattle.tokens.specs.declared.Token.{Token}
use Rattle.tokens.specs.declared.Token.TheVariants.{Letter, Number, Refused, Other}
use Rattle.path.specs.declared.Point.{Point}
use Rattle.pen.specs.declared.Ctrl.{Ctrl}
use Rattle.pen.specs.declared.Ctrl.TheVariants.{One, Two, Three, Span}
use Rattle.pen.specs.declared.Mode.{Mode}
use Rattle.pen.specs.declared.Mode.TheVariants.{Idle, Lines, Cubics, Spline}
use Rattle.pen.specs.declared.Pen.{Pen}
use Rattle.pen.specs.declared.Command.{Command}
use Rattle.pen.specs.declared.Command.TheVariants.{Move, MoveOpen, Line, Cubic, Basis, Close, Unknown}
use Rattle.tokens.specs.Tokens.{is_letter, special, one_letter, token_of, numeral_token, token_end, tokens, from, until_letter}
use Rattle.pen.specs.Drawing.{f2, f4, scale_of, scaled, weighed, bez, span_of, Read1, none1, point, Read3, none3, points, behind_number, read_point, behind_point, read_three, Turn, turned, Gives, spline_point, by_mode, settled, settled_by, pointed_by, curve_by, bare_by, continues, moves_by, command, command_of, letter_turn, turn_of, walk, start}
use Rattle.path.specs.declared.PathCommand.TheVariants.{MoveTo, LineTo, CubicTo, Close as Closed}
use Rattle.std.specs.List.{All}
use Rattle.std.proofs.lemmas.List.Elements.{All-cons, All-nil}
use Rattle.drawing.specs.Answer.{drawing}
use Rattle.drawing.specs.Finite.{Bounded, most, FiniteWord, FiniteCommand, FinitePath, end, and}
use Rattle.drawing.proofs.Within.{e0, e1, e2, e4, e5, e6, mul-within, weighed-within, weighed-fits, reach-within}

-- ---- floats and points

pub record Near (x : Float) : Type 0 where
  pub within : Bounded most x
  pub fits : T (fits binary32 x)

pub record NearPoint (p : Point) : Type 0 where
  pub x : Near p.x
  pub y : Near p.y

word : {x : Float} → Near x → FiniteWord (bits x)
word {x} n = record { value = x; finite = n.within; fits = n.fits; is = refl }

near-zero : Near f0
unfolding fits
near-zero = record { within = omega arith; fits = tt }

no_word : FiniteWord 0
unfolding to_bits
no_word = record { value = f0; finite = near-zero.within; fits = near-zero.fits; is = refl }

module _ {a b c : Point} (x : NearPoint a) (y : NearPoint b) (z : NearPoint c) where
  near_bez : (wa wb wc : Float) → ((u v t : Float) → Bounded most u → Bounded most v → Bounded most t → Bounded most (weighed u wa v wb t wc)) → NearPoint (bez a wa b wb c wc)
  near_bez wa wb wc w =
      record {
        x = record { within = w a.x b.x c.x x.x.within y.x.within z.x.within; fits = weighed-fits a.x wa b.x wb c.x wc };
        y = record { within = w a.y b.y c.y x.y.within y.y.within z.y.within; fits = weighed-fits a.y wa b.y wb c.y wc };
      }

  near_141 : NearPoint (bez a f1 b f4 c f1)
  near_141 = near_bez f1 f4 f1 (weighed-within 1 4 1 e1 e4 e1 e5 refl f1 f4 f1 (omega arith) (omega arith) (omega arith))

  near_420 : NearPoint (bez a f4 b f2 c f0)
  near_420 = near_bez f4 f2 f0 (weighed-within 4 2 0 e4 e2 e0 e6 refl f4 f2 f0 (omega arith) (omega arith) (omega arith))

  near_240 : NearPoint (bez a f2 b f4 c f0)
  near_240 = near_bez f2 f4 f0 (weighed-within 2 4 0 e2 e4 e0 e6 refl f2 f4 f0 (omega arith) (omega arith) (omega arith))

-- the scale is at most 1
scale_test : Float → Bool
scale_test nan = false
scale_test (inf s) = false
scale_test (fin s m e) = leb (m * up e) (1 * down e)

tested : (x : Float) → T (scale_test x) → Bounded 1 x
unfolding scale_test
tested nan h = absurd h
tested (inf s) h = absurd h
tested (fin s m e) h = leb→le (m * up e) (1 * down e) h

each : (ℕ → Bool) → ℕ → Bool
each p zero = true
each p (suc n) = p n && each p n

each_at : (p : ℕ → Bool) (n x : ℕ) → T (each p n) → x < n → T (p x)
unfolding each
each_at p zero x h l = absurd (omega arith)
each_at p (suc n) x h l =
    ⊎_elim
    (λ (e : n ≤ x).
    let z : n ≡ x = omega arith in
    subst (λ (y : ℕ). T (p y)) z (and_l (p n) (each p n) h))
    (λ (e : x < n). each_at p n x (and_r (p n) (each p n) h) e)
    (le_or_lt n x)

scale_small : (x : ℕ) → x ≤ 32 → Bounded 1 (scale_of x)
unfolding each scale_test scale_of round of_int div
scale_small x h = tested (scale_of x) (each_at (λ (y : ℕ). scale_test (scale_of y)) 33 x tt (omega arith))

-- ---- commands

seven : {a b c d e f g : ℕ} → FiniteWord a → FiniteWord b → FiniteWord c → FiniteWord d → FiniteWord e → FiniteWord f → FiniteWord g → All FiniteWord (a ∷ b ∷ c ∷ d ∷ e ∷ f ∷ g ∷ [])
seven {a} {b} {c} {d} {e} {f} {g} t u v w x y z =
    let P : ℕ → Type 0 = FiniteWord in
    All-cons P a (b ∷ c ∷ d ∷ e ∷ f ∷ g ∷ []) t (All-cons P b (c ∷ d ∷ e ∷ f ∷ g ∷ []) u (All-cons P c (d ∷ e ∷ f ∷ g ∷ []) v (All-cons P d (e ∷ f ∷ g ∷ []) w (All-cons P e (f ∷ g ∷ []) x (All-cons P f (g ∷ []) y (All-cons P g [] z (All-nil P)))))))

near_move : {p : Point} → NearPoint p → FiniteCommand (MoveTo p)
near_move n = seven (word n.x) (word n.y) no_word no_word no_word no_word no_word

near_line : {p : Point} → NearPoint p → FiniteCommand (LineTo p)
near_line n = seven (word n.x) (word n.y) no_word no_word no_word no_word no_word

near_cubic : {p q r : Point} → NearPoint p → NearPoint q → NearPoint r → FiniteCommand (CubicTo p q r)
near_cubic a b c = seven (word a.x) (word a.y) (word b.x) (word b.y) (word c.x) (word c.y) no_word

near_close : FiniteCommand Closed
near_close = seven no_word no_word no_word no_word no_word no_word no_word

near_append : {a b : List PathCommand} → FinitePath a → FinitePath b → FinitePath (a ++ b)
near_append end y = y
near_append (and x l) y = and x (near_append l y)

-- ---- the pen and the tokens

abbrev NearCtrl : Ctrl → Type 0
NearCtrl (One a) = NearPoint a
NearCtrl (Two a b) = NearPoint a × NearPoint b
NearCtrl (Three a b c) = NearPoint a × NearPoint b × NearPoint c
NearCtrl (Span b c) = NearPoint b × NearPoint c

abbrev NearMode : Mode → Type 0
NearMode Idle = Unit
NearMode Lines = Unit
NearMode Cubics = Unit
NearMode (Spline c) = NearCtrl c

record NearPen (pen : Pen) : Type 0 where
  cur : NearPoint pen.cur
  mode : NearMode pen.mode

abbrev NearToken : Token → Type 0
NearToken (Letter b) = Unit
NearToken (Number x) = Near x
NearToken (Refused p) = Unit
NearToken Other = Unit

data NearTokens : List Token → Type 0 where
  last : NearTokens []
  then : {t : Token} {l : List Token} → NearToken t → NearTokens l → NearTokens (t ∷ l)

near_numeral : (s : List ℕ) (a b : ℕ) → NearToken (numeral_token (f32_at s a b))
near_numeral s a b = go (f32_at s a b) refl
  where
    go : (f : F32) → f32_at s a b ≡ f → NearToken (numeral_token f)
    go F32.none e = tt
    go (too_long_lem p) e = tt
    go (number x) e =
        let n = number-in_reach s (trim_start s a b) (trim_end s (trim_start s a b) b) x e in
        record { within = reach-within x n.reach; fits = subst (λ (y : Float). T (fits binary32 y)) n.back (of_bits-fits binary32 (to_bits binary32 x)) }

near_token : (s : List ℕ) (a b : ℕ) → NearToken (token_of s a b)
unfolding token_of
near_token s a b = picked NearToken (one_letter s a b) _ _ tt (picked NearToken (special s a b) _ _ tt (near_numeral s a b))

near_tokens : (s : List ℕ) (n i : ℕ) → NearTokens (tokens s n i)
unfolding tokens
near_tokens s zero i = last
near_tokens s (suc n) i =
    let a = trim_start s i (length s) in
    let b = token_end s (a + 1) in
    picked NearTokens (ltb a (length s)) (token_of s a b ∷ tokens s n b) [] (then (near_token s a b) (near_tokens s n b)) last

near_until : {ts : List Token} → NearTokens ts → NearTokens (until_letter ts)
unfolding until_letter
near_until last = last
near_until (then {t = t} {l = l} x y) = picked NearTokens (is_letter t) (t ∷ l) (until_letter l) (then x y) (near_until y)

-- ---- turns, by a scale of at most 1

record NearTurn (u : Turn) : Type 0 where
  pen : NearPen u.pen
  path : FinitePath u.path
  rest : NearTokens u.rest

record NearGives (u : Gives) : Type 0 where
  pen : NearPen u.pen
  path : FinitePath u.path

abbrev Near1 : Read1 → Type 0
Near1 none1 = Unit
Near1 (point p ts) = NearPoint p × NearTokens ts

abbrev Near3 : Read3 → Type 0
Near3 none3 = Unit
Near3 (points p q r ts) = NearPoint p × NearPoint q × NearPoint r × NearTokens ts

still : {pen : Pen} {ts : List Token} → NearPen pen → NearTokens ts → NearTurn (turned pen [] ts)
still p t = record { pen = p; path = end; rest = t }

module _ (k : Float) (small : Bounded 1 k) where
  near_scaled : {x y : Float} → Near x → Near y → NearPoint (scaled k x y)
  unfolding scaled
  near_scaled {x} {y} a b =
      record {
        x = record { within = mul-within most 1 e1 x k a.within small; fits = mul-fits binary32 x k };
        y = record { within = mul-within most 1 e1 y k b.within small; fits = mul-fits binary32 y k };
      }

  near_number : {ts : List Token} (f : Float → List Token → Read1) → NearTokens ts → ((x : Float) (us : List Token) → Near x → NearTokens us → Near1 (f x us)) → Near1 (behind_number ts f)
  near_number f last g = tt
  near_number f (then {t = Letter b} y l) g = tt
  near_number f (then {t = Number x} {l = us} y l) g = g x us y l
  near_number f (then {t = Refused p} y l) g = tt
  near_number f (then {t = Other} y l) g = tt

  near_read : {ts : List Token} → NearTokens ts → Near1 (read_point k ts)
  near_read n = near_number _ n (λ x us a l. near_number _ l (λ y vs b m. (near_scaled a b, m)))

  near_behind : (r : Read1) (f : Point → List Token → Read3) → Near1 r → ((p : Point) (us : List Token) → NearPoint p → NearTokens us → Near3 (f p us)) → Near3 (behind_point r f)
  near_behind none1 f h g = tt
  near_behind (point p us) f h g = g p us h.0 h.1

  near_three : {ts : List Token} → NearTokens ts → Near3 (read_three k ts)
  near_three {ts} n =
      near_behind (read_point k ts) _ (near_read n) (λ p us a l.
      near_behind (read_point k us) _ (near_read l) (λ q vs b m.
      near_behind (read_point k vs) _ (near_read m) (λ r ws c o. (a, b, c, o))))

  near_span : {b c p : Point} → NearPoint b → NearPoint c → NearPoint p → FiniteCommand (span_of b c p)
  near_span b c p = near_cubic (near_420 b c c) (near_240 b c c) (near_141 b c p)

  near_spline : {cur : Point} (opened : Bool) (c : Ctrl) {p : Point} → NearPoint cur → NearCtrl c → NearPoint p → NearGives (spline_point cur opened c p)
  near_spline o (One a) n m p = record { pen = record { cur = n; mode = (m, p) }; path = end }
  near_spline o (Two a b) n m p = record { pen = record { cur = n; mode = (m.0, m.1, p) }; path = end }
  near_spline o (Three a b c) n m p =
      record { pen = record { cur = near_141 m.1 m.2 p; mode = (m.2, p) }; path = and (near_line (near_141 m.0 m.1 m.2)) (and (near_span m.1 m.2 p) end) }
  near_spline o (Span b c) n m p = record { pen = record { cur = near_141 m.0 m.1 p; mode = (m.1, p) }; path = and (near_span m.0 m.1 p) end }

  near_mode : (m : Mode) (pen : Pen) {p : Point} → NearPen pen → NearMode m → NearPoint p → NearGives (by_mode m pen p)
  near_mode Idle pen n m p = record { pen = n; path = end }
  near_mode Lines pen n m p = record { pen = record { cur = p; mode = tt }; path = and (near_line p) end }
  near_mode Cubics pen n m p = record { pen = n; path = end }
  near_mode (Spline c) pen n m p = near_spline pen.opened c n.cur m p

  near_settled : (m : Mode) (pen : Pen) → NearPen pen → NearPen (settled_by m pen)
  near_settled Idle pen n = n
  near_settled Lines pen n = n
  near_settled Cubics pen n = n
  near_settled (Spline c) pen n = record { cur = n.cur; mode = tt }

  near_pointed : (pen : Pen) (r : Read1) {ts : List Token} → NearPen pen → Near1 r → NearTokens ts → NearTurn (pointed_by pen r ts)
  near_pointed pen none1 n h l = still (near_settled pen.mode pen n) l
  near_pointed pen (point p rest) n h l =
      let g = near_mode pen.mode pen n n.mode h.0 in
      record { pen = g.pen; path = g.path; rest = h.1 }

  near_curve : (pen : Pen) (r : Read3) {ts : List Token} → NearPen pen → Near3 r → NearTokens ts → NearTurn (curve_by pen r ts)
  near_curve pen none3 n h l = still n l
  near_curve pen (points p q r rest) n h l = record { pen = record { cur = h.2; mode = tt }; path = and (near_cubic h.0 h.1 h.2) end; rest = h.3 }

  near_bare : (m : Mode) (pen : Pen) (t : Token) {ts : List Token} → NearPen pen → NearToken t → NearTokens ts → NearTurn (bare_by m k pen (t ∷ ts) ts)
  near_bare Idle pen t n x l = still n l
  near_bare Lines pen t {ts} n x l = near_pointed pen (read_point k (t ∷ ts)) n (near_read (then {t = t} x l)) l
  near_bare Cubics pen t {ts} n x l = near_curve pen (read_three k (t ∷ ts)) n (near_three (then {t = t} x l)) l
  near_bare (Spline c) pen t {ts} n x l = near_pointed pen (read_point k (t ∷ ts)) n (near_read (then {t = t} x l)) l

  near_moves : (closes : Bool) (pen : Pen) (r : Read1) {ts : List Token} → NearPen pen → Near1 r → NearTokens ts → NearTurn (moves_by closes pen r ts)
  near_moves closes pen none1 n h l = still n l
  near_moves closes pen (point p rest) n h l =
      record {
        pen = record { cur = h.0; mode = tt };
        path = near_append (picked FinitePath (pick closes pen.opened false) (Closed ∷ []) [] (and near_close end) end) (and (near_move h.0) end);
        rest = h.1;
      }

  near_command : (c : Command) (pen : Pen) {ts : List Token} → NearPen pen → NearTokens ts → NearTurn (command c k pen ts)
  near_command Move pen {ts} n l = near_moves true pen (read_point k ts) n (near_read l) l
  near_command MoveOpen pen {ts} n l = near_moves false pen (read_point k ts) n (near_read l) l
  near_command Line pen n l = still (record { cur = n.cur; mode = tt }) l
  near_command Cubic pen n l = still (record { cur = n.cur; mode = tt }) l
  near_command Basis pen n l = still (record { cur = n.cur; mode = n.cur }) l
  near_command Close pen n l = record { pen = record { cur = n.cur; mode = tt }; path = and near_close end; rest = l }
  near_command Unknown pen n l = still n (near_until l)

  near_turn : (t : Token) (pen : Pen) {ts : List Token} → NearPen pen → NearToken t → NearTokens ts → NearTurn (turn_of t k pen (t ∷ ts) ts)
  unfolding letter_turn
  near_turn (Letter b) pen {ts} n x l =
      picked NearTurn (continues pen.mode b) (turned pen [] ts) (command (command_of b) k (settled pen) ts)
      (still n l)
      (near_command (command_of b) (settled pen) (near_settled pen.mode pen n) l)
  near_turn (Number y) pen n x l = near_bare pen.mode pen (Number y) n x l
  near_turn (Refused p) pen n x l = near_bare pen.mode pen (Refused p) n x l
  near_turn Other pen n x l = near_bare pen.mode pen Other n x l

  near_walk : (n : ℕ) (pen : Pen) {ts : List Token} → NearPen pen → NearTokens ts → FinitePath (walk k n pen ts)
  unfolding walk
  near_walk zero pen p l = end
  near_walk (suc n) pen p last = end
  near_walk (suc n) pen p (then {t = t} x l) =
      let u = near_turn t pen p x l in
      near_append u.path (near_walk n _ u.pen u.rest)

-- every coordinate word that a drawing gives is a finite f32's bits
pub finite-drawing : (s : List ℕ) (exponent : ℕ) → exponent ≤ 32 → FinitePath (drawing s exponent)
finite-drawing s exponent h =
    near_walk (scale_of exponent) (scale_small exponent h) (length (from s 0)) start (record { cur = record { x = near-zero; y = near-zero }; mode = tt }) (near_tokens s (length s - 0) 0)
