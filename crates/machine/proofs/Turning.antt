-- Runs, from what their turns say.
use mathlib.Core.Path.{◌≡◌, refl, sym, subst}
use mathlib.Core.List.{List, ◌∷◌}
use Prim.Native.Nat.{ℕ}
use lib.Ieee.{Float}
use Rattle.tokens.specs.declared.Token.{Token}
use Rattle.tokens.specs.Tokens.{from}
use Rattle.tokens.specs.Inner.{NextIs}
use Rattle.path.specs.declared.PathCommand.{PathCommand}
use Rattle.path.specs.Inner.{Emits}
use Rattle.path.proofs.Emitting.{emits-join}
use Rattle.pen.specs.declared.Pen.{Pen}
use Rattle.pen.specs.declared.Stroke.{Stroke}
use Rattle.pen.specs.Drawing.{turn_of}
use Rattle.pen.proofs.Counting.{left, left_turn}
use Rattle.letters.specs.Inner.{Turns}
use Rattle.machine.specs.Inner.{Drawn}

-- what is still to come before a turn, from what is to come behind it
pub going_on : {s u : List ℕ} {m i j l next : ℕ} {v w : Stroke} (k : Float) (x : Token) → NextIs s i x j → Turns s v (turn_of x k v.pen (x ∷ from s j) (from s j)) l w next
    → Emits w.words.now w.count (left k w.pen (from s next)) m u → Emits v.words.now v.count (left k v.pen (from s i)) m u
going_on {s} {u} {m} {i} {j} {l} {next} {v} {w} k x h f e =
    let g = turn_of x k v.pen (x ∷ from s j) (from s j) in
    let a : Emits w.words.now w.count (left k g.pen (from s next)) m u = subst (λ (y : Pen). Emits w.words.now w.count (left k y (from s next)) m u) f.pen e in
    let b : Emits w.words.now w.count (left k g.pen g.rest) m u = subst (λ (y : List Token). Emits w.words.now w.count (left k g.pen y) m u) f.rest a in
    rw h.is (subst (λ (y : List PathCommand). Emits v.words.now v.count y m u) (sym (left_turn k v.pen x (x ∷ from s j) (from s j) refl)) (emits-join f.path.emits b))

-- a run's last words, by another name
pub drawn-kept : {s t u v : List ℕ} {k : Float} {n : ℕ} → v ≡ u → Drawn s k t n u → Drawn s k t n v
drawn-kept e d = rw e d
