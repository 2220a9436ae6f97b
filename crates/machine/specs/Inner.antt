-- What the inner functions say, in the code's words: nothing here is a promise to a caller.
use Rattle.std.specs.Prelude.{◌≡◌, List, ◌∷◌, ℕ, ◌*◌, ◌≤◌, Float, length, Ok, Err}
use Rattle.refusal.specs.Refusal.{Checked}
use Rattle.refusal.specs.Answer.{Answer, first_ground}
use Rattle.refusal.specs.declared.Refusal.{Refusal}
use Rattle.tokens.specs.declared.Token.{Token}
use Rattle.tokens.specs.Tokens.{from, tokens_ground}
use Rattle.path.specs.Inner.{Emits}
use Rattle.pen.specs.declared.Pen.{Pen}
use Rattle.pen.specs.Drawing.{turn_of, draw}

-- ground 3 of the token t and ts behind it: r, or else that of what a turn leaves
abbrev pub Passes : Token → List Token → Checked → Type 0
Passes t ts r = (k : Float) (pen : Pen) → tokens_ground (t ∷ ts) ≡ first_ground r (tokens_ground (turn_of t k pen (t ∷ ts) ts).rest)

-- a whole run, into the path t: n commands, where ground 3 does not stand
pub record Drawn (s : List ℕ) (k : Float) (t : List ℕ) (n : ℕ) (u : List ℕ) : Type 0 where
  pub good : tokens_ground (from s 0) ≡ Ok tt
  pub emits : Emits t 0 (draw k (from s 0)) n u
  pub few : n ≤ 2 * length s
  pub same : length u ≡ length t

-- a run that ground 3 ends
pub record Stopped (s : List ℕ) (t : List ℕ) (r : Refusal) (u : List ℕ) : Type 0 where
  pub ground : tokens_ground (from s 0) ≡ Err r
  pub same : length u ≡ length t

abbrev pub Traces : List ℕ → Float → List ℕ → Answer → List ℕ → Type 0
Traces s k t (Ok n) u = Drawn s k t n u
Traces s k t (Err r) u = Stopped s t r u
