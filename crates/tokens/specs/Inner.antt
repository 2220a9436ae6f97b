-- What the inner functions say, in the code's words: nothing here is a promise to a caller.
use Rattle.std.specs.Prelude.{◌≡◌, List, [], ◌∷◌, ℕ, ◌+◌, ◌*◌, ◌≤◌, ◌<◌, eqb, length, Option, Some, None, Ok}
use Rattle.scan.specs.Scan.{pick, lower, trim_start}
use Rattle.survey.specs.Survey.{Unplain}
use Rattle.tokens.specs.declared.Token.{Token}
use Rattle.tokens.specs.declared.Token.TheVariants.{Letter, Number, Refused, Other}
use Rattle.tokens.specs.Tokens.{token_end, from, until_letter, tokens_ground}

-- `next_word`: the next token from i on begins at a and ends at b
pub record WordAt (s : List ℕ) (i a b : ℕ) : Type 0 where
  pub start : a ≡ trim_start s i (length s)
  pub end : b ≡ token_end s (a + 1)
  pub low : i ≤ a
  pub wide : a < b
  pub high : b ≤ length s

abbrev pub IsWord : List ℕ → ℕ → Option (ℕ × ℕ) → Type 0
IsWord s i None = length s ≤ trim_start s i (length s)
IsWord s i (Some p) = WordAt s i p.0 p.1

-- the first token from i on is t, and it ends at j
pub record NextIs (s : List ℕ) (i : ℕ) (t : Token) (j : ℕ) : Type 0 where
  pub is : from s i ≡ t ∷ from s j
  pub low : i < j
  pub high : j ≤ length s

-- `next_token` from i on
abbrev pub Follows : List ℕ → ℕ → Option (Token × ℕ) → Type 0
Follows s i None = from s i ≡ []
Follows s i (Some p) = NextIs s i p.0 p.1

-- `skip_tail` from i on
pub record Skips (s : List ℕ) (i r : ℕ) : Type 0 where
  pub is : from s r ≡ until_letter (from s i)
  pub low : i ≤ r
  pub high : r ≤ length s

-- ---- a first look at a drawing

-- what a token that is no letter weighs, in sixths of a command: behind b, whose cubics take six numbers, one; else three
abbrev pub rate_of : ℕ → ℕ
rate_of b = pick (eqb (lower b) 98) 1 3

-- what a letter weighs, in sixths of a command: m and c six, as they may close a path, which no number pays for
abbrev pub letter_weight : ℕ → ℕ
letter_weight b = pick (eqb (lower b) 109) 6 (pick (eqb (lower b) 99) 6 0)

-- what tokens weigh, in sixths of a command
unfoldable pub weight : ℕ → List Token → ℕ
weight r [] = 0
weight r (Letter b ∷ ts) = weight (rate_of b) ts + letter_weight b
weight r (Number x ∷ ts) = weight r ts + r
weight r (Refused p ∷ ts) = weight r ts + r
weight r (Other ∷ ts) = weight r ts + r

-- the tokens from i on weigh, with w, at most so much, and if the text is plain none is refused
pub record Light (s : List ℕ) (i r w most : ℕ) : Type 0 where
  pub few : w + weight r (from s i) ≤ most
  pub good : (Unplain s (length s) 0 (length s) → ⊥) → tokens_ground (from s i) ≡ Ok tt

pub record Straight (s : List ℕ) (places : ℕ) : Type 0 where
  pub few : weight 3 (from s 0) ≤ 6 * places
  pub good : tokens_ground (from s 0) ≡ Ok tt
