-- What the inner functions say, in the code's words: nothing here is a promise to a caller.
use Rattle.std.specs.Prelude.{◌≡◌, List, ◌∷◌, ℕ, ◌≤◌, ◌<◌, Float, length, Option, Some, None}
use Rattle.tokens.specs.declared.Token.{Token}
use Rattle.tokens.specs.Tokens.{from}
use Rattle.path.specs.declared.Point.{Point}
use Rattle.pen.specs.Drawing.{none1, point, none3, points, read_point, read_three}

-- a point is read at the tokens ts; those behind it are the ones from j on, which lies behind i
pub record PointIs (s : List ℕ) (k : Float) (ts : List Token) (i : ℕ) (p : Point) (j : ℕ) : Type 0 where
  pub is : read_point k ts ≡ point p (from s j)
  pub low : i < j
  pub high : j ≤ length s

abbrev pub PointAt : List ℕ → Float → List Token → ℕ → Option (Point × ℕ) → Type 0
PointAt s k ts i None = read_point k ts ≡ none1
PointAt s k ts i (Some r) = PointIs s k ts i r.0 r.1

-- `point_from`: the point that begins with the token t, which ends at j
abbrev pub PointFrom : List ℕ → Float → Token → ℕ → Option (Point × ℕ) → Type 0
PointFrom s k t j r = PointAt s k (t ∷ from s j) j r

abbrev pub ReadsPoint : List ℕ → Float → ℕ → Option (Point × ℕ) → Type 0
ReadsPoint s k i r = PointAt s k (from s i) i r

-- three points are read at the tokens ts; those behind them are the ones from j on, which lies behind i
pub record PointsAre (s : List ℕ) (k : Float) (ts : List Token) (i : ℕ) (p q r : Point) (j : ℕ) : Type 0 where
  pub is : read_three k ts ≡ points p q r (from s j)
  pub low : i < j
  pub high : j ≤ length s

abbrev pub PointsAt : List ℕ → Float → List Token → ℕ → Option (Point × Point × Point × ℕ) → Type 0
PointsAt s k ts i None = read_three k ts ≡ none3
PointsAt s k ts i (Some r) = PointsAre s k ts i r.0 r.1 r.2 r.3

-- `read_three_points`: the points that begin with the token t, which ends at j
abbrev pub ThreeFrom : List ℕ → Float → Token → ℕ → Option (Point × Point × Point × ℕ) → Type 0
ThreeFrom s k t j r = PointsAt s k (t ∷ from s j) j r
