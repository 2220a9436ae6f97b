-- What the inner functions say, in the code's words: nothing here is a promise to a caller.
use Rattle.std.specs.Prelude.{◌≡◌, List, Bool, true, ℕ, ◌≤◌, ◌<◌, get_or}

-- a scan by blocks: its place r lies between i and e, and every byte from i up to it passes a test
pub record Passed (p : ℕ → Bool) (s : List ℕ) (i e r : ℕ) : Type 0 where
  pub low : i ≤ r
  pub high : r ≤ e
  pub all : (j : ℕ) → i ≤ j → j < r → p (get_or s j 0) ≡ true
