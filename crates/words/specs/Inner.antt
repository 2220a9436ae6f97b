-- Words stored one after the other.
use Rattle.std.specs.Prelude.{replicate, ◌≡◌, ℕ, ◌+◌, ◌-◌, ◌≤◌, List, length, drop}
use Rattle.std.proofs.lemmas.List.Edits.{sets}

-- a table with the words stored from an index on
unfoldable pub put_at : List ℕ → ℕ → List ℕ → List ℕ
put_at t at ws = sets t at ws

-- 92 words, those from n on 0
pub record Clear (u : List ℕ) (n : ℕ) : Type 0 where
  pub wide : length u ≡ 92
  pub rest : drop n u ≡ replicate (92 - n) 0

-- with room for k more
pub record Free (u : List ℕ) (n k : ℕ) : Type 0 where
  pub clear : Clear u n
  pub room : n + k ≤ 92

-- v is u with the k words ws stored at n; those behind them are 0
pub record Put (u : List ℕ) (n k : ℕ) (ws v : List ℕ) : Type 0 where
  pub is : v ≡ put_at u n ws
  pub wide : length ws ≡ k
  pub clear : Clear v (n + k)
