-- What holds of every shape of the table holds of the shape of any name, and of no name's.
use mathlib.Core.List.{List, [], ◌∷◌}
use Prim.Native.Nat.{ℕ}
use lib.Dec.{eqb}
use Rattle.scan.proofs.Laws.{picked}
use Rattle.plain.specs.Names.{Named, Shape, unknown, lookup}

module _ (P : Shape → Type 0) where
  abbrev pub Every : List Named → Type 0
  Every [] = Unit
  Every (n ∷ l) = P n.shape × Every l

  -- from a proof for each entry, one behind the other
  abbrev pub Each : List Named → Type 0 → Type 0
  Each [] X = X
  Each (n ∷ l) X = P n.shape → Each l X

  pub gather : (l : List Named) (X : Type 0) → (Every l → X) → Each l X
  gather [] X f = f tt
  gather (n ∷ l) X f = λ h. gather l X (λ e. f (h, e))

  pub find : P unknown → (k : ℕ) (l : List Named) → Every l → P (lookup k l)
  unfolding lookup
  find u k [] e = u
  find u k (n ∷ l) e = picked P (eqb k n.key) n.shape (lookup k l) e.0 (find u k l e.1)
