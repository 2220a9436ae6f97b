-- A table of rows: w words each, those of a row r being `words r`.
use Rattle.std.specs.Prelude.{ℕ, List, [], ◌∷◌, ◌++◌, leb, Float, length, drop}
use Rattle.std.specs.Float.{binary32}
use Rattle.std.specs.Float.Ieee.{to_bits}
use Rattle.scan.specs.Scan.{pick}

-- an f32 as its bits
abbrev pub bits : Float → ℕ
bits x = to_bits binary32 x

-- a table with the rows written from its front on, as many as it has room for; every word behind them as it was
unfoldable pub laid_rows : {A : Type 0} → ℕ → (A → List ℕ) → List ℕ → List A → List ℕ
laid_rows w words t [] = t
laid_rows w words t (r ∷ rs) = let u = words r ++ laid_rows w words (drop w t) rs in pick (leb w (length t)) u t
