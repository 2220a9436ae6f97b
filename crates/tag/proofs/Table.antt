-- The laws of rows, for a table of records.
use mathlib.Core.Path.{◌≡◌, refl}
use mathlib.Core.List.{List, [], ◌∷◌, ◌++◌}
use lib.Seq.{drop-drop}
use Prim.Native.Nat.{ℕ, suc, ◌+◌, ◌*◌, ◌≤◌, min}
use native.Mathlib.Omega.{arith}
use lib.ListN.{length, take, drop, length-drop}
use Rattle.rows.proofs.Laws as rows
use Rattle.tag.specs.declared.Record.{Record}
use Rattle.tag.specs.Table.{width, laid, words, table_words}

wide : (r : Record) → length (words r) ≡ width
wide r = refl

pub laid_nil : (t : List ℕ) → laid t [] ≡ t
laid_nil t = rows.laid_nil width words t

pub length-laid : (rs : List Record) (t : List ℕ) → length (laid t rs) ≡ length t
length-laid rs t = rows.length-laid width words wide rs t

-- a \t: its record is put in front of the tags inside it
pub laid-t : (t : List ℕ) (r : Record) (rs : List Record) (k : ℕ) → k ≡ min width (length t) → laid (take k t ++ laid (drop k t) rs) (r ∷ []) ≡ laid t (r ∷ rs)
laid-t t r rs k e = rows.laid-front width words wide (omega arith) t r rs k e

-- one more tag, g, is in the table
pub laid_step : (t : List ℕ) (g rs : List Record) (n m m' : ℕ) → m ≡ min (width * n) (length t) → m' ≡ min (width * (n + length g)) (length t)
    → take m t ++ laid (drop m t) (g ++ rs) ≡ take m' (take m t ++ laid (drop m t) g) ++ laid (drop m' (take m t ++ laid (drop m t) g)) rs
laid_step t g rs n m m' e e' = rows.laid_step width words wide t g rs n m m' e e'

-- an empty table stays empty
pub laid_none : (rs : List Record) → laid [] rs ≡ []
laid_none rs = rows.laid_none width words (omega arith) rs

-- with room for all, the table is the records' words and then the rest of what it held
pub laid_full : (rs : List Record) (t : List ℕ) → width * length rs ≤ length t → laid t rs ≡ table_words rs ++ drop (width * length rs) t
unfolding table_words
laid_full [] t h = laid_nil t
laid_full (r ∷ rs) t h =
    let b : width * length rs ≤ length (drop width t) = omega (arith, length-drop width t) in
    let z : width * suc (length rs) ≡ width + width * length rs = omega arith in
    let d = drop-drop (width * length rs) width t in
    rw (rows.laid_more width words t r rs (omega arith), laid_full rs (drop width t) b, z, d)

pub length-words : (rs : List Record) → length (table_words rs) ≡ width * length rs
unfolding table_words
length-words [] = refl
length-words (r ∷ rs) = let i = length-words rs in omega arith
