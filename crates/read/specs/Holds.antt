-- 01, What demand 3 speaks of, as far as reading goes: what a table holds.
use Rattle.std.specs.Prelude.{◌≡◌, List, ℕ, ◌*◌, take}
use Rattle.tag.specs.Tag.{Tags}
use Rattle.tag.specs.Table.{width, encode, table_words}
use Rattle.tag.specs.WellFormed.{WellFormed}
use Rattle.tag.specs.Decode.{tags_of}

-- the records that a reading wrote: n of them, at the front of the table u
abbrev pub written : ℕ → List ℕ → List ℕ
written n u = take (width * n) u

-- 01, What demand 3 speaks of: "A table holds a block if the reading into it succeeded". What t then holds, of the block's tags l: their
-- records, well formed, which stand for just these tags.
pub record Holds (t : List ℕ) (l : Tags) : Type 0 where
  pub words : t ≡ table_words (encode l)
  pub formed : WellFormed t
  pub tags : tags_of t ≡ l
