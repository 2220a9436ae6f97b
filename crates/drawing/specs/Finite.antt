-- Paths whose coordinate words are all the bits of a finite f32, of magnitude at most 1,000,000,000.
use Rattle.std.specs.Prelude.{◌≡◌, List, [], ◌∷◌, ℕ, ◌*◌, ◌≤◌, T, Float, drop}
use Rattle.std.specs.List.{All}
use Rattle.std.specs.Float.{nan, inf, fin, binary32}
use Rattle.std.specs.Float.Ieee.{up, down, fits}
use Rattle.rows.specs.Rows.{bits}
use Rattle.path.specs.declared.PathCommand.{PathCommand}
use Rattle.path.specs.Path.{command_words}

-- x is finite, of magnitude at most n
abbrev pub Bounded : ℕ → Float → Type 0
Bounded n nan = ⊥
Bounded n (inf s) = ⊥
Bounded n (fin s m e) = m * up e ≤ n * down e

-- the largest magnitude of a coordinate
abbrev pub most : ℕ
most = 1000000000

-- w is the bits of a finite f32
pub record FiniteWord (w : ℕ) : Type 0 where
  pub value : Float
  pub finite : Bounded most value
  pub fits : T (fits binary32 value)
  pub is : w ≡ bits value

-- all words behind a command's kind are such bits; where there is no coordinate, plus zero's
abbrev pub FiniteCommand : PathCommand → Type 0
FiniteCommand c = All FiniteWord (drop 1 (command_words c))

-- a path whose commands are all such
pub data FinitePath : List PathCommand → Type 0 where
  end : FinitePath []
  and : {r : PathCommand} {l : List PathCommand} → FiniteCommand r → FinitePath l → FinitePath (r ∷ l)
