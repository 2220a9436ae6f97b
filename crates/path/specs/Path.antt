-- 01, Owned Rust values: "`Path`: a lent table of eight words a command".
use Rattle.std.specs.Prelude.{ℕ, List, [], ◌∷◌}
use Rattle.rows.specs.Rows.{bits, laid_rows}
use Rattle.path.specs.declared.PathCommand.{PathCommand}
use Rattle.path.specs.declared.PathCommand.TheVariants.{MoveTo, LineTo, CubicTo, Close}

-- the words of a command
abbrev pub command_width : ℕ
command_width = 8

-- a command's row: its kind and seven words
abbrev pub path_command : ℕ → ℕ → ℕ → ℕ → ℕ → ℕ → ℕ → ℕ → List ℕ
path_command k a b c d e f g = k ∷ a ∷ b ∷ c ∷ d ∷ e ∷ f ∷ g ∷ []

-- 01, Owned Rust values: "eight words a command: 1 move, 2 line, 3 cubic, 4 close, then up to six f32 bit patterns, then zeros"
abbrev pub command_words : PathCommand → List ℕ
command_words (MoveTo p) = path_command 1 (bits p.x) (bits p.y) 0 0 0 0 0
command_words (LineTo p) = path_command 2 (bits p.x) (bits p.y) 0 0 0 0 0
command_words (CubicTo p q r) = path_command 3 (bits p.x) (bits p.y) (bits q.x) (bits q.y) (bits r.x) (bits r.y) 0
command_words Close = path_command 4 0 0 0 0 0 0 0

-- a path with the commands written from its front on, as many as it has room for; every word behind them as it was
abbrev pub laid_path : List ℕ → List PathCommand → List ℕ
laid_path t cs = laid_rows command_width command_words t cs
