-- What the inner functions say, in the code's words: nothing here is a promise to a caller.
use Rattle.std.specs.Prelude.{◌≡◌, List, ◌++◌, ℕ, ◌+◌, ◌*◌, min, length, take, drop}
use Rattle.path.specs.declared.PathCommand.{PathCommand}
use Rattle.path.specs.Path.{command_width, laid_path}

-- t with commands written behind its first n places, as many as there is room for, is u; then there are m
pub record Emits (t : List ℕ) (n : ℕ) (cs : List PathCommand) (m : ℕ) (u : List ℕ) : Type 0 where
  pub count : m ≡ n + length cs
  pub path : u ≡ take (min (command_width * n) (length t)) t ++ laid_path (drop (min (command_width * n) (length t)) t) cs
