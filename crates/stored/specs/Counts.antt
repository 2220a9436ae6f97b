-- What is said of a count of the elements at the front of a list.
use Rattle.std.specs.Prelude.{◌≡◌, List, ℕ, ◌≤◌, length, take}

-- `&xs[..n]` is in bounds and has n elements. The second part follows from the first, and spares a caller's `&buf[..n]` a proof file.
abbrev pub IsPrefixLen : {X : Type 0} → ℕ → List X → Type 0
IsPrefixLen n xs = (n ≤ length xs) × (n ≡ length (take n xs))
