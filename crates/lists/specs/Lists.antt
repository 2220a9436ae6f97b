-- Comma lists, by positions: the parts that Rust's `parse_int_list` and `parse_float_list` read numbers from.
use Rattle.std.specs.Prelude.{List, [], ◌∷◌, Option, Some, None, ℕ, zero, suc, ◌+◌, ◌-◌, ltb}
use Rattle.scan.specs.Scan.{pick, other, span_to}

-- a part of the list, from one place to another
pub record Stretch : Type 0 where
  pub from : ℕ
  pub to : ℕ

-- the place of the next comma from p on, else e
abbrev pub comma_to : List ℕ → ℕ → ℕ → ℕ
comma_to s p e = span_to (other 44) s p e

-- `split(',')`: there is always one part
unfoldable pub split : List ℕ → ℕ → ℕ → ℕ → List Stretch
split s e zero p = record { from = p; to = e } ∷ []
split s e (suc n) p =
    let c = comma_to s p e in
    let more = split s e n (c + 1) in
    let x : Stretch = record { from = p; to = c } in
    pick (ltb c e) (x ∷ more) (x ∷ [])

abbrev pub parts : List ℕ → ℕ → ℕ → List Stretch
parts s p e = split s e (e - p) p

-- the first of two places that there is
abbrev pub first_of : Option ℕ → Option ℕ → Option ℕ
first_of None b = b
first_of (Some p) b = Some p
