-- A first look at a text: what rules grounds 3, 4 and 9 out before anything is read. Nothing here is a promise to a caller of
-- the library: reading writes in one run where it may.
use Rattle.std.specs.Prelude.{◌≡◌, List, Bool, true, false, ℕ, zero, suc, ◌+◌, ◌-◌, ◌≤◌, ◌<◌, ltb, eqb, get_or}
use Rattle.scan.specs.Scan.{pick, is_blank, span_to, past}
use Rattle.numeral.specs.Numeral.{is_digit, is_sign, is_point, is_e}

-- how many of the n bytes from i on are backslashes
unfoldable pub slashes : List ℕ → ℕ → ℕ → ℕ
slashes s zero i = 0
slashes s (suc n) i = let r = slashes s n (i + 1) in pick (eqb (get_or s i 0) 92) (r + 1) r

abbrev pub slashes_to : List ℕ → ℕ → ℕ → ℕ
slashes_to s i e = slashes s (e - i) i

-- ten digits from j on
abbrev pub Ten : List ℕ → ℕ → Type 0
Ten s j = (k : ℕ) → j ≤ k → k < j + 10 → is_digit (get_or s k 0) ≡ true

-- an e behind a digit or a point
unfoldable pub is_exponent : ℕ → ℕ → Bool
is_exponent a b = pick (is_e b) (pick (is_point a) true (is_digit a)) false

abbrev pub Exponent : List ℕ → ℕ → Type 0
Exponent s j = is_exponent (get_or s j 0) (get_or s (j + 1) 0) ≡ true

-- what stands behind a field: a blank, a comma, a closing parenthesis, a backslash
unfoldable pub is_stop : ℕ → Bool
is_stop b = pick (is_blank b) true (pick (eqb b 41) true (pick (eqb b 44) true (eqb b 92)))

-- whether the digits behind the e at k, and a sign before them, go on to the end of a field, or of the text at e
unfoldable pub ends_field : List ℕ → ℕ → ℕ → Bool
ends_field s k e =
    let r = span_to is_digit s (past is_sign s (k + 1) e) e in
    pick (ltb r e) (is_stop (get_or s r 0)) true

-- why a numeral from i to e may be too long, or a number there far, in a text that ends at top
pub data Unplain (s : List ℕ) (top i e : ℕ) : Type 0 where
  ten : (j : ℕ) → i ≤ j → j + 10 ≤ e → Ten s j → Unplain s top i e
  exponent : (j : ℕ) → i ≤ j → j + 1 < e → Exponent s j → ends_field s (j + 1) top ≡ true → Unplain s top i e

-- none is, and there are no more backslashes than places
pub record Straight (s : List ℕ) (i e places : ℕ) : Type 0 where
  pub plain : Unplain s e i e → ⊥
  pub few : slashes_to s i e ≤ places
