-- 02, N3: the table of `ten_to`, and that its entries are the powers of ten.
use mathlib.Core.Path.{◌≡◌, refl, ap, ◌∙◌}
use mathlib.Core.List.{List, [], ◌∷◌}
use Prim.Native.Nat.{ℕ, zero, suc, ◌+◌, ◌^◌, ◌<◌, ◌≤◌}
use native.Mathlib.Omega.{arith}
use lib.ListN.{get_or}

unfoldable pub tens : List ℕ
tens = 1 ∷ 10 ∷ 100 ∷ 1000 ∷ 10000 ∷ 100000 ∷ 1000000 ∷ 10000000 ∷ 100000000 ∷ 1000000000 ∷ []

-- n powers of ten from 10 ^ i on
powers_from : ℕ → ℕ → List ℕ
powers_from i zero = []
powers_from i (suc n) = 10 ^ i ∷ powers_from (suc i) n

-- the whole table, by computation
powers : tens ≡ powers_from 0 10
unfolding tens powers_from
powers = refl

power_at : (n k i : ℕ) → k < n → get_or (powers_from i n) k 0 ≡ 10 ^ (i + k)
unfolding powers_from
power_at zero k i h = absurd (omega arith)
power_at (suc n) zero i h = ap (λ (x : ℕ). 10 ^ x) (omega arith)
power_at (suc n) (suc k) i h = power_at n k (suc i) (omega arith) ∙ ap (λ (x : ℕ). 10 ^ x) (omega arith)

pub entry : (n : ℕ) → n ≤ 9 → get_or tens n 0 ≡ 10 ^ n
entry n h = ap (λ (l : List ℕ). get_or l n 0) powers ∙ power_at 10 n 0 (omega arith) ∙ ap (λ (x : ℕ). 10 ^ x) (omega arith)
