-- A name as a number, and a number that is no name.
use mathlib.Core.Path.{◌≡◌, refl, sym}
use mathlib.Core.Bool.{Bool, true, false, true≢false}
use mathlib.Core.List.{List, [], ◌∷◌}
use Prim.Native.Nat.{ℕ, ◌+◌, ◌-◌, ◌*◌, ◌^◌, ◌≤◌, ◌<◌}
use native.Mathlib.Nat.{pow-succ', pow-le-pow_right, lt_of_lt_of_le}
use native.Mathlib.Numerals.{add-one}
use native.Mathlib.Omega.{arith}
use lib.Dec.{leb, eqb, lit<}
use lib.ListN.{get_or}
use borrow.Author.Tests.{ne_eqb, leb-true}
use Rattle.scan.specs.Scan.{pick, lower}
use Rattle.scan.proofs.Laws.{more, none}
use Rattle.plain.specs.Names.{Named, unknown, lookup, key_with, key_of, key, lowered}
use Rattle.plain.specs.Plain.{is_fn}

-- ---- the bytes of a name, one by one

pub key-end : (s : List ℕ) (i e a : ℕ) → e ≤ i → key_with a (lowered s (e - i) i) ≡ a
unfolding lowered
key-end s i e a h = rw (none i e h)

pub key_go : (s : List ℕ) (i e a : ℕ) → i < e → key_with a (lowered s (e - i) i) ≡ key_with (a * 256 + lower (get_or s i 0)) (lowered s (e - (i + 1)) (i + 1))
unfolding lowered
key_go s i e a h = rw (more i e h)

-- fn goes on
pub fn_goes_on : (s : List ℕ) (i m : ℕ) → is_fn s i m ≡ true → i + 2 ≤ m
unfolding is_fn
fn_goes_on s i m h = go (leb 3 (m - i)) refl h
  where
    go : (b : Bool) → leb 3 (m - i) ≡ b → pick b (eqb (key_of (lowered s 2 i)) (key "fn")) false ≡ true → i + 2 ≤ m
    go true e g = omega (arith, leb-true 3 (m - i) e)
    go false e g = absurd (true≢false (sym g))

-- k bytes are below 256 ^ k
pub room : (k a b : ℕ) → a < 256 ^ k → b < 256 → a * 256 + b < 256 ^ (k + 1)
room k a b h l = rw (add-one k, pow-succ' 256 k) (omega arith)

pub five : (k a : ℕ) → a < 256 ^ k → k ≤ 5 → a < 1099511627776
five k a h l = lt_of_lt_of_le h (pow-le-pow_right (lit< tt) l)

-- ---- a number that is none of a list's

abbrev Missed : ℕ → Type 0 → List Named → Type 0
Missed k X [] = X
Missed k X (n ∷ l) = Missed k (X × (k ≡ n.key → ⊥)) l

all_missed : (k : ℕ) (X : Type 0) (l : List Named) → Missed k X l → X × (lookup k l ≡ unknown)
unfolding lookup
all_missed k X [] m = (m, refl)
all_missed k X (n ∷ l) m =
    let r = all_missed k (X × (k ≡ n.key → ⊥)) l m in
    (r.0.0, rw (ne_eqb k n.key r.0.1) r.1)

pub missed : (k : ℕ) (l : List Named) → Missed k Unit l → lookup k l ≡ unknown
missed k l m = (all_missed k Unit l m).1
