-- The tokens of a text: they are no more than its bytes, and a refused one stands in it.
use mathlib.Core.Path.{◌≡◌, refl}
use mathlib.Core.List.{List, ◌∷◌}
use Prim.Native.Nat.{ℕ, zero, suc, ◌+◌, ◌-◌, ◌≤◌, ◌<◌}
use native.Mathlib.Omega.{arith}
use lib.Dec.{ltb, eqb}
use lib.ListN.{length}
use Rattle.scan.specs.Scan.{blank_at, trim_start, trim_end}
use Rattle.scan.proofs.Laws.{picked}
use Rattle.scan.proofs.Bounds.{tested, trim_end-high}
use Rattle.numeral.specs.Numeral.{F32, none, too_long_lem, number, f32_at}
use Rattle.survey.proofs.Long.{long-first}
use Rattle.std.specs.Prelude.{Ok, Err}
use Rattle.refusal.specs.Refusal.{Checked, place_of}
use Rattle.refusal.specs.declared.Refusal.{Refusal}
use Rattle.tokens.specs.declared.Token.{Token}
use Rattle.tokens.specs.declared.Token.TheVariants.{Letter, Number, Refused, Other}
use Rattle.tokens.specs.Tokens.{special, one_letter, numeral_token, token_of, word_end_lem, token_end, tokens, from, tokens_ground}

-- ---- how many

few : (s : List ℕ) (n i : ℕ) → length (tokens s n i) ≤ n
unfolding tokens
few s zero i = omega arith
few s (suc n) i =
    let a = trim_start s i (length s) in
    let h = few s n (token_end s (a + 1)) in
    picked (λ (l : List Token). length l ≤ suc n) (ltb a (length s)) _ _ (omega arith) (omega arith)

pub few-tokens : (s : List ℕ) (i : ℕ) → length (from s i) ≤ length s - i
few-tokens s i = few s (length s - i) i

-- ---- where a refused token begins

abbrev StartsBefore : ℕ → Token → Type 0
StartsBefore e (Letter b) = Unit
StartsBefore e (Number x) = Unit
StartsBefore e (Refused p) = p < e
StartsBefore e Other = Unit

token_starts : (s : List ℕ) (a b e : ℕ) → a < e → b ≤ e → StartsBefore e (token_of s a b)
unfolding token_of
token_starts s a b e l h =
    picked (StartsBefore e) (one_letter s a b) _ _ tt (picked (StartsBefore e) (special s a b) _ _ l (go (f32_at s a b) refl))
  where
    go : (x : F32) → f32_at s a b ≡ x → StartsBefore e (numeral_token x)
    go none q = tt
    go (too_long_lem k) q =
        let i = trim_start s a b in
        let f = long-first s i (trim_end s i b) k q in
        omega (arith, f.0, f.1, trim_end-high s i b)
    go (number x) q = tt

word_high : (s : List ℕ) (n i : ℕ) → word_end_lem s n i ≤ i + n
unfolding word_end_lem
word_high s zero i = omega arith
word_high s (suc n) i =
    let h = word_high s n (i + 1) in
    picked (λ (j : ℕ). j ≤ i + suc n) (eqb (blank_at s i (length s)) 0) _ _ (omega arith) (omega arith)

abbrev PlaceBefore : ℕ → Checked → Type 0
PlaceBefore e (Ok _) = Unit
PlaceBefore e (Err r) = place_of r < e

ground-more : (e : ℕ) (t : Token) (ts : List Token) → StartsBefore e t → PlaceBefore e (tokens_ground ts) → PlaceBefore e (tokens_ground (t ∷ ts))
unfolding tokens_ground
ground-more e (Letter b) ts h g = g
ground-more e (Number x) ts h g = g
ground-more e (Refused p) ts h g = h
ground-more e Other ts h g = g

ground-before : (s : List ℕ) (n i : ℕ) → PlaceBefore (length s) (tokens_ground (tokens s n i))
unfolding tokens tokens_ground
ground-before s zero i = tt
ground-before s (suc n) i =
    let e = length s in
    let a = trim_start s i e in
    let b = token_end s (a + 1) in
    tested (λ (l : List Token). PlaceBefore e (tokens_ground l)) a e
    (λ (h : a < e). ground-more e (token_of s a b) (tokens s n b) (token_starts s a b e h (omega (arith, word_high s (e - (a + 1)) (a + 1)))) (ground-before s n b))
    (λ (h : e ≤ a). tt)

-- ground 3: its place lies in the text
pub place_inside : (s : List ℕ) (i : ℕ) (r : Refusal) → tokens_ground (from s i) ≡ Err r → place_of r < length s
place_inside s i r e =
    let h : PlaceBefore (length s) (Err r) = rw e at (ground-before s (length s - i) i) in
    h
