-- From one token to the next: the list of tokens, ground 3, and the tail of an unknown command.
use mathlib.Core.Path.{◌≡◌, refl, ap, ◌∙◌}
use mathlib.Core.List.{List, [], ◌∷◌}
use mathlib.Core.Bool.{false}
use Prim.Native.Nat.{ℕ}
use Rattle.std.specs.Prelude.{Ok, Err}
use Rattle.refusal.specs.declared.Refusal.TheVariants.{NumeralTooLong}
use Rattle.tokens.specs.declared.Token.{Token}
use Rattle.tokens.specs.declared.Token.TheVariants.{Letter, Number, Refused, Other}
use Rattle.tokens.specs.Tokens.{is_letter, from, until_letter, tail, tokens_ground}
use Rattle.tokens.specs.Inner.{NextIs}

-- ---- ground 3

ground_on : (t : Token) (ts : List Token) → ((p : ℕ) → t ≡ Refused p → ⊥) → tokens_ground (t ∷ ts) ≡ tokens_ground ts
unfolding tokens_ground
ground_on (Letter b) ts h = refl
ground_on (Number x) ts h = refl
ground_on (Refused p) ts h = absurd (h p refl)
ground_on Other ts h = refl

pub ground-end : {l : List Token} → l ≡ [] → tokens_ground l ≡ Ok tt
unfolding tokens_ground
ground-end q = ap tokens_ground q

module _ {s : List ℕ} {i : ℕ} where
  pub ground_go : {t : Token} {j : ℕ} → NextIs s i t j → ((p : ℕ) → t ≡ Refused p → ⊥) → tokens_ground (from s i) ≡ tokens_ground (from s j)
  ground_go {t} {j} n h = ap tokens_ground n.is ∙ ground_on t (from s j) h

  pub ground-stop : {t : Token} {j : ℕ} (p : ℕ) → NextIs s i t j → t ≡ Refused p → tokens_ground (from s i) ≡ Err (NumeralTooLong p)
  unfolding tokens_ground
  ground-stop {t} {j} p n q = ap tokens_ground (n.is ∙ ap (λ (u : Token). u ∷ from s j) q)

-- ---- an unknown command's tail

no_letter : (t : Token) → ((b : ℕ) → t ≡ Letter b → ⊥) → is_letter t ≡ false
no_letter (Letter b) h = absurd (h b refl)
no_letter (Number x) h = refl
no_letter (Refused p) h = refl
no_letter Other h = refl

pub until_end : {l : List Token} → l ≡ [] → until_letter l ≡ l
unfolding until_letter
until_end q = rw q

pub tail-end : {l : List Token} → l ≡ [] → tokens_ground (tail l) ≡ Ok tt
unfolding tail tokens_ground
tail-end q = rw q

module _ {s : List ℕ} {i : ℕ} where
  pub until_stop : {t : Token} {j : ℕ} (b : ℕ) → NextIs s i t j → t ≡ Letter b → until_letter (from s i) ≡ from s i
  unfolding until_letter
  until_stop b n q = rw (n.is, q)

  pub until_go : {t : Token} {j : ℕ} → NextIs s i t j → ((b : ℕ) → t ≡ Letter b → ⊥) → until_letter (from s i) ≡ until_letter (from s j)
  unfolding until_letter
  until_go {t} {j} n h = rw (n.is, no_letter t h)

  pub tail-stop : {t : Token} {j : ℕ} (b : ℕ) → NextIs s i t j → t ≡ Letter b → tokens_ground (tail (from s i)) ≡ Ok tt
  unfolding tail tokens_ground
  tail-stop b n q = rw (n.is, q)

  pub tail-refused : {t : Token} {j : ℕ} (p : ℕ) → NextIs s i t j → t ≡ Refused p → tokens_ground (tail (from s i)) ≡ Err (NumeralTooLong p)
  unfolding tail tokens_ground
  tail-refused p n q = rw (n.is, q)

  pub tail_go : {t : Token} {j : ℕ} → NextIs s i t j → ((b : ℕ) → t ≡ Letter b → ⊥) → ((p : ℕ) → t ≡ Refused p → ⊥) → tokens_ground (tail (from s i)) ≡ tokens_ground (tail (from s j))
  unfolding tail
  tail_go {t} {j} n l h = rw (n.is, no_letter t l) (ground_on t (tail (from s j)) h)
