-- One token after the other.
use mathlib.Core.Path.{◌≡◌, refl, sym, ap, ◌∙◌}
use mathlib.Core.List.{List, [], ◌∷◌}
use mathlib.Core.Bool.{true}
use Prim.Native.Nat.{ℕ, zero, suc, ◌+◌, ◌-◌, ◌≤◌, ◌<◌}
use native.Mathlib.Omega.{arith}
use native.Mathlib.Nat.{le_refl}
use lib.Dec.{eqb, ltb}
use lib.Ieee.{Float, binary32, to_bits, of_bits}
use lib.ListN.{length, get_or}
use borrow.Author.Tests.{eq-eqb, ne_eqb, lt-ltb, le-ltb, le-leb, lt-leb, ltb-true}
use Rattle.scan.specs.Inner.{Passed}
use Rattle.scan.specs.Scan.{blank_at, trim_start, trim_end}
use Rattle.scan.proofs.Laws.{picked, skip-low, blank_at-fits}
use Rattle.numeral.specs.Numeral.{F32, none, too_long_lem, number, f32_at, word_of_f32}
use Rattle.numeral.specs.declared.Numeral.TheVariants.{Word}
use Rattle.std.specs.Prelude.{None}
use Rattle.numeral.proofs.Reach.{number-in_reach}
use Rattle.tokens.specs.declared.Token.{Token}
use Rattle.tokens.specs.declared.Token.TheVariants.{Number}
use Rattle.tokens.specs.Inner.{WordAt, IsWord, NextIs}
use Rattle.tokens.specs.Tokens.{numeral_token, word_end_lem, token_end, token_of, tokens, from}

-- ---- where a token ends

module _ (s : List ℕ) (i : ℕ) where
  pub word_end : length s ≤ i → token_end s i ≡ i
  unfolding word_end_lem
  word_end h =
      let z : length s - i ≡ 0 = omega arith in
      rw z

  pub word_stop : (w : ℕ) → i < length s → w ≡ blank_at s i (length s) → ¬ (w ≡ 0) → token_end s i ≡ i
  unfolding word_end_lem
  word_stop w h e q =
      let z : length s - i ≡ suc (length s - (i + 1)) = omega arith in
      rw (z, ← e, ne_eqb w 0 q)

  pub word_go : (w : ℕ) → i < length s → w ≡ blank_at s i (length s) → w ≡ 0 → token_end s i ≡ token_end s (i + 1)
  unfolding word_end_lem
  word_go w h e q =
      let z : length s - i ≡ suc (length s - (i + 1)) = omega arith in
      rw (z, ← e, eq-eqb w 0 q)

-- bytes above 32 are no blanks
no_blank : (s : List ℕ) (i : ℕ) → i < length s → ltb 32 (get_or s i 0) ≡ true → blank_at s i (length s) ≡ 0
unfolding blank_at
no_blank s i h t =
    let b = get_or s i 0 in
    let g : 32 < b = ltb-true 32 b t in
    rw (lt-ltb i (length s) h, ne_eqb b 32 (λ z. omega arith), le-leb 9 b (omega arith), lt-leb b 13 (omega arith))

word_over : (s : List ℕ) (n i : ℕ) → i + n ≤ length s → ((j : ℕ) → i ≤ j → j < i + n → ltb 32 (get_or s j 0) ≡ true) → token_end s i ≡ token_end s (i + n)
word_over s zero i h f = let z : i ≡ i + 0 = omega arith in ap (token_end s) z
word_over s (suc n) i h f =
    let z : i + 1 + n ≡ i + suc n = omega arith in
    word_go s i 0 (omega arith) (sym (no_blank s i (omega arith) (f i (le_refl i) (omega arith)))) refl
    ∙ word_over s n (i + 1) (omega arith) (λ j a b. f j (omega arith) (omega arith))
    ∙ ap (token_end s) z

pub passed_word : (s : List ℕ) (i r : ℕ) → Passed (λ b. ltb 32 b) s i (length s) r → token_end s i ≡ token_end s r
passed_word s i r f =
    let l = f.low in
    let z : i + (r - i) ≡ r = omega arith in
    word_over s (r - i) i (omega (arith, f.high)) (λ j a b. f.all j a (omega arith)) ∙ ap (token_end s) z

word_low : (s : List ℕ) (n i : ℕ) → i ≤ word_end_lem s n i
unfolding word_end_lem
word_low s zero i = le_refl i
word_low s (suc n) i =
    let h : i + 1 ≤ word_end_lem s n (i + 1) = word_low s n (i + 1) in
    picked (λ (j : ℕ). i ≤ j) (eqb (blank_at s i (length s)) 0) (word_end_lem s n (i + 1)) i (omega arith) (le_refl i)

-- ---- the tokens

module _ (s : List ℕ) where
  abbrev first_at : ℕ → ℕ
  first_at i = trim_start s i (length s)

  first-low : (i : ℕ) → i ≤ first_at i
  first-low i = skip-low _ blank_at-fits s (length s) (length s - i) i

  end_low : (i : ℕ) → i ≤ token_end s i
  end_low i = word_low s (length s - i) i

  -- more fuel than there are bytes left changes nothing
  fuel : (n m i : ℕ) → length s ≤ i + n → length s ≤ i + m → tokens s n i ≡ tokens s m i
  unfolding tokens
  fuel zero zero i a b = refl
  fuel zero (suc m) i a b =
      let l = first-low i in
      rw (le-ltb (first_at i) (length s) (omega arith))
  fuel (suc n) zero i a b =
      let l = first-low i in
      rw (le-ltb (first_at i) (length s) (omega arith))
  fuel (suc n) (suc m) i a b =
      let l = first-low i in
      let h = end_low (first_at i + 1) in
      rw (fuel n m (token_end s (first_at i + 1)) (omega arith) (omega arith))

  pub from_end : (i a : ℕ) → a ≡ first_at i → length s ≤ a → from s i ≡ []
  unfolding tokens
  from_end i a e h = go (length s - i)
    where
      go : (n : ℕ) → tokens s n i ≡ []
      go zero = refl
      go (suc n) = rw (← e, le-ltb a (length s) h)

  pub from_more : (i a b : ℕ) → a ≡ first_at i → a < length s → b ≡ token_end s (a + 1) → from s i ≡ token_of s a b ∷ from s b
  unfolding tokens
  from_more i a b e h q =
      let l : i ≤ a = rw e (first-low i) in
      let k : a + 1 ≤ b = rw q (end_low (a + 1)) in
      let z : length s - i ≡ suc (length s - (i + 1)) = omega arith in
      rw (z, ← e, lt-ltb a (length s) h, ← q, fuel (length s - (i + 1)) (length s - b) b (omega arith) (omega arith))

-- ---- what a numeral's word says of a token

module _ (s : List ℕ) (a b : ℕ) where
  pub token_number : (w : ℕ) (x : Float) → Word w ≡ word_of_f32 (f32_at s a b) → x ≡ of_bits binary32 w → Number x ≡ numeral_token (f32_at s a b)
  token_number w x e q = go (f32_at s a b) refl e
    where
      go : (f : F32) → f32_at s a b ≡ f → Word w ≡ word_of_f32 f → Number x ≡ numeral_token f
      go none r e = absurd (let z : ◌≡◌ {A = ℕ} 0 1 = cc in omega arith)
      go (too_long_lem p) r e = absurd (let z : ◌≡◌ {A = ℕ} 0 1 = cc in omega arith)
      go (number y) r e =
          let z : w ≡ to_bits binary32 y = cc in
          rw (q, z, (number-in_reach s (trim_start s a b) (trim_end s (trim_start s a b) b) y r).back)

-- the token at the next word
pub word_none : (s : List ℕ) (i : ℕ) → IsWord s i None → from s i ≡ []
word_none s i w = from_end s i (trim_start s i (length s)) refl w

pub word_next : {s : List ℕ} {i a b : ℕ} {t : Token} → WordAt s i a b → t ≡ token_of s a b → NextIs s i t b
word_next {s} {i} {a} {b} {t} w e = record { is = rw e (from_more s i a b w.start (omega (arith, w.wide, w.high)) w.end); low = omega (arith, w.low, w.wide); high = w.high }
