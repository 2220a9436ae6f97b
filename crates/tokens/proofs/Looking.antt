-- A first look at a drawing: what its tokens weigh, and that none is refused.
use mathlib.Core.Path.{◌≡◌, refl, sym, ap, ◌∙◌}
use mathlib.Core.List.{List, ◌∷◌}
use mathlib.Core.Bool.{Bool, true, false, true≢false}
use mathlib.Core.Logic.{◌⊎◌, inl, inr, ⊎_elim}
use Prim.Native.Nat.{ℕ, zero, suc, ◌+◌, ◌-◌, ◌≤◌}
use native.Mathlib.Omega.{arith}
use lib.Dec.{leb, ltb, eqb}
use lib.Ieee.{Float}
use lib.ListN.{length, get_or}
use borrow.Author.Tests.{le-leb, lt-leb, lt-ltb, eqb-true, leb-true}
use Rattle.scan.specs.Scan.{pick, lower, letter, is_blank, blank_at, past}
use Rattle.numeral.specs.Numeral.{F32, is_sign, f32_at}
use Rattle.survey.specs.Survey.{Unplain}
use Rattle.survey.proofs.Laws.{unplain_wider}
use Rattle.survey.proofs.Long.{Ends, blank_stops}
use Rattle.survey.proofs.Fields.{late_unplain}
use Rattle.tokens.specs.declared.Token.{Token}
use Rattle.tokens.specs.declared.Token.TheVariants.{Letter, Number, Refused, Other}
use Rattle.tokens.specs.Tokens.{spells, inf, infinity, nan, special, one_letter, token_of, word_end_lem, token_end, from, tokens_ground}
use Rattle.tokens.specs.Inner.{WordAt, IsWord, rate_of, letter_weight, weight, Light}
use Rattle.tokens.proofs.Words.{word_none, word_next}
use Rattle.std.specs.Prelude.{None}

-- ---- inf, infinity, nan begin with a letter

letter_of : (b c : ℕ) → 97 ≤ c → c ≤ 122 → lower b ≡ c → letter b ≡ true
letter_of b c l h e = go (leb 65 b) (leb b 90) refl refl e
  where
    go : (t u : Bool) → leb 65 b ≡ t → leb b 90 ≡ u → pick (pick t u false) (b + 32) b ≡ c → pick (leb 97 b) (leb b 122) (pick t u false) ≡ true
    go true true p q e = rw (lt-leb 97 b (omega (arith, leb-true b 90 q)))
    go true false p q e = rw (e, le-leb 97 c l, le-leb c 122 h)
    go false u p q e = rw (e, le-leb 97 c l, le-leb c 122 h)

first_letter : (c : ℕ) (w s : List ℕ) (i e : ℕ) → 97 ≤ c → c ≤ 122 → spells (c ∷ w) s i e ≡ true → ltb i (past letter s i e) ≡ true
unfolding spells
first_letter c w s i e l h q = go (ltb i e) (eqb (lower (get_or s i 0)) c) refl refl q
  where
    go : (t u : Bool) → ltb i e ≡ t → eqb (lower (get_or s i 0)) c ≡ u → pick t (pick u (spells w s (i + 1) e) false) false ≡ true → ltb i (pick t (pick (letter (get_or s i 0)) (i + 1) i) i) ≡ true
    go true true a b q = rw (letter_of (get_or s i 0) c l h (eqb-true (lower (get_or s i 0)) c b)) (lt-ltb i (i + 1) (omega arith))
    go true false a b q = absurd (true≢false (sym q))
    go false u a b q = absurd (true≢false (sym q))

pub special_letter : (s : List ℕ) (a b i : ℕ) → i ≡ past is_sign s a b → special s a b ≡ true → ltb i (past letter s i b) ≡ true
unfolding special
special_letter s a b i e q = rw e (go (spells inf s j b) (spells infinity s j b) (spells nan s j b) refl refl refl q)
  where
    j : ℕ
    j = past is_sign s a b

    go : (t u v : Bool) → spells inf s j b ≡ t → spells infinity s j b ≡ u → spells nan s j b ≡ v → pick t true (pick u true v) ≡ true → ltb j (past letter s j b) ≡ true
    go true u v x y z q = first_letter 105 _ s j b (omega arith) (omega arith) x
    go false true v x y z q = first_letter 105 _ s j b (omega arith) (omega arith) y
    go false false true x y z q = first_letter 110 _ s j b (omega arith) (omega arith) z
    go false false false x y z q = absurd (true≢false (sym q))

-- ---- a token is a field

blank_there : (s : List ℕ) (i e : ℕ) → (eqb (blank_at s i e) 0 ≡ true) ⊎ (is_blank (get_or s i 0) ≡ true)
unfolding blank_at
blank_there s i e = go (ltb i e) (is_blank (get_or s i 0))
  where
    go : (t u : Bool) → (eqb (pick t (pick u 1 0) 0) 0 ≡ true) ⊎ (u ≡ true)
    go true true = inr refl
    go true false = inl refl
    go false u = inl refl

word_ends : (s : List ℕ) (n i : ℕ) → (word_end_lem s n i ≡ i + n) ⊎ (is_blank (get_or s (word_end_lem s n i) 0) ≡ true)
unfolding word_end_lem
word_ends s zero i = inl (omega arith)
word_ends s (suc n) i = go (eqb (blank_at s i (length s)) 0) (blank_there s i (length s)) (word_ends s n (i + 1)) refl
  where
    go : (t : Bool) → (eqb (blank_at s i (length s)) 0 ≡ true) ⊎ (is_blank (get_or s i 0) ≡ true) → (word_end_lem s n (i + 1) ≡ i + 1 + n) ⊎ (is_blank (get_or s (word_end_lem s n (i + 1)) 0) ≡ true) → eqb (blank_at s i (length s)) 0 ≡ t
        → (pick t (word_end_lem s n (i + 1)) i ≡ i + suc n) ⊎ (is_blank (get_or s (pick t (word_end_lem s n (i + 1)) i) 0) ≡ true)
    go true f g q = ⊎_elim (λ (z : word_end_lem s n (i + 1) ≡ i + 1 + n). inl (omega arith)) (λ z. inr z) g
    go false f g q = ⊎_elim (λ z. absurd (true≢false (sym z ∙ q))) (λ z. inr z) f

token_ends : (s : List ℕ) (i : ℕ) → i ≤ length s → Ends s (length s) (token_end s i)
token_ends s i h = ⊎_elim (λ (z : token_end s i ≡ i + (length s - i)). inl (omega arith)) (λ z. inr (blank_stops _ z)) (word_ends s (length s - i) i)

-- ---- one token more

other-weight : (r : ℕ) (ts : List Token) → weight r (Other ∷ ts) ≡ weight r ts + r
unfolding weight
other-weight r ts = refl

refused-weight : (p r : ℕ) (ts : List Token) → weight r (Refused p ∷ ts) ≡ weight r ts + r
unfolding weight
refused-weight p r ts = refl

number-weight : (x : Float) (r : ℕ) (ts : List Token) → weight r (Number x ∷ ts) ≡ weight r ts + r
unfolding weight
number-weight x r ts = refl

other-good : (ts : List Token) → tokens_ground (Other ∷ ts) ≡ tokens_ground ts
unfolding tokens_ground
other-good ts = refl

number-good : (x : Float) (ts : List Token) → tokens_ground (Number x ∷ ts) ≡ tokens_ground ts
unfolding tokens_ground
number-good x ts = refl

module _ (s : List ℕ) (i r w most : ℕ) where
  pub light_end : IsWord s i None → w ≤ most → Light s i r w most
  unfolding weight tokens_ground
  light_end h l = let z = word_none s i h in record { few = rw z (omega arith); good = λ p. rw z }

  module _ {a b : ℕ} (word : WordAt s i a b) (v : ℕ) where
    first : from s i ≡ token_of s a b ∷ from s b
    first = (word_next word refl).is

    pub light_letter : one_letter s a b ≡ true → (n : ℕ) → n ≡ rate_of (get_or s a 0) → v ≡ w + letter_weight (get_or s a 0) → Light s b n v most → Light s i r w most
    unfolding weight tokens_ground token_of
    light_letter o n g k l =
        let f : from s i ≡ Letter (get_or s a 0) ∷ from s b = first ∙ rw o in
        record { few = rw (f, ← g) (omega (arith, l.few)); good = λ p. rw f (l.good p) }

    pub light_other : one_letter s a b ≡ false → (special s a b ≡ true → ⊥) → v ≡ w + r → Light s b r v most → Light s i r w most
    unfolding token_of
    light_other o n k l = go (special s a b) refl (f32_at s a b) refl
      where
        is : {t : Token} → token_of s a b ≡ t → from s i ≡ t ∷ from s b
        is {t} z = first ∙ ap (λ (u : Token). u ∷ from s b) z

        step : (t : Token) → from s i ≡ t ∷ from s b → weight r (t ∷ from s b) ≡ weight r (from s b) + r → ((Unplain s (length s) 0 (length s) → ⊥) → tokens_ground (t ∷ from s b) ≡ tokens_ground (from s b)) → Light s i r w most
        step t f x y = record { few = rw (f, x) (omega (arith, l.few)); good = λ p. rw f (y p ∙ l.good p) }

        late : (p : ℕ) → f32_at s a b ≡ F32.too_long_lem p → Unplain s (length s) 0 (length s)
        late p z = unplain_wider (omega arith) word.high (late_unplain s (length s) a b p word.high (rw word.end (token_ends s (a + 1) (omega (arith, word.wide, word.high)))) z)

        go : (t : Bool) → special s a b ≡ t → (x : F32) → f32_at s a b ≡ x → Light s i r w most
        go true z x y = absurd (n z)
        go false z F32.none y = step Other (is (rw (o, z, y))) (other-weight r (from s b)) (λ p. other-good (from s b))
        go false z (F32.too_long_lem k) y = step (Refused k) (is (rw (o, z, y))) (refused-weight k r (from s b)) (λ p. absurd (p (late k y)))
        go false z (F32.number x) y = step (Number x) (is (rw (o, z, y))) (number-weight x r (from s b)) (λ p. number-good x (from s b))
