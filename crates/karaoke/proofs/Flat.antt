-- The spans of a well-formed table's tags are found record by record.
use mathlib.Core.Path.{◌≡◌, refl, sym, ap, ◌∙◌}
use mathlib.Core.Bool.{Bool, true, false, true≢false}
use mathlib.Core.List.{List, [], ◌∷◌, ◌++◌, map}
use Prim.Native.Nat.{ℕ, zero, suc, ◌+◌, ◌≤◌, ◌<◌}
use native.Mathlib.Nat.{le_refl}
use native.Mathlib.Omega.{arith}
use lib.Dec.{eqb, leb}
use lib.ListN.{length, get_or, drop, replicate, get_or-replicate, length-drop, get_or-map}
use borrow.Author.Tests.{eqb-true, eqb-false, leb-true}
use Rattle.scan.specs.Scan.{pick}
use Rattle.std.specs.Prelude.{Ok}
use Rattle.tag.specs.declared.Record.{Record}
use Rattle.tag.specs.Tag.{AnimatedTag, Tags, none, and}
use Rattle.tag.specs.Range.{rows, in_range}
use Rattle.tag.specs.WellFormed.{records_of, All, more, InRange, t_kind, holds, table_ground}
use Rattle.tag.specs.Decode.{decoders, nothing, decode_one, decode_t, decode_in}
use Rattle.tag.proofs.Tags.{fold_own}
use Rattle.tag.proofs.Formed.{all_drop, ground-formed}
use Rattle.karaoke.specs.Karaoke.{Syllable, syllable, syllables, karaoke_spans}
use Rattle.karaoke.specs.Answer.{spans_of}
use Rattle.karaoke.specs.Inner.{karaoke_kind, beat, beats, beats_from, all_spans}
use Rattle.karaoke.proofs.Beats.{beats-none, beats-t, beats_karaoke, beats-other}

-- ---- a record's own syllable

-- a list of one element but at one place
others : {A : Type 0} (n m : ℕ) (a b d : A) (j : ℕ) → (j ≡ n → ⊥) → j < n + suc m → get_or (replicate n a ++ (b ∷ replicate m a)) j d ≡ a
others zero m a b d zero g h = absurd (g refl)
others zero m a b d (suc j) g h = get_or-replicate m j a d (omega arith)
others (suc n) m a b d zero g h = refl
others (suc n) m a b d (suc j) g h = others n m a b d j (λ e. g (ap suc e)) (omega arith)

abbrev own : Record → List Syllable
own r = beat r ∷ []

all_own : (r : Record) → map (λ (f : Record → AnimatedTag). syllable (f r)) decoders ≡ replicate 45 [] ++ (own r ∷ replicate 3 [])
unfolding decoders
all_own r = refl

in_range-kind : (r : Record) → in_range r ≡ true → (1 ≤ r.kind) × (r.kind ≤ 49)
unfolding in_range rows
in_range-kind r h = go (leb 1 r.kind) (leb r.kind 49) refl refl _ h
  where
    go : (a b : Bool) → leb 1 r.kind ≡ a → leb r.kind 49 ≡ b → (c : Bool) → pick (pick a b false) c false ≡ true → (1 ≤ r.kind) × (r.kind ≤ 49)
    go true true e f c h = (leb-true 1 r.kind e, leb-true r.kind 49 f)
    go true false e f c h = absurd (true≢false (sym h))
    go false b e f c h = absurd (true≢false (sym h))

module _ (r : Record) where
  -- the syllable of a record of the kind suc j
  own_at : (j : ℕ) → r.kind ≡ suc j → syllable (decode_one r) ≡ get_or (replicate 45 [] ++ (own r ∷ replicate 3 [])) j (syllable (nothing r))
  unfolding decode_one
  own_at j e =
      ap (λ (k : ℕ). syllable (get_or (nothing ∷ decoders) k nothing r)) e
      ∙ sym (get_or-map (λ (f : Record → AnimatedTag). syllable (f r)) decoders j nothing)
      ∙ ap (λ (l : List (List Syllable)). get_or l j (syllable (nothing r))) (all_own r)

  own_karaoke : r.kind ≡ karaoke_kind → syllable (decode_one r) ≡ own r
  own_karaoke e = own_at 45 e

  own_none : (k : ℕ) → r.kind ≡ k → 1 ≤ k → k ≤ 49 → (k ≡ karaoke_kind → ⊥) → syllable (decode_one r) ≡ []
  own_none zero e h g n = absurd (omega arith)
  own_none (suc j) e h g n = own_at j e ∙ others 45 3 [] (own r) (syllable (nothing r)) j (λ q. n (ap suc q)) (omega arith)

-- ---- the tags of records

syllables-and : (x : AnimatedTag) (l : Tags) → syllables (and x l) ≡ syllable x ++ syllables l
unfolding syllables
syllables-and x l = ap (λ (a : List Syllable). a ++ syllables l) (fold_own (λ y inner. syllable y) [] ◌++◌ x)

syllables-none : syllables none ≡ []
unfolding syllables
syllables-none = refl

plain : (r : Record) (l : List Record) (rest : Tags) → in_range r ≡ true → (r.kind ≡ t_kind → ⊥) → syllables rest ≡ beats 0 l → syllables (and (decode_one r) rest) ≡ beats 0 (r ∷ l)
plain r l rest i h e = syllables-and (decode_one r) rest ∙ rw e (go (eqb r.kind karaoke_kind) refl)
  where
    go : (b : Bool) → eqb r.kind karaoke_kind ≡ b → syllable (decode_one r) ++ beats 0 l ≡ beats 0 (r ∷ l)
    go true q = let k = eqb-true r.kind karaoke_kind q in rw (own_karaoke r k) (sym (beats_karaoke r l k))
    go false q =
        let k = eqb-false r.kind karaoke_kind q in
        let b = in_range-kind r i in
        rw (own_none r r.kind refl b.0 b.1 k) (sym (beats-other r l h k))

around : (r : Record) (l : List Record) (inner rest : Tags) → r.kind ≡ t_kind → syllables rest ≡ beats 0 (drop (holds r) l) → syllables (and (decode_t r inner) rest) ≡ beats 0 (r ∷ l)
around r l inner rest h e = syllables-and (decode_t r inner) rest ∙ e ∙ sym (beats-t r l h)

flat_in : (n : ℕ) (l : List Record) → length l ≤ n → All InRange l → syllables (decode_in n l) ≡ beats 0 l
unfolding decode_in
flat_in zero [] h a = syllables-none ∙ sym beats-none
flat_in zero (r ∷ l) h a = absurd (omega arith)
flat_in (suc n) [] h a = syllables-none ∙ sym beats-none
flat_in (suc n) (r ∷ l) h (more i a) =
    go _ _ _ (eqb r.kind t_kind) refl
    (flat_in n (drop (holds r) l) (omega (arith, length-drop (holds r) l)) (all_drop (holds r) a))
    (flat_in n l (omega arith) a)
  where
    go : (inner rest behind : Tags) (t : Bool) → eqb r.kind t_kind ≡ t → syllables rest ≡ beats 0 (drop (holds r) l) → syllables behind ≡ beats 0 l → syllables (pick t (and (decode_t r inner) rest) (and (decode_one r) behind)) ≡ beats 0 (r ∷ l)
    go inner rest behind true e a b = around r l inner rest (eqb-true r.kind t_kind e) a
    go inner rest behind false e a b = plain r l behind i (eqb-false r.kind t_kind e) b

-- the spans of the tags that a well-formed table stands for are those of the walk over its records
pub flat : (ws : List ℕ) → table_ground ws ≡ Ok tt → spans_of ws ≡ all_spans ws
unfolding karaoke_spans beats_from
flat ws g = rw (flat_in (length (records_of ws)) (records_of ws) (le_refl _) (ground-formed ws g).ranges)
