-- The karaoke records of a table that are in no T, from one record on.
use mathlib.Core.Path.{◌≡◌, refl, sym, ap, ◌∙◌}
use mathlib.Core.Logic.{⊎_elim}
use mathlib.Core.List.{List, [], ◌∷◌}
use Prim.Native.Nat.{ℕ, zero, suc, ◌+◌, ◌-◌, ◌≤◌, ◌<◌}
use native.Mathlib.Omega.{arith}
use lib.Dec.{eqb}
use lib.ListN.{length, drop, drop_of_length-le}
use lib.Seq.{drop-drop}
use borrow.Author.Tests.{eq-eqb, ne_eqb}
use Rattle.scan.proofs.Laws.{le_or_lt, picked}
use Rattle.tag.specs.declared.Record.{Record}
use Rattle.tag.specs.Tag.{cs}
use Rattle.tag.specs.Table.{places_of}
use Rattle.tag.specs.WellFormed.{records_of, t_kind, holds}
use Rattle.table.specs.Inner.{record_in}
use Rattle.table.proofs.Slices.{length-records, drop-records}
use Rattle.karaoke.specs.declared.Ms.{Ms}
use Rattle.karaoke.specs.Karaoke.{in_ms, plus, Syllable, span_from, spans_from}
use Rattle.karaoke.specs.Inner.{karaoke_kind, beat, beats, beats_from, Found}

-- what is inside a T is passed over
pub beats-skip : (k : ℕ) (l : List Record) → beats k l ≡ beats 0 (drop k l)
unfolding beats
beats-skip zero l = refl
beats-skip (suc k) [] = refl
beats-skip (suc k) (r ∷ l) = beats-skip k l

pub beats-none : beats 0 [] ≡ []
unfolding beats
beats-none = refl

pub beats-t : (r : Record) (l : List Record) → r.kind ≡ t_kind → beats 0 (r ∷ l) ≡ beats 0 (drop (holds r) l)
unfolding beats
beats-t r l h = rw (eq-eqb r.kind t_kind h) (beats-skip (holds r) l)

pub beats_karaoke : (r : Record) (l : List Record) → r.kind ≡ karaoke_kind → beats 0 (r ∷ l) ≡ beat r ∷ beats 0 l
unfolding beats
beats_karaoke r l h = rw (ne_eqb r.kind t_kind (λ g. omega arith), eq-eqb r.kind karaoke_kind h)

pub beats-other : (r : Record) (l : List Record) → (r.kind ≡ t_kind → ⊥) → (r.kind ≡ karaoke_kind → ⊥) → beats 0 (r ∷ l) ≡ beats 0 l
unfolding beats
beats-other r l g h = rw (ne_eqb r.kind t_kind g, ne_eqb r.kind karaoke_kind h)

-- no more than records
pub beats-few : (k : ℕ) (l : List Record) → length (beats k l) ≤ length l
unfolding beats
beats-few k [] = omega arith
beats-few (suc k) (r ∷ l) = let h = beats-few k l in omega arith
beats-few zero (r ∷ l) =
    picked Short (eqb r.kind t_kind) _ _ (let h = beats-few (holds r) l in omega arith)
    (picked Short (eqb r.kind karaoke_kind) _ _ (let h = beats-few zero l in omega arith) (let h = beats-few zero l in omega arith))
  where
    Short : List Syllable → Type 0
    Short b = length b ≤ length (r ∷ l)

-- ---- in a table

module _ (ws : List ℕ) (at : ℕ) where
  pub from_end : places_of ws ≤ at → beats_from ws at ≡ []
  unfolding beats_from
  from_end h = ap (beats 0) (drop_of_length-le (records_of ws) {i = at} (omega (arith, length-records ws))) ∙ beats-none

  module _ (h : at < places_of ws) where
    pub from_karaoke : (record_in ws at).kind ≡ karaoke_kind → beats_from ws at ≡ beat (record_in ws at) ∷ beats_from ws (at + 1)
    unfolding beats_from
    from_karaoke k = ap (beats 0) (drop-records ws at h) ∙ beats_karaoke (record_in ws at) (drop (at + 1) (records_of ws)) k

    -- the record r there is a T, or of another kind
    module _ (r : Record) (i : r ≡ record_in ws at) where
      first : drop at (records_of ws) ≡ r ∷ drop (at + 1) (records_of ws)
      first = drop-records ws at h ∙ rw i

      pub past-t : r.kind ≡ t_kind → beats_from ws (at + (1 + holds r)) ≡ beats_from ws at
      unfolding beats_from
      past-t k =
          let e : at + (1 + holds r) ≡ at + 1 + holds r = omega arith in
          sym (ap (beats 0) first ∙ beats-t r (drop (at + 1) (records_of ws)) k ∙ ap (beats 0) (drop-drop (holds r) (at + 1) (records_of ws)) ∙ rw e)

      pub past-other : (r.kind ≡ t_kind → ⊥) → (r.kind ≡ karaoke_kind → ⊥) → beats_from ws (at + 1) ≡ beats_from ws at
      unfolding beats_from
      past-other g k = sym (ap (beats 0) first ∙ beats-other r (drop (at + 1) (records_of ws)) g k)

-- where syllables are left, there is a record
pub there : (ws : List ℕ) (from at : ℕ) → beats_from ws at ≡ beats_from ws from → 0 < length (beats_from ws from) → at < places_of ws
there ws from at e h =
    ⊎_elim (λ (g : places_of ws ≤ at). let z = ap length (sym e ∙ from_end ws at g) in absurd (omega arith)) (λ (g : at < places_of ws). g) (le_or_lt (places_of ws) at)

-- none are left where their number is 0
pub none : (l : List Syllable) (n : ℕ) → n ≡ length l → n ≡ 0 → l ≡ []
none [] n e z = refl
none (s ∷ l) n e z = absurd (omega (arith, e, z))

-- one less behind the record found
pub fewer : (ws : List ℕ) (from at n : ℕ) → Found ws from at → n ≡ length (beats_from ws from) → n - 1 ≡ length (beats_from ws (at + 1))
fewer ws from at n f c = omega (arith, ap length (sym f.same ∙ from_karaoke ws at f.there f.is), c)

-- ---- the walk

pub length-spans : (m : Ms) (l : List Syllable) → length (spans_from m l) ≡ length l
unfolding spans_from
length-spans m [] = refl
length-spans m (s ∷ l) = ap suc (length-spans (plus m (in_ms s.lasts)) l)

-- where there are no syllables there are no spans
pub over : (m : Ms) (ws : List ℕ) (at : ℕ) → beats_from ws at ≡ [] → spans_from m (beats_from ws at) ≡ []
unfolding spans_from
over m ws at e = ap (spans_from m) e

-- the span of the record found comes next
pub steps : (m : Ms) (ws : List ℕ) (from at : ℕ) → Found ws from at → spans_from m (beats_from ws from) ≡ span_from m (beat (record_in ws at)) ∷ spans_from (plus m (in_ms (cs (record_in ws at).w2))) (beats_from ws (at + 1))
unfolding spans_from
steps m ws from at f = ap (spans_from m) (sym f.same ∙ from_karaoke ws at f.there f.is)
