-- One record's own marks, by its kind.
use mathlib.Core.Path.{◌≡◌, refl, sym, ap, ◌∙◌}
use mathlib.Core.List.{List, [], ◌∷◌, ◌++◌, map}
use Prim.Native.Nat.{ℕ, zero, suc}
use native.Mathlib.Omega.{arith}
use lib.IntN.{ℤ}
use lib.ListN.{get_or, replicate, get_or-map}
use Rattle.std.specs.Prelude.{Option, None}
use Rattle.tag.specs.declared.Record.{Record}
use Rattle.tag.specs.Tag.{AnimatedTag, Fad}
use Rattle.tag.specs.Decode.{z, times_of, decoders, nothing, decode_one}
use Rattle.marks.specs.Marks.{Interval, way, stage, own_marks, after_in, least, first_after}
use Rattle.marks.proofs.Laws.{least-none}

-- ---- by kind

-- nothing but at one place behind n others
quiet : (n i : ℕ) (a : List Interval) → (i ≡ n → ⊥) → get_or (replicate n [] ++ (a ∷ [])) i [] ≡ []
quiet zero zero a h = absurd (h refl)
quiet zero (suc i) a h = refl
quiet (suc n) zero a h = refl
quiet (suc n) (suc i) a h = quiet n i a (λ e. h (ap suc e))

module _ (t dur : ℤ) (r : Record) where
  -- the own marks of each kind from 0, which is none, on, had the record that kind
  abbrev kinds : List (List Interval)
  kinds =
      [] ∷
      own_marks dur (Fad r.w1 r.w2) ∷
      (stage (z r.w4) (z r.w5) ∷ stage (z r.w6) (z r.w7) ∷ []) ∷
      [] ∷
      (way (times_of r.w5 r.w6 r.w7) dur ∷ []) ∷
      (replicate 44 [] ++ ((way (times_of r.w1 r.w2 r.w3) dur ∷ []) ∷ []))

  own_all : map (λ (f : Record → AnimatedTag). own_marks dur (f r)) (nothing ∷ decoders) ≡ kinds
  unfolding decoders
  own_all = refl

  own : own_marks dur (decode_one r) ≡ get_or kinds r.kind []
  unfolding decode_one
  own =
      sym (get_or-map (λ (f : Record → AnimatedTag). own_marks dur (f r)) (nothing ∷ decoders) r.kind nothing)
      ∙ ap (λ (l : List (List Interval)). get_or l r.kind []) own_all

  abbrev next : Option ℤ
  next = first_after t (own_marks dur (decode_one r))

  pub own_fad : r.kind ≡ 1 → next ≡ first_after t (own_marks dur (Fad r.w1 r.w2))
  own_fad h = ap (first_after t) (own ∙ rw h)

  pub own_fade : r.kind ≡ 2 → next ≡ least (after_in t (stage (z r.w4) (z r.w5))) (after_in t (stage (z r.w6) (z r.w7)))
  unfolding first_after
  own_fade h =
      let k : own_marks dur (decode_one r) ≡ stage (z r.w4) (z r.w5) ∷ stage (z r.w6) (z r.w7) ∷ [] = own ∙ rw h in
      ap (first_after t) k ∙ ap (least (after_in t (stage (z r.w4) (z r.w5)))) (least-none _)

  pub own_move : r.kind ≡ 4 → next ≡ after_in t (way (times_of r.w5 r.w6 r.w7) dur)
  unfolding first_after
  own_move h =
      let k : own_marks dur (decode_one r) ≡ way (times_of r.w5 r.w6 r.w7) dur ∷ [] = own ∙ rw h in
      ap (first_after t) k ∙ least-none _

  pub own_t : r.kind ≡ 49 → next ≡ after_in t (way (times_of r.w1 r.w2 r.w3) dur)
  unfolding first_after
  own_t h =
      let k : own_marks dur (decode_one r) ≡ way (times_of r.w1 r.w2 r.w3) dur ∷ [] = own ∙ rw h in
      ap (first_after t) k ∙ least-none _

  -- the other kinds
  pub record Quiet : Type 0 where
    pub no-fad : r.kind ≡ 1 → ⊥
    pub no-fade : r.kind ≡ 2 → ⊥
    pub no_move : r.kind ≡ 4 → ⊥
    pub no-t : r.kind ≡ 49 → ⊥

  pub own_none : Quiet → next ≡ None
  unfolding first_after
  own_none q = ap (first_after t) (own ∙ go r.kind refl)
    where
      go : (k : ℕ) → r.kind ≡ k → get_or kinds k [] ≡ []
      go zero e = refl
      go (suc zero) e = absurd (q.no-fad e)
      go (suc (suc zero)) e = absurd (q.no-fade e)
      go (suc (suc (suc zero))) e = refl
      go (suc (suc (suc (suc zero)))) e = absurd (q.no_move e)
      go (suc (suc (suc (suc (suc k))))) e = quiet 44 k (way (times_of r.w1 r.w2 r.w3) dur ∷ []) (λ h. q.no-t (omega (arith, h, e)))
