-- What the calls answer, from what the loop over all records leaves.
use mathlib.Core.Path.{◌≡◌, refl, sym, ap, ◌∙◌}
use mathlib.Core.List.{List}
use mathlib.Core.Bool.{Bool, true, false}
use Prim.Native.Nat.{ℕ, min}
use native.Mathlib.Omega.{arith}
use lib.IntN.{ℤ}
use Rattle.refusal.specs.Refusal.{Checked, most_places}
use Rattle.refusal.specs.Answer.{first_ground, Stands}
use Rattle.std.specs.Prelude.{Option, None, Some, Ok, Err}
use Rattle.std.specs.Result.{is_ok}
use Rattle.refusal.specs.declared.Refusal.{Refusal}
use Rattle.refusal.specs.declared.Refusal.TheVariants.{TableMalformed}
use Rattle.tag.specs.Table.{places_of}
use Rattle.tag.specs.WellFormed.{excess, table_ground}
use Rattle.tag.specs.Decode.{tags_of}
use Rattle.state.specs.declared.RenderState.{RenderState}
use Rattle.state.specs.State.{identity}
use Rattle.state.specs.Apply.{evaluate_at}
use Rattle.table.specs.Ground.{time_ground, call_ground_to, call_ground}
use Rattle.table.proofs.Slices.{length-records}
use Rattle.table.proofs.Grounds.{table_found, good-fine}
use Rattle.words.specs.Words.{state_words}
use Rattle.evaluators.specs.Inner.{tags_at, told, words_if}
use Rattle.evaluate.specs.Inner.{AppliedAll}
use Rattle.evaluate.specs.Evaluate.{Evaluated, evaluated_or, evaluated_to, evaluated, ground_of, state_of, StateStands, opacity_of, Opacity, state_after, InWords}
use Rattle.evaluate.proofs.Opacity.{opaque}

module _ {t dur : ℤ} {ws : List ℕ} {write : Bool} {v u : List ℕ} {r : RenderState} {x : Option ℕ} (a : AppliedAll t dur ws write v r x u) where
  -- a record is at fault
  pub at_fault : {n : ℕ} → x ≡ Some n → Err (TableMalformed n) ≡ evaluated ws t dur
  unfolding evaluated_to call_ground_to
  at_fault {n} e =
      let k : Err (TableMalformed n) ≡ table_ground ws = table_found ws (min (places_of ws) most_places) (Err (TableMalformed n)) refl (rw e at a.ground) in
      ap (λ (c : Checked). evaluated_or (first_ground c (time_ground t dur)) (evaluate_at t dur (tags_of ws))) k

  module _ (z : x ≡ None) {c : Checked} (f : c ≡ first_ground (excess ws) (time_ground t dur)) where
    none : told x ≡ Ok tt
    none = rw z refl

    -- no record is: what is left of the grounds
    left : c ≡ call_ground ws t dur
    unfolding call_ground_to
    left =
        let k : excess ws ≡ table_ground ws = table_found ws (min (places_of ws) most_places) (Ok tt) refl (sym none ∙ a.ground) in
        f ∙ ap (λ (y : Checked). first_ground y (time_ground t dur)) k

    pub late : {b : Refusal} → c ≡ Err b → Err b ≡ evaluated ws t dur
    unfolding evaluated_to
    late y = ap (λ (g : Checked). evaluated_or g (evaluate_at t dur (tags_of ws))) (sym y ∙ left)

    pub stated : c ≡ Ok tt → Ok r ≡ evaluated ws t dur
    unfolding evaluated_to evaluate_at tags_at
    stated y =
        let k : Ok tt ≡ call_ground ws t dur = sym y ∙ left in
        let p : min (places_of ws) most_places ≡ places_of ws = omega (arith, (good-fine ws t dur (sym k)).formed.few, length-records ws) in
        ap Ok (rw p at (a.state none)) ∙ ap (λ (g : Checked). evaluated_or g (evaluate_at t dur (tags_of ws))) k

-- ---- what stands for the answer

stands : (c : Checked) (st : RenderState) → Stands c identity st (ground_of (evaluated_or c st)) (state_of (evaluated_or c st))
stands (Ok _) st = record { ground = refl; value = refl }
stands (Err r) st = record { ground = refl; value = refl }

pub told_by_value : (ws : List ℕ) (t dur : ℤ) {r : Evaluated} → r ≡ evaluated ws t dur → (r ≡ evaluated ws t dur) × (StateStands ws t dur r × Opacity ws (opacity_of r))
unfolding evaluated_to
told_by_value ws t dur e = (e, (rw e (stands (call_ground ws t dur) (evaluate_at t dur (tags_of ws))), rw e (opaque ws t dur)))

-- ---- as words

refused : {ws v : List ℕ} {t dur : ℤ} {b : Refusal} → Err b ≡ evaluated ws t dur → InWords ws t dur v (Err b) v
refused {v = v} e = record { ground = ap ground_of e; state = ap (λ (a : Evaluated). state_after a v) e }

written : {ws v u : List ℕ} {t dur : ℤ} {st : RenderState} → Ok st ≡ evaluated ws t dur → u ≡ state_words st → InWords ws t dur v (Ok tt) u
written {v = v} e w = record { ground = ap ground_of e; state = w ∙ ap (λ (a : Evaluated). state_after a v) e }

module _ {t dur : ℤ} {ws : List ℕ} {write : Bool} {v u : List ℕ} {r : RenderState} {x : Option ℕ} (a : AppliedAll t dur ws write v r x u) where
  pub fault_in-words : {n : ℕ} → x ≡ Some n → InWords ws t dur v (Err (TableMalformed n)) u
  fault_in-words {n} p =
      let e : u ≡ v = (rw p at a.words) ∙ unwritten write in
      rw e (refused (at_fault a p))
    where
      unwritten : (w : Bool) → words_if w (Err (TableMalformed n)) r v ≡ v
      unwritten true = refl
      unwritten false = refl

  pub late_in_words : x ≡ None → (c : Checked) → c ≡ first_ground (excess ws) (time_ground t dur) → write ≡ is_ok c → InWords ws t dur v c u
  late_in_words z (Ok _) f w = written (stated a z f refl) (rw (w, z) at a.words)
  late_in_words z (Err b) f w =
      let e : u ≡ v = rw w at a.words in
      rw e (refused (late a z f refl))
