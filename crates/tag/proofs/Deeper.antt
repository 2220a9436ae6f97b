-- 02, N7: of two controllers the one that allows fewer levels of T gives the same ground 5, or names the first T that is too deep for it.
use mathlib.Core.Path.{◌≡◌, sym, ap, ◌∙◌}
use mathlib.Core.List.{List}
use mathlib.Core.Logic.{◌⊎◌, inl, inr, ⊎_elim}
use Prim.Native.Nat.{ℕ, zero, suc, ◌+◌, ◌≤◌, ◌<◌}
use native.Mathlib.Omega.{arith}
use Rattle.scan.proofs.Laws.{le_or_lt}
use Rattle.refusal.specs.Refusal.{Checked}
use Rattle.std.specs.Prelude.{Err}
use Rattle.refusal.specs.declared.Refusal.{Refusal}
use Rattle.refusal.specs.declared.Refusal.TheVariants.{TableMalformed}
use Rattle.tag.specs.declared.Record.{Record}
use Rattle.tag.specs.WellFormed.{holds, Nested, end, plain, around, WellFormedTo, front, table_ground_to, AtFault}
use Rattle.tag.specs.Depth.{TooDeep, RefusedAsDeep, FaultUpTo, Alike, Stored}
use Rattle.tag.proofs.Formed.{FirstFault, ground-formed, formed-ground, look}

-- ---- a greater depth allows what a lesser one does

nested-more : {d : ℕ} {l : List Record} (e : ℕ) → d ≤ e → Nested d l → Nested e l
nested-more e h end = end
nested-more e h (plain k n) = plain k (nested-more e h n)
nested-more zero h (around k g m n) = absurd (omega arith)
nested-more (suc e) h (around k g m n) = around k g (nested-more e (omega arith) m) (nested-more (suc e) h n)

formed-more : {d e : ℕ} (t : List ℕ) → d ≤ e → WellFormedTo d t → WellFormedTo e t
formed-more {e = e} t h w = record { few = w.few; whole = w.whole; ranges = w.ranges; around = nested-more e h w.around }

-- ---- records at fault at two depths

-- a T too deep is at fault
deep-fault : {d i : ℕ} {l : List Record} → TooDeep d l i → AtFault d l i
deep-fault (TooDeep.here h) = AtFault.deep h
deep-fault (TooDeep.later h f) = AtFault.later h (deep-fault f)
deep-fault (TooDeep.inner h f) = AtFault.inner h (deep-fault f)
deep-fault (TooDeep.behind h f) = AtFault.behind h (deep-fault f)

-- what is at fault at d is too deep there, or at fault at e too
deep_or_fault : {d i : ℕ} {l : List Record} (e : ℕ) → d ≤ e → AtFault d l i → TooDeep d l i ⊎ AtFault e l i
deep_or_fault e h (AtFault.range g) = inr (AtFault.range g)
deep_or_fault e h (AtFault.deep g) = inl (TooDeep.here g)
deep_or_fault e h (AtFault.past g k) = inr (AtFault.past g k)
deep_or_fault e h (AtFault.later g f) = ⊎_elim (λ x. inl (TooDeep.later g x)) (λ x. inr (AtFault.later g x)) (deep_or_fault e h f)
deep_or_fault zero h (AtFault.inner g f) = absurd (omega arith)
deep_or_fault (suc e) h (AtFault.inner g f) = ⊎_elim (λ x. inl (TooDeep.inner g x)) (λ x. inr (AtFault.inner g x)) (deep_or_fault e (omega arith) f)
deep_or_fault zero h (AtFault.behind g f) = absurd (omega arith)
deep_or_fault (suc e) h (AtFault.behind g f) = ⊎_elim (λ x. inl (TooDeep.behind g x)) (λ x. inr (AtFault.behind g x)) (deep_or_fault (suc e) h f)

-- what is at fault at e is so at d, or something before it is
before : (d : ℕ) {e i : ℕ} {l : List Record} → d ≤ e → AtFault e l i → FaultUpTo d l i
before d h (AtFault.range g) = record { place = 0; low = omega arith; fault = AtFault.range g }
before zero h (AtFault.deep g) = record { place = 0; low = omega arith; fault = AtFault.deep g }
before (suc d) h (AtFault.deep g) = absurd (omega arith)
before d h (AtFault.past g k) = record { place = 0; low = omega arith; fault = AtFault.past g k }
before d h (AtFault.later g f) =
    let b = before d h f in
    let low = b.low in
    record { place = suc b.place; low = omega arith; fault = AtFault.later g b.fault }
before zero h (AtFault.inner g f) = record { place = 0; low = omega arith; fault = AtFault.deep g }
before (suc d) h (AtFault.inner g f) =
    let b = before d (omega arith) f in
    let low = b.low in
    record { place = suc b.place; low = omega arith; fault = AtFault.inner g b.fault }
before zero h (AtFault.behind g f) = record { place = 0; low = omega arith; fault = AtFault.deep g }
before (suc d) h (AtFault.behind {r = r} g f) =
    let b = before (suc d) h f in
    let low = b.low in
    record { place = suc (holds r + b.place); low = omega arith; fault = AtFault.behind g b.fault }

-- ---- a table

-- the ground names the first record at fault
named : {e : ℕ} (t : List ℕ) (p : ℕ) → AtFault e (front t) p → ((k : ℕ) → k < p → AtFault e (front t) k → ⊥) → table_ground_to e t ≡ Err (TableMalformed p)
named {e} t p f none =
    look t {d = e} (λ x g. absurd (x p f))
    (λ b x g. let q : 0 + x.place ≡ p = ⊎_elim (λ h. ⊎_elim (λ k. omega arith) (λ k. absurd (x.none p k f)) (le_or_lt x.place p)) (λ h. absurd (none x.place h x.fault)) (le_or_lt p x.place) in
    g ∙ ap Err (x.is ∙ ap TableMalformed q))

module _ {d e : ℕ} (t : List ℕ) (h : d ≤ e) where
  abbrev ground : ℕ → Checked
  ground k = table_ground_to k t

  -- none at d is at fault: none at e
  none_more : ((k : ℕ) → AtFault d (front t) k → ⊥) → (k : ℕ) → AtFault e (front t) k → ⊥
  none_more none k f = let b = before d h f in none b.place b.fault

  -- the first at fault at d is the first at fault at e, or the first too deep
  module _ (b : Refusal) (f : FirstFault d 0 (front t) b) (g : ground d ≡ Err b) where
    told : ground d ≡ Err (TableMalformed f.place)
    told = let z : 0 + f.place ≡ f.place = omega arith in g ∙ ap Err (f.is ∙ ap TableMalformed z)

    none_before : (k : ℕ) → k < f.place → AtFault e (front t) k → ⊥
    none_before k l x =
        let b = before d h x in
        let low = b.low in
        f.none b.place (omega arith) b.fault

    as_deep : TooDeep d (front t) f.place → RefusedAsDeep d e t ground Err
    as_deep x = record { place = f.place; is = record { deep = x; first = λ k l y. f.none k l (deep-fault y); fine = none_before }; refusal = told }

    as_other : AtFault e (front t) f.place → Alike d e t ground
    as_other x =
        record {
          is = told ∙ sym (named t f.place x none_before);
          other = λ k y. record { place = f.place; low = ⊎_elim (λ l. l) (λ l. absurd (f.none k l (deep-fault y))) (le_or_lt f.place k); fault = x };
        }

  alike_or_deep : Alike d e t ground ⊎ RefusedAsDeep d e t ground Err
  alike_or_deep =
      look t {d = d}
      (λ none g. inl (record { is = g ∙ sym (look t {d = e} (λ n x. x) (λ b f x. absurd (none_more none f.place f.fault))); other = λ k x. absurd (none k (deep-fault x)) }))
      (λ b f g. ⊎_elim (λ x. inr (as_deep b f g x)) (λ x. inl (as_other b f g x)) (deep_or_fault e h f.fault))

  -- 02, N7, of ground 5
  pub stored : Stored d e t ground Err
  stored =
      record {
        formed = λ w. formed-more t h w;
        same = λ w. formed-ground t w ∙ sym (formed-ground t (formed-more t h w));
        deeper = λ w n. ⊎_elim (λ x. absurd (n (ground-formed t (x.is ∙ formed-ground t w)))) (λ x. x) alike_or_deep;
        any = alike_or_deep;
      }

-- and of every answer that is made of it
module _ {A B : Type 0} (f : A → B) {d e : ℕ} {t : List ℕ} {answer : ℕ → A} {refused : Refusal → A} where
  deep_by : RefusedAsDeep d e t answer refused → RefusedAsDeep d e t (λ k. f (answer k)) (λ r. f (refused r))
  deep_by x = record { place = x.place; is = x.is; refusal = ap f x.refusal }

  pub stored_by : Stored d e t answer refused → Stored d e t (λ k. f (answer k)) (λ r. f (refused r))
  stored_by s =
      record {
        formed = s.formed;
        same = λ w. ap f (s.same w);
        deeper = λ w n. deep_by (s.deeper w n);
        any = ⊎_elim (λ x. inl (record { is = ap f x.is; other = x.other })) (λ x. inr (deep_by x)) s.any;
      }
