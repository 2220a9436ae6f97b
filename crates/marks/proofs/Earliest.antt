-- What the definition finds is the earliest later mark.
use mathlib.Core.Path.{◌≡◌, refl}
use mathlib.Core.Bool.{Bool, true, false}
use mathlib.Core.List.{List, [], ◌∷◌}
use lib.IntN.{ℤ, suc_ℤ}
use lib.Signed.{le_z, ≤ℤ_refl, <ℤ-≤ℤ_trans, clash_ℤ}
use Rattle.std.specs.Prelude.{Option, Some, None}
use Rattle.scan.specs.Scan.{pick}
use Rattle.tag.specs.Tag.{Tags}
use Rattle.marks.specs.Marks.{Interval, marks, next_mark, Within, IsMark, here, later, after_in, least, first_after, Earliest, soonest, never}
use Rattle.marks.proofs.Order.{le_z_true, le_z_false, ≤ℤ-trans, <ℤ-suc, suc-after, <ℤ-≤ℤ}

-- ---- one interval

none : {b : ℤ} → IsMark [] b → ⊥
none = elim [ ]

alone : {i : Interval} {b : ℤ} → IsMark (i ∷ []) b → Within i b
alone (here w) = w
alone (later m) = absurd (none m)

one : (t : ℤ) (i : Interval) → Earliest (i ∷ []) t (after_in t i)
one t i = go (le_z i.begins t) (le_z i.ends t) (le_z i.begins i.ends) refl refl refl
  where
    go : (u v w : Bool) → le_z i.begins t ≡ u → le_z i.ends t ≡ v → le_z i.begins i.ends ≡ w
        → Earliest (i ∷ []) t (pick u (pick v None (Some (suc_ℤ t))) (pick w (Some i.begins) None))
    go true true w a b c = never (λ x m h. clash_ℤ (<ℤ-≤ℤ_trans h (alone m).to) (le_z_true b))
    go true false w a b c =
        soonest (here (record { from = ≤ℤ-trans (le_z_true a) (<ℤ-≤ℤ (suc-after t)); to = <ℤ-suc (le_z_false b) })) (suc-after t) (λ x m h. <ℤ-suc h)
    go false v true a b c = soonest (here (record { from = ≤ℤ_refl i.begins; to = le_z_true c })) (le_z_false a) (λ x m h. (alone m).from)
    go false v false a b c = never (λ x m h. clash_ℤ (le_z_false c) (≤ℤ-trans (alone m).from (alone m).to))

-- ---- one more

split : {i : Interval} {l : List Interval} {b : ℤ} {X : Type 0} → (IsMark (i ∷ []) b → X) → (IsMark l b → X) → IsMark (i ∷ l) b → X
split f g (here w) = f (here w)
split f g (later m) = g m

both : {t : ℤ} {i : Interval} {l : List Interval} {m n : Option ℤ} → Earliest (i ∷ []) t m → Earliest l t n → Earliest (i ∷ l) t (least m n)
both (never f) (never g) = never (λ x m h. split (λ k. f x k h) (λ k. g x k h) m)
both (never f) (soonest k a g) = soonest (later k) a (λ x m h. split (λ k. absurd (f x k h)) (λ k. g x k h) m)
both (soonest k a f) (never g) = soonest (here (alone k)) a (λ x m h. split (λ k. f x k h) (λ k. absurd (g x k h)) m)
both {t} {i} {l} (soonest {a = p} j a f) (soonest {a = q} k b g) = go (le_z p q) refl
  where
    go : (u : Bool) → le_z p q ≡ u → Earliest (i ∷ l) t (pick u (Some p) (Some q))
    go true e = soonest (here (alone j)) a (λ x m h. split (λ k. f x k h) (λ k. ≤ℤ-trans (le_z_true e) (g x k h)) m)
    go false e = soonest (later k) b (λ x m h. split (λ k. ≤ℤ-trans (<ℤ-≤ℤ (le_z_false e)) (f x k h)) (λ k. g x k h) m)

pub earliest : (t : ℤ) (l : List Interval) → Earliest l t (first_after t l)
unfolding first_after
earliest t [] = never (λ x m h. none m)
earliest t (i ∷ l) = both (one t i) (earliest t l)

-- of tags
pub next-earliest : (t dur : ℤ) (l : Tags) → Earliest (marks dur l) t (next_mark t dur l)
unfolding next_mark
next-earliest t dur l = earliest t (marks dur l)
