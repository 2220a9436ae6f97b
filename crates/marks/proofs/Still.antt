-- An interval none of whose marks lies after t and up to u, and what is then the same at t and at u: how far a \move or a \t has come, what a
-- stage of \fade gives.
use mathlib.Core.Path.{◌≡◌, sym, ap, ◌∙◌}
use mathlib.Core.Logic.{⊎_elim}
use Prim.Native.Nat.{ℕ}
use lib.IntN.{ℤ, suc_ℤ}
use lib.Signed.{le_z, lt_z, ◌≤ℤ◌, ◌<ℤ◌, ≤ℤ_refl, clash_ℤ, <ℤ-≤ℤ_trans}
use Rattle.scan.specs.Scan.{pick}
use Rattle.state.specs.Mix as Mix
use Rattle.marks.specs.Marks.{Interval, ramp, single, stage, Within}
use Rattle.marks.proofs.Order.{le_le_z, lt_le_z, lt_lt_z, le_lt_z, total, <ℤ-≤ℤ, ≤ℤ-trans, ≤ℤ-<ℤ-trans, ≤ℤ-antisym, <ℤ-suc, suc-after, before-suc}

-- no mark of the interval after t and up to u
abbrev pub Quiet : Interval → ℤ → ℤ → Type 0
Quiet i t u = (a : ℤ) → Within i a → t <ℤ a → a ≤ℤ u → ⊥

-- why: the two instants are the same, or the interval comes later, or it is over, or it is empty
pub data Still (i : Interval) (t u : ℤ) : Type 0 where
  same : t ≡ u → Still i t u
  ahead : u <ℤ i.begins → Still i t u
  over : i.ends ≤ℤ t → Still i t u
  empty : i.ends <ℤ i.begins → Still i t u

module _ {i : Interval} {t u : ℤ} (le : t ≤ℤ u) (q : Quiet i t u) where
  -- where it has begun by u and is not over at t, its first mark or the one after t lies between
  between : i.begins ≤ℤ u → t <ℤ i.ends → i.begins ≤ℤ i.ends → t <ℤ u → ⊥
  between f l e m =
      ⊎_elim
      (λ (h : i.begins ≤ℤ t). q (suc_ℤ t) (record { from = ≤ℤ-trans h (<ℤ-≤ℤ (suc-after t)); to = <ℤ-suc l }) (suc-after t) (<ℤ-suc m))
      (λ (h : t <ℤ i.begins). q i.begins (record { from = ≤ℤ_refl i.begins; to = e }) h f)
      (total i.begins t)

  pub still : Still i t u
  still =
      ⊎_elim
      (λ (f : i.begins ≤ℤ u).
      ⊎_elim over
      (λ (l : t <ℤ i.ends).
      ⊎_elim
      (λ (e : i.begins ≤ℤ i.ends). ⊎_elim (λ (g : u ≤ℤ t). same (≤ℤ-antisym le g)) (λ (m : t <ℤ u). absurd (between f l e m)) (total u t))
      empty
      (total i.begins i.ends))
      (total i.ends t))
      ahead
      (total i.begins u)

-- ---- how far

module _ (a b t u : ℤ) (le : t ≤ℤ u) where
  rising : a <ℤ b → Still (ramp a b) t u → Mix.advance a b t ≡ Mix.advance a b u
  unfolding Mix.advance
  rising h (same e) = ap (Mix.advance a b) e
  rising h (ahead k) = let g : u ≤ℤ a = before-suc k in rw (lt_le_z h, le_le_z g, le_le_z (≤ℤ-trans le g))
  rising h (over k) = rw (lt_le_z h, lt_le_z (<ℤ-≤ℤ_trans h k), lt_le_z (<ℤ-≤ℤ_trans h (≤ℤ-trans k le)), le_le_z k, le_le_z (≤ℤ-trans k le))
  rising h (empty k) = clash_ℤ h (before-suc k)

  jumping : b ≤ℤ a → Still (single b) t u → Mix.advance a b t ≡ Mix.advance a b u
  unfolding Mix.advance
  jumping h (same e) = ap (Mix.advance a b) e
  jumping h (ahead k) = rw (le_le_z h, lt_le_z k, lt_le_z (≤ℤ-<ℤ-trans le k))
  jumping h (over k) = rw (le_le_z h, le_le_z k, le_le_z (≤ℤ-trans k le))
  jumping h (empty k) = clash_ℤ k (≤ℤ_refl b)

  pub ramp_still : Quiet (pick (le_z b a) (single b) (ramp a b)) t u → Mix.advance a b t ≡ Mix.advance a b u
  ramp_still q =
      ⊎_elim
      (λ (h : b ≤ℤ a). jumping h (still le (rw (le_le_z h) at q)))
      (λ (h : a <ℤ b). rising h (still le (rw (lt_le_z h) at q)))
      (total b a)

-- ---- a stage of \fade

-- p up to x, what m gives from x to y, what r gives from y on
abbrev pub staged : ℕ → ℤ → ℤ → (ℤ → ℕ) → (ℤ → ℕ) → ℤ → ℕ
staged p x y m r t = pick (lt_z t x) p (pick (lt_z t y) (m t) (r t))

module _ (p : ℕ) (x y : ℤ) (m r : ℤ → ℕ) where
  -- m begins at p
  start : x <ℤ y → m x ≡ p → (t : ℤ) → t ≤ℤ x → staged p x y m r t ≡ p
  start h e t k =
      ⊎_elim
      (λ (g : x ≤ℤ t). rw (≤ℤ-antisym k g, le_lt_z (≤ℤ_refl x), lt_lt_z h, e))
      (λ (g : t <ℤ x). rw (lt_lt_z g))
      (total x t)

  past : (t : ℤ) → x ≤ℤ t → y ≤ℤ t → staged p x y m r t ≡ r t
  past t h k = rw (le_lt_z h, le_lt_z k)

  module _ (t u : ℤ) (le : t ≤ℤ u) (rest : r t ≡ r u) where
    going : x <ℤ y → m x ≡ p → Still (ramp x y) t u → staged p x y m r t ≡ staged p x y m r u
    going h e (same q) = ap (staged p x y m r) q
    going h e (ahead k) = let g : u ≤ℤ x = before-suc k in start h e t (≤ℤ-trans le g) ∙ sym (start h e u g)
    going h e (over k) = let g : x ≤ℤ t = <ℤ-≤ℤ (<ℤ-≤ℤ_trans h k) in past t g k ∙ rest ∙ sym (past u (≤ℤ-trans g le) (≤ℤ-trans k le))
    going h e (empty k) = clash_ℤ h (before-suc k)

    at_once : y ≤ℤ x → Still (single x) t u → staged p x y m r t ≡ staged p x y m r u
    at_once h (same q) = ap (staged p x y m r) q
    at_once h (ahead k) = rw (lt_lt_z k, lt_lt_z (≤ℤ-<ℤ-trans le k))
    at_once h (over k) = past t k (≤ℤ-trans h k) ∙ rest ∙ sym (past u (≤ℤ-trans k le) (≤ℤ-trans (≤ℤ-trans h k) le))
    at_once h (empty k) = clash_ℤ k (≤ℤ_refl x)

    pub stage_still : (x <ℤ y → m x ≡ p) → Quiet (stage x y) t u → staged p x y m r t ≡ staged p x y m r u
    stage_still e q =
        ⊎_elim
        (λ (h : y ≤ℤ x). at_once h (still le (rw (le_le_z h) at q)))
        (λ (h : x <ℤ y). going h (e h) (still le (rw (lt_le_z h) at q)))
        (total y x)
