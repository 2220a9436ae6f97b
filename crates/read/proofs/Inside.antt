-- Numerals that are too long, and where they stand.
use mathlib.Core.Path.{◌≡◌, refl}
use mathlib.Core.List.{List}
use Prim.Native.Nat.{ℕ, ◌≤◌, ◌<◌}
use native.Mathlib.Omega.{arith}
use native.Mathlib.Nat.{le_trans}
use lib.Ieee.{Float}
use Rattle.scan.specs.Scan.{trim_start, trim_end}
use Rattle.scan.proofs.Bounds.{trim_start-low, trim_end-high}
use Rattle.numeral.specs.Numeral.{F32, number, too_long_lem, f32_at, f32_of}
use Rattle.numeral.proofs.Reach.{Bounded, number-in_reach}
use Rattle.survey.specs.Survey.{Unplain}
use Rattle.survey.proofs.Laws.{unplain_wider}
use Rattle.survey.proofs.Long.{Ends, long-first, long_unplain}
use Rattle.survey.proofs.Fields.{trim_ends}
use Rattle.lists.specs.Lists.{first_of}
use Rattle.std.specs.Prelude.{Option, Some, None}

-- ---- numerals

-- a place, if there is one, from i on and before e, where the text is not plain
pub data Between (s : List ℕ) (top i e : ℕ) : Option ℕ → Type 0 where
  nowhere : Between s top i e None
  there : (p : ℕ) → i ≤ p → p < e → Unplain s top i e → Between s top i e (Some p)

pub between_wider : {s : List ℕ} {top i j k e : ℕ} {f : Option ℕ} → i ≤ j → k ≤ e → Between s top j k f → Between s top i e f
between_wider a b nowhere = nowhere
between_wider a b (there p l h u) = there p (omega arith) (omega arith) (unplain_wider a b u)

pub between_first : {s : List ℕ} {top i e : ℕ} {f g : Option ℕ} → Between s top i e f → Between s top i e g → Between s top i e (first_of f g)
between_first nowhere b = b
between_first (there p l h u) b = there p l h u

-- in a plain text there is none
pub between_none : {s : List ℕ} {top i e : ℕ} {f : Option ℕ} → (Unplain s top i e → ⊥) → Between s top i e f → f ≡ None
between_none h nowhere = refl
between_none h (there p l k u) = absurd (h u)

-- an f32 is in reach, and a numeral that is too long stands in the text from p to q, which is not plain
pub data F32In (s : List ℕ) (top p q : ℕ) : F32 → Type 0 where
  no_numeral : F32In s top p q F32.none
  too_long : (k : ℕ) → p ≤ k → k < q → Unplain s top p q → F32In s top p q (too_long_lem k)
  a-number : {x : Float} → Bounded x → F32In s top p q (number x)

module _ (s : List ℕ) (a b : ℕ) where
  f32_of_in : (top : ℕ) → b ≤ top → Ends s top b → F32In s top a b (f32_of s a b)
  f32_of_in top high ends = go (f32_of s a b) refl
    where
      go : (x : F32) → f32_of s a b ≡ x → F32In s top a b x
      go F32.none e = no_numeral
      go (too_long_lem k) e =
          let f = long-first s a b k e in
          too_long k (omega (arith, f.0)) (omega (arith, f.0, f.1)) (long_unplain s top a b high ends k e)
      go (number x) e = a-number (number-in_reach s a b x e)

pub f32_wider : {s : List ℕ} {top p a b q : ℕ} {x : F32} → p ≤ a → b ≤ q → F32In s top a b x → F32In s top p q x
f32_wider l h no_numeral = no_numeral
f32_wider l h (too_long k m n u) = too_long k (omega arith) (omega arith) (unplain_wider l h u)
f32_wider l h (a-number b) = a-number b

pub f32_in : (s : List ℕ) (top p q : ℕ) → q ≤ top → Ends s top q → F32In s top p q (f32_at s p q)
f32_in s top p q h f =
    let a = trim_start s p q in
    f32_wider (trim_start-low s p q) (trim_end-high s a q) (f32_of_in s a (trim_end s a q) top (le_trans (trim_end-high s a q) h) (trim_ends s top a q f))
