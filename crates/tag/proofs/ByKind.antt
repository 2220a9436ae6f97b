-- Laws over all kinds, by computing the first fifty.
use Prim.Native.Nat.{ℕ, zero, suc, ◌+◌, ◌≤◌, ◌<◌}
use native.Mathlib.Omega.{arith}
use mathlib.Core.Path.{◌≡◌, refl, ap}
use mathlib.Core.Bool.{Bool, true, false}
use mathlib.Core.List.{List, [], ◌∷◌}
use lib.Dec.{eqb, leb}
use lib.ListN.{get_or-eq_default}
use borrow.Author.Tests.{eqb-true, eqb-false, leb-true, leb-false}
use Rattle.tag.specs.declared.Record.{Record}
use Rattle.tag.specs.Tag.{AnimatedTag, Karaoke, cs}
use Rattle.tag.specs.declared.KaraokeKind.TheVariants.{Fill}
use Rattle.tag.specs.Decode.{decoders, nothing, decode_one}

-- ---- two functions that give the same list over a range are the same there

unfoldable pub over : {A : Type 0} → (ℕ → A) → ℕ → ℕ → List A
over g i zero = []
over g i (suc n) = g i ∷ over g (suc i) n

same_over : {A : Type 0} (g h : ℕ → A) (i n k : ℕ) → over g i n ≡ over h i n → i ≤ k → k < i + n → g k ≡ h k
unfolding over
same_over g h i zero k e l u = absurd (omega arith)
same_over g h i (suc n) k e l u = go (eqb k i) refl (λ l. same_over g h (suc i) n k rest l (omega arith))
  where
    first : g i ≡ h i
    first = cc

    rest : over g (suc i) n ≡ over h (suc i) n
    rest = cc

    go : (b : Bool) → eqb k i ≡ b → (suc i ≤ k → g k ≡ h k) → g k ≡ h k
    go true t more = rw (eqb-true k i t) first
    go false t more = more (omega (arith, eqb-false k i t))

-- the same everywhere, where from the range's end on both give the same
pub everywhere : {A : Type 0} (g h : ℕ → A) (n : ℕ) → over g 0 n ≡ over h 0 n → ((k : ℕ) → n ≤ k → g k ≡ h k) → (k : ℕ) → g k ≡ h k
everywhere g h n e past k = go (leb n k) refl
  where
    go : (b : Bool) → leb n k ≡ b → g k ≡ h k
    go true t = past k (leb-true n k t)
    go false t = same_over g h 0 n k e (omega arith) (omega (arith, leb-false n k t))

-- ---- kinds past the last

pub decode-past : (r : Record) → 50 ≤ r.kind → decode_one r ≡ Karaoke Fill (cs 0)
unfolding decode_one decoders
decode-past r h = ap (λ (g : Record → AnimatedTag). g r) (get_or-eq_default (nothing ∷ decoders) nothing {n = r.kind} h)
