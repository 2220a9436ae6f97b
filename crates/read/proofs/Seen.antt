-- Places as words: what they stand for, and that a place in a text fits.
use mathlib.Core.Path.{◌≡◌, refl}
use mathlib.Core.List.{List}
use mathlib.Core.Logic.{inl}
use Prim.Native.Nat.{ℕ, ◌≤◌}
use native.Mathlib.Omega.{arith}
use native.Mathlib.Nat.{le_refl}
use Rattle.refusal.specs.Refusal.{most_bytes}
use Rattle.std.specs.Prelude.{Option}
use Rattle.plain.specs.Plain.{One, plain_at}
use Rattle.plain.specs.Inner.{kept_of}
use Rattle.plain.specs.declared.Kept.{Kept}
use Rattle.read.specs.declared.Peeled.{Peeled}
use Rattle.read.specs.Block.{peel_to}
use Rattle.read.specs.Inner.{Peels, InWord, kept_got}
use Rattle.read.proofs.Inside.{Between, nowhere, there}
use Rattle.read.proofs.Fine.{Fine, nothing, late, tag, away, plain-fine}
use Rattle.read.proofs.Parts.{peel_to_in}

between_word : {s : List ℕ} {top i e : ℕ} {f : Option ℕ} → e ≤ most_bytes → Between s top i e f → InWord f
between_word h nowhere = tt
between_word h (there p a b u) = omega arith

fine_word : {s : List ℕ} {top p q : ℕ} {o : One} (i : ℕ) → q ≤ most_bytes → Fine s top p q o → InWord (kept_got i (kept_of o)).long
fine_word i h nothing = tt
fine_word i h (late k a b u) = omega arith
fine_word i h (tag x) = tt
fine_word i h (away x u) = tt

-- a numeral that is too long: of a plain tag, and before the tags of a \t
pub plain_word : (s : List ℕ) (i a b p q : ℕ) (k : Kept) → b ≤ p → p ≤ q → q ≤ most_bytes → k ≡ kept_of (plain_at s a b p q) → InWord (kept_got i k).long
plain_word s i a b p q k g h l e = rw e (fine_word i l (plain-fine s q p q h l (le_refl q) (inl refl) a b (omega arith)))

pub peel_word : (s : List ℕ) (p q : ℕ) (l : Peeled) → p ≤ q → q ≤ most_bytes → Peels p q (peel_to s p q) l → InWord l.long
peel_word s p q l h m e = rw e.long (between_word m (peel_to_in s q p q h (le_refl q) (inl refl)).long)
