-- The next mark after t of a \move, a \t and a \fad, as the code finds it.
use mathlib.Core.Path.{◌≡◌, sym, ap, ◌∙◌}
use Prim.Native.Nat.{ℕ, ◌-◌, ◌≤◌, ◌<◌, min}
use native.Mathlib.Omega.{arith}
use lib.IntN.{ℤ, pos, negsuc}
use lib.Signed.{◌<ℤ◌}
use borrow.Author.Tests.{lt-ltb, le-ltb, ne_eqb}
use Rattle.std.specs.Prelude.{Option}
use Rattle.std.proofs.lemmas.Int.{ints}
use Rattle.state.specs.Apply.{from_zero_lem}
use Rattle.tag.specs.Tag.{Fad}
use Rattle.tag.specs.Decode.{z, times_of}
use Rattle.marks.specs.Marks.{ramp, way, own_marks, after_in, least, first_after}
use Rattle.marks.specs.Inner.{most, stretch}
use Rattle.marks.proofs.Laws.{least-none, least_assoc}

-- where \move and \t say their times
pub way-given : (t dur : ℤ) (flag a b : ℕ) → (flag ≡ 0 → ⊥) → after_in t (stretch (z a) (z b) (z b)) ≡ after_in t (way (times_of flag a b) dur)
way-given t dur flag a b e = rw (ne_eqb flag 0 e)

-- ---- \fad

-- a ramp that begins before any i32 ends may end beyond them all: up to the last of them it is the same
pub rise_capped : (t : ℤ) (n : ℕ) → t <ℤ pos most → after_in t (ramp (pos 0) (pos (min n most))) ≡ after_in t (ramp (pos 0) (pos n))
rise_capped t n h = grind (arith, ints)

module _ (t dur : ℤ) (t1 t2 : ℕ) where
  abbrev pub rise : Option ℤ
  rise = after_in t (ramp (pos 0) (pos t1))

  abbrev pub fall : Option ℤ
  fall = after_in t (ramp (pos (from_zero_lem dur - t2)) (pos (from_zero_lem dur)))

  abbrev pub early : Option ℤ
  early = after_in t (ramp (negsuc 0) (pos 1))

  pub fad-early : from_zero_lem dur < t2 → first_after t (own_marks dur (Fad t1 t2)) ≡ least (least rise fall) early
  unfolding first_after
  fad-early h = rw (lt-ltb (from_zero_lem dur) t2 h) (ap (λ (m : Option ℤ). least rise (least fall m)) (least-none early) ∙ sym (least_assoc rise fall early))

  pub fad-late : t2 ≤ from_zero_lem dur → first_after t (own_marks dur (Fad t1 t2)) ≡ least rise fall
  unfolding first_after
  fad-late h = rw (le-ltb (from_zero_lem dur) t2 h) (ap (λ (m : Option ℤ). least rise m) (least-none fall))
