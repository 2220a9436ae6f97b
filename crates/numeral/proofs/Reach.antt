-- Every number that a numeral gives is finite and at most 1,000,000,000 in size; its word fits 32 bits and stands for it.
use mathlib.Core.Path.{◌≡◌, refl, subst}
use mathlib.Core.List.{List}
use mathlib.Core.Bool.{Bool, true, false}
use Prim.Native.Nat.{ℕ, ◌-◌, ◌*◌, ◌^◌, ◌≤◌, ◌<◌}
use native.Mathlib.Nat.{le_of_lt, one-le-pow}
use lib.Dec.{T, ltb, leb, eqb, lit<}
use lib.IntN.{ℤ}
use lib.Ieee.{Float, binary32, to_bits, of_bits}
use lib.Ieee.Bits.{to_bits-lt, of_bits-to_bits}
use lib.Ieee.Fits.{round-fits}
use borrow.Author.Tests.{leb-true}
use Rattle.scan.specs.Scan.{pick, past}
use Rattle.scan.proofs.Laws.{picked}
use Rattle.float.specs.Float.{in_reach_lem}
use Rattle.float.proofs.Reach.{fraction-in_reach as in_reach}
use Rattle.numeral.specs.declared.Decimal.{Decimal}
use Rattle.numeral.specs.Numeral.{is_minus, split_at, F32, digit_count, digits_of, before, behind, zeros, float_of, most_digits, limited, most_exponent_digits, exponent_start, exponent_of, ends_at, f32_of}
use Rattle.numeral.proofs.Laws.{digits-below}
use Rattle.numeral.proofs.Exponent.{shift_below}

pub record Bounded (x : Float) : Type 0 where
  pub reach : T (in_reach_lem x)
  pub word : to_bits binary32 x < 2 ^ 32
  pub back : of_bits binary32 (to_bits binary32 x) ≡ x

-- what is shown of an answer
abbrev Fine : F32 → Type 0
Fine F32.none = Unit
Fine (F32.too_long_lem p) = Unit
Fine (F32.number x) = Bounded x

module _ (s : List ℕ) (a b : ℕ) where
  abbrev d : Decimal
  d = split_at s a b

  float_reached : (x : ℤ) → before (d.whole - d.from) x ≤ 9 → Bounded (float_of s a b d x)
  unfolding float_of
  float_reached x n =
      let minus = ltb a (past is_minus s a b) in
      let f = d.end - d.fraction in
      let tens = 10 ^ behind f x in
      let v = digits_of s d * 10 ^ zeros f x in
      let g = round-fits binary32 minus v tens in
      record {
        reach = in_reach minus v tens (one-le-pow (behind f x) 10 (lit< tt)) (le_of_lt (shift_below (digits_of s d) (d.whole - d.from) f x (digits-below s a b d refl) n));
        word = to_bits-lt binary32 (float_of s a b d x) g;
        back = of_bits-to_bits binary32 (float_of s a b d x) g;
      }

  limited_reached : (x : ℤ) → Fine (limited a d x (float_of s a b d x))
  limited_reached x = go (leb (before (d.whole - d.from) x) most_digits) refl
    where
      go : (t : Bool) → leb (before (d.whole - d.from) x) most_digits ≡ t → Fine (pick t (pick (leb (behind (d.end - d.fraction) x) most_digits) (F32.number (float_of s a b d x)) (F32.too_long_lem a)) (F32.too_long_lem a))
      go true e = picked Fine (leb (behind (d.end - d.fraction) x) most_digits) _ _ (float_reached x (leb-true _ _ e)) tt
      go false e = tt

  reached : Fine (f32_of s a b)
  unfolding f32_of
  reached =
      picked Fine (eqb (digit_count d) 0) _ _ tt
      (picked Fine (ends_at s d.end b) _ _ (picked Fine (leb (b - exponent_start s d.end b) most_exponent_digits) _ _ (limited_reached (exponent_of s d.end b)) tt) tt)

  pub number-in_reach : (x : Float) → f32_of s a b ≡ F32.number x → Bounded x
  number-in_reach x q = subst Fine q reached
