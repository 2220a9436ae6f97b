-- An i32 in two's complement, and back.
use Rattle.std.proofs.Common.{◌≡◌, ℕ, suc, ◌-◌, ◌^◌, Bool, true, false, cond, T, ltb, ℤ, pos, negsuc, nat_abs, sym, refl, ap, ◌∙◌, true≢false, w32, to_z-of_z, Fits, SFits, to_z}
use lib.Signed.{le_z, non_neg}
use mir.Val.{sel}
use mir.Facts.{Fits-nat_abs}
use Rattle.float.specs.Float.{to_word, of_word}

-- ---- a signed number's bits: y is the number as the code reads it
pub up_case : (y z : ℤ) → y ≡ z → SFits w32 y → le_z (pos 0) y ≡ true → (T (non_neg y) × Fits w32 (nat_abs y)) × (nat_abs y ≡ to_word z)
up_case (pos n) z e f t = ((tt, Fits-nat_abs tt f), ap to_word e)
up_case (negsuc n) z e f t = absurd (true≢false (sym t))

-- ---- the signed number of some bits
pub signed_is : (n : ℕ) → to_z w32 n ≡ of_word n
unfolding of_word
signed_is n = go (ltb n (2 ^ 31))
  where
    go : (t : Bool) → sel t (pos n) (negsuc (2 ^ 32 - suc n)) ≡ cond t (pos n) (negsuc (2 ^ 32 - suc n))
    go true = refl
    go false = refl

-- ---- there and back
pub of_word-to_word : (z : ℤ) → SFits w32 z → of_word (to_word z) ≡ z
of_word-to_word (pos n) f = sym (signed_is n) ∙ to_z-of_z f
of_word-to_word (negsuc n) f = sym (signed_is (2 ^ 32 - suc n)) ∙ to_z-of_z f
