-- A clip argument's parts, by the ways through the code.
use mathlib.Core.Path.{◌≡◌, refl}
use mathlib.Core.Bool.{Bool, true, false}
use mathlib.Core.Logic.{⊎_elim}
use mathlib.Core.List.{List}
use Prim.Native.Nat.{ℕ, zero, suc, ◌+◌, ◌≤◌, ◌<◌, min, max}
use native.Mathlib.Omega.{arith}
use native.Mathlib.Nat.{le_trans, lt_of_lt_of_le, min-le_right}
use lib.Dec.{lit≤}
use lib.ListN.{length, get_or}
use borrow.Author.Tests.{lt-ltb, le-ltb, ne_eqb}
use Rattle.scan.specs.Scan.{pick, other, span_to, past, trim_start, trim_end}
use Rattle.scan.proofs.Laws.{le_or_lt, span-stop}
use Rattle.scan.proofs.Bounds.{trim_end-high}
use Rattle.numeral.specs.Numeral.{is_digit, whole_number, most}
use Rattle.numeral.proofs.Laws.{uncapped}
use Rattle.clips.specs.Clip.{too_large, at_least_one, clip, clip_parts}

-- "at least 1"
pub max_one : (n : ℕ) → max n 1 ≡ at_least_one n
max_one zero = refl
max_one (suc n) = grind arith

-- what does not begin with a digit is no whole number
no_whole : (s : List ℕ) (i e : ℕ) → (i < e → is_digit (get_or s i 0) ≡ false) → whole_number 10 s i e ≡ most
unfolding whole_number
no_whole s i e f =
    ⊎_elim
    (λ (h : e ≤ i). rw (le-ltb i e h))
    (λ (h : i < e).
    let z : span_to is_digit s i e ≡ i = span-stop is_digit s i e h (f h) in
    rw (lt-ltb i e h, z, ne_eqb i e (λ q. omega arith)))
    (le_or_lt e i)

-- and has no scale
pub clip_bare : (s : List ℕ) {a : ℕ} → a ≡ trim_start s 0 (length s) → past is_digit s a (length s) ≡ a → clip 1 a (length s) ≡ clip_parts s
unfolding clip_parts
clip_bare s {a} ea h =
    let m = span_to (other 44) s a (length s) in
    ⊎_elim
    (λ (l : length s ≤ m). rw (← ea, le-ltb m (length s) l))
    (λ (l : m < length s). rw (← ea, lt-ltb m (length s) l, no_whole s a (trim_end s a m) (λ k. no_digit l k)))
    (le_or_lt (length s) m)
  where
    no_digit : span_to (other 44) s a (length s) < length s → a < trim_end s a (span_to (other 44) s a (length s)) → is_digit (get_or s a 0) ≡ false
    no_digit l k = go (is_digit (get_or s a 0)) (rw (lt-ltb a (length s) (omega (arith, trim_end-high s a (span_to (other 44) s a (length s))))) at h)
      where
        go : (t : Bool) → pick t (a + 1) a ≡ a → t ≡ false
        go true e = absurd (omega arith)
        go false e = refl

module _ (s : List ℕ) {a m : ℕ} (ea : a ≡ trim_start s 0 (length s)) (em : m ≡ span_to (other 44) s a (length s)) where
  pub clip-none : length s ≤ m → clip 1 a (length s) ≡ clip_parts s
  unfolding clip_parts
  clip-none l = rw (← ea, ← em, le-ltb m (length s) l)

  module _ {h n : ℕ} (eh : h ≡ trim_end s a m) (en : n ≡ min most (whole_number 10 s a h)) (l : m < length s) where
    pub clip-large : too_large ≤ n → clip 1 a (length s) ≡ clip_parts s
    unfolding clip_parts
    clip-large g =
        let z : too_large ≤ whole_number 10 s a h = le_trans g (rw en (min-le_right most (whole_number 10 s a h))) in
        rw (← ea, ← em, ← eh, lt-ltb m (length s) l, le-ltb (whole_number 10 s a h) too_large z)

    pub clip-some : {r k : ℕ} → n < too_large → r ≡ trim_start s (m + 1) (length s) → k ≡ at_least_one n → clip k r (length s) ≡ clip_parts s
    unfolding clip_parts
    clip-some {r} {k} g er ek =
        let z : whole_number 10 s a h ≡ n = uncapped most (whole_number 10 s a h) n en (lt_of_lt_of_le g (lit≤ tt)) in
        rw (← ea, ← em, ← eh, ← er, lt-ltb m (length s) l, z, lt-ltb n too_large g, ek)
