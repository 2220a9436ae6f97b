-- Where fields end, and the numerals in them.
use mathlib.Core.Path.{◌≡◌, refl}
use mathlib.Core.List.{List}
use mathlib.Core.Bool.{Bool, true, false, not, true≢false}
use mathlib.Core.Logic.{◌⊎◌, inl, inr, ⊎_elim}
use Prim.Native.Nat.{ℕ, zero, suc, ◌+◌, ◌-◌, ◌≤◌, ◌<◌}
use native.Mathlib.Omega.{arith}
use native.Mathlib.Nat.{le_trans}
use lib.ListN.{get_or}
use lib.Dec.{eqb}
use Rattle.scan.specs.Scan.{pick, other, is_blank, blank_before, span, span_to, skip_back, trim_start, trim_end}
use Rattle.scan.proofs.Bounds.{tested, trim_start-low, trim_end-high}
use Rattle.numeral.specs.Numeral.{too_long_lem, f32_at}
use Rattle.survey.specs.Survey.{is_stop, Unplain}
use Rattle.survey.proofs.Laws.{unplain_wider}
use Rattle.survey.proofs.Long.{Ends, blank_stops, byte_stops, long_unplain}

-- what is trimmed from the end begins with a blank
skip_back_blank : (s : List ℕ) (i n e : ℕ) → (skip_back s i n e ≡ e) ⊎ (is_blank (get_or s (skip_back s i n e) 0) ≡ true)
unfolding skip_back blank_before
skip_back_blank s i zero e = inl refl
skip_back_blank s i (suc n) e = tested (λ (w : ℕ). Trimmed (pick (eqb w 0) e (skip_back s i n (e - w)))) i e (λ (l : i < e). blank (is_blank (get_or s (e - 1) 0)) refl (skip_back_blank s i n (e - 1))) (λ (l : e ≤ i). inl refl)
  where
    Trimmed : ℕ → Type 0
    Trimmed r = (r ≡ e) ⊎ (is_blank (get_or s r 0) ≡ true)

    blank : (t : Bool) → is_blank (get_or s (e - 1) 0) ≡ t → (skip_back s i n (e - 1) ≡ e - 1) ⊎ (is_blank (get_or s (skip_back s i n (e - 1)) 0) ≡ true) → Trimmed (pick (eqb (pick t 1 0) 0) e (skip_back s i n (e - pick t 1 0)))
    blank true q f = ⊎_elim (λ (z : skip_back s i n (e - 1) ≡ e - 1). inr (rw z q)) (λ (z : is_blank (get_or s (skip_back s i n (e - 1)) 0) ≡ true). inr z) f
    blank false q f = inl refl

pub trim_ends : (s : List ℕ) (top i q : ℕ) → Ends s top q → Ends s top (trim_end s i q)
trim_ends s top i q f = ⊎_elim (λ (z : trim_end s i q ≡ q). rw z f) (λ (z : is_blank (get_or s (trim_end s i q) 0) ≡ true). inr (blank_stops _ z)) (skip_back_blank s i (q - i) q)

-- a scan stops at a byte that is not of the class, or at the end
span_stops : (p : ℕ → Bool) (s : List ℕ) (n i : ℕ) → (span p s n i ≡ i + n) ⊎ (p (get_or s (span p s n i) 0) ≡ false)
unfolding span
span_stops p s zero i = inl (omega arith)
span_stops p s (suc n) i = go (p (get_or s i 0)) refl (span_stops p s n (i + 1))
  where
    go : (t : Bool) → p (get_or s i 0) ≡ t → (span p s n (i + 1) ≡ i + 1 + n) ⊎ (p (get_or s (span p s n (i + 1)) 0) ≡ false) → (pick t (span p s n (i + 1)) i ≡ i + suc n) ⊎ (p (get_or s (pick t (span p s n (i + 1)) i) 0) ≡ false)
    go true e f = ⊎_elim (λ (z : span p s n (i + 1) ≡ i + 1 + n). inl (omega arith)) (λ z. inr z) f
    go false e f = inr e

-- where it stops a field ends
pub span-ends : (p : ℕ → Bool) (s : List ℕ) (top i e : ℕ) → ((b : ℕ) → p b ≡ false → is_stop b ≡ true) → i ≤ e → Ends s top e → Ends s top (span_to p s i e)
span-ends p s top i e g h f =
    let z : i + (e - i) ≡ e = omega arith in
    ⊎_elim (λ (k : span_to p s i e ≡ i + (e - i)). rw (k, z) f) (λ (k : p (get_or s (span_to p s i e) 0) ≡ false). inr (g _ k)) (span_stops p s (e - i) i)

pub not_stops : (c : ℕ) → is_stop c ≡ true → (b : ℕ) → other c b ≡ false → is_stop b ≡ true
not_stops c f b e = go (eqb b c) refl e
  where
    go : (t : Bool) → eqb b c ≡ t → not t ≡ false → is_stop b ≡ true
    go true q r = byte_stops b c q f
    go false q r = absurd (true≢false r)

-- a numeral that is too long stands in a text that is not plain
pub late_unplain : (s : List ℕ) (top p q k : ℕ) → q ≤ top → Ends s top q → f32_at s p q ≡ too_long_lem k → Unplain s top p q
late_unplain s top p q k h f e =
    let a = trim_start s p q in
    unplain_wider (trim_start-low s p q) (trim_end-high s a q) (long_unplain s top a (trim_end s a q) (le_trans (trim_end-high s a q) h) (trim_ends s top a q f) k e)
