-- 02, N4: a numeral with its point shifted is the number that its text, written out so, says by itself.
use mathlib.Core.Path.{◌≡◌, refl, sym, ap, ◌∙◌}
use mathlib.Core.List.{List, [], ◌∷◌, ◌++◌, append_assoc}
use mathlib.Core.Bool.{Bool, true, false, true≢false, false≢true}
use mathlib.Core.Logic.{⊎_elim}
use Prim.Native.Nat.{ℕ, zero, suc, ◌+◌, ◌-◌, ◌*◌, ◌^◌, ◌≤◌, ◌<◌}
use native.Mathlib.Nat.{le_refl, mul-one, mul_assoc, pow-succ', add-zero, sub-zero, zero-mul, le_of_eq, add-sub_cancel_left}
use native.Mathlib.Numerals.{add-one}
use native.Mathlib.Omega.{arith}
use lib.ListN.{length, get_or, take, drop, replicate, length-append, length-drop, length-replicate, take-append-drop}
use lib.Seq.{drop-cons, take_all, take-length, length-take-le, take-append_seam, drop-append_seam, drop-append-add, get_or_at}
use lib.Dec.{ltb, leb}
use lib.IntN.{ℤ, pos, negsuc}
use lib.Ieee.{Float, binary32, round}
use borrow.Author.Tests.{lt-ltb, le-ltb, ne_eqb}
use Rattle.scan.specs.Scan.{pick, digit_of, span, span_to, past}
use Rattle.scan.proofs.Laws.{le_or_lt, none as nothing, span-high}
use Rattle.numeral.specs.declared.Decimal.{Decimal}
use Rattle.numeral.specs.declared.Numeral.{Numeral}
use Rattle.numeral.specs.Numeral.{is_digit, is_sign, is_minus, value, split_at, F32, digit_count, digits_of, before, behind, zeros, float_of, most_digits, limited, exponent_of, with_exponent, f32_of, word_of_f32}
use Rattle.numeral.specs.Spelled.{cut, zeros_before, digits_out, spelled_out, placed, as_spelled}
use Rattle.numeral.proofs.Laws.{f32-plain, whole_is, end_is}
use Rattle.numeral.specs.Inner.{Says}
use Rattle.numeral.proofs.Exponent.{unshifted, power_says}

-- ---- a list of digits

data Digits : List ℕ → Type 0 where
  none : Digits []
  more : {b : ℕ} {l : List ℕ} → is_digit b ≡ true → Digits l → Digits (b ∷ l)

digits_append : {a b : List ℕ} → Digits a → Digits b → Digits (a ++ b)
digits_append none r = r
digits_append (more h l) r = more h (digits_append l r)

digits-take : (n : ℕ) {l : List ℕ} → Digits l → Digits (take n l)
digits-take zero l = none
digits-take (suc n) none = none
digits-take (suc n) (more h l) = more h (digits-take n l)

digits-drop : (n : ℕ) {l : List ℕ} → Digits l → Digits (drop n l)
digits-drop zero l = l
digits-drop (suc n) none = none
digits-drop (suc n) (more h l) = digits-drop n l

digits-zeros : (n : ℕ) → Digits (replicate n 48)
digits-zeros zero = none
digits-zeros (suc n) = more refl (digits-zeros n)

-- the number that they write behind a
abbrev fold : ℕ → List ℕ → ℕ
fold a [] = a
fold a (b ∷ l) = fold (a * 10 + digit_of b) l

fold_append : (k l : List ℕ) (a : ℕ) → fold a (k ++ l) ≡ fold (fold a k) l
fold_append [] l a = refl
fold_append (b ∷ k) l a = fold_append k l (a * 10 + digit_of b)

fold_zeros : (n a : ℕ) → fold a (replicate n 48) ≡ a * 10 ^ n
fold_zeros zero a = sym (mul-one a)
fold_zeros (suc n) a = fold_zeros n (a * 10 + 0) ∙ rw (add-zero, pow-succ', ← mul_assoc a 10 (10 ^ n))

-- how many there are before any other byte
abbrev lead : List ℕ → ℕ
lead [] = 0
lead (b ∷ l) = pick (is_digit b) (suc (lead l)) 0

lead_digits : (n : ℕ) (l : List ℕ) → Digits (take (lead (take n l)) l)
lead_digits zero l = none
lead_digits (suc n) [] = none
lead_digits (suc n) (b ∷ l) = go (is_digit b) refl (lead_digits n l)
  where
    go : (t : Bool) → is_digit b ≡ t → Digits (take (lead (take n l)) l) → Digits (take (pick t (suc (lead (take n l))) 0) (b ∷ l))
    go true e r = more e r
    go false e r = none

lead_point : {p : List ℕ} (q : List ℕ) → Digits p → lead (p ++ 46 ∷ q) ≡ length p
lead_point q none = refl
lead_point q (more h p) = rw h (ap suc (lead_point q p))

lead_all : {l : List ℕ} → Digits l → lead l ≡ length l
lead_all none = refl
lead_all (more h l) = rw h (ap suc (lead_all l))

-- in a text
module _ (s : List ℕ) where
  value_fold : (n i a : ℕ) → n ≤ length s - i → value 10 s n i a ≡ fold a (take n (drop i s))
  unfolding value
  value_fold zero i a h = refl
  value_fold (suc n) i a h = rw (drop-cons s i 0 (omega arith), ← add-one i) (value_fold n (i + 1) (a * 10 + digit_of (get_or s i 0)) (omega arith))

  span_lead : (n i : ℕ) → n ≤ length s - i → span is_digit s n i ≡ i + lead (take n (drop i s))
  unfolding span
  span_lead zero i h = omega arith
  span_lead (suc n) i h = rw (drop-cons s i 0 (omega arith), ← add-one i, span_lead n (i + 1) (omega arith)) (go (is_digit (get_or s i 0)) _)
    where
      go : (t : Bool) (m : ℕ) → pick t (i + 1 + m) i ≡ i + pick t (suc m) 0
      go true m = omega arith
      go false m = omega arith

  span_rest : (i : ℕ) → span_to is_digit s i (length s) ≡ i + lead (drop i s)
  span_rest i = rw (← take_all (length s - i) (drop i s) (rw length-drop (le_refl (length s - i)))) (span_lead (length s - i) i (le_refl (length s - i)))

  -- those from i to j
  module _ (i j b : ℕ) (q : j ≡ span_to is_digit s i b) (h : b ≤ length s) where
    cut_fits : j - i ≤ length s - i
    cut_fits = omega (arith, span-high is_digit s (b - i) i)

    cut-size : length (cut s i j) ≡ j - i
    cut-size = length-take-le (j - i) (drop i s) (rw length-drop cut_fits)

    cut-value : (a : ℕ) → value 10 s (j - i) i a ≡ fold a (cut s i j)
    cut-value a = value_fold (j - i) i a cut_fits

    cut-digits : Digits (cut s i j)
    cut-digits =
        let z : j - i ≡ lead (take (b - i) (drop i s)) = omega (arith, span_lead (b - i) i (omega arith)) in
        rw z (lead_digits (b - i) (drop i s))

-- ---- a sign, or none, and whether it is a minus

data Sign : List ℕ → Bool → Type 0 where
  none : Sign [] false
  one : {c : ℕ} → is_sign c ≡ true → Sign (c ∷ []) (is_minus c)

no_minus : (c : ℕ) → is_sign c ≡ false → is_minus c ≡ false
no_minus c e = ne_eqb c 45 (λ z. true≢false (rw z at e))

no_sign : (c : ℕ) → is_digit c ≡ true → is_sign c ≡ false
no_sign c e = rw (ne_eqb c 43 (λ z. false≢true (rw z at e))) (ne_eqb c 45 (λ z. false≢true (rw z at e)))

is-past : (t : Bool) (a : ℕ) → ltb a (pick t (a + 1) a) ≡ t
is-past true a = lt-ltb a (a + 1) (omega arith)
is-past false a = le-ltb a a (le_refl a)

-- where s has it
sign_of : (s : List ℕ) (a b : ℕ) → b ≤ length s → Sign (cut s a (past is_sign s a b)) (ltb a (past is_minus s a b))
sign_of s a b l = ⊎_elim (λ (h : b ≤ a). rw (le-ltb a b h) empty) (λ (h : a < b). rw (lt-ltb a b h) (go h (get_or s a 0) refl (is_sign (get_or s a 0)) refl)) (le_or_lt b a)
  where
    empty : Sign (cut s a a) (ltb a a)
    empty = rw (is-past false a, nothing a a (le_refl a)) none

    go : a < b → (c : ℕ) → get_or s a 0 ≡ c → (t : Bool) → is_sign c ≡ t → Sign (cut s a (pick t (a + 1) a)) (ltb a (pick (is_minus c) (a + 1) a))
    go h c q true e = rw (add-sub_cancel_left a 1, drop-cons s a 0 (omega arith), q, is-past (is_minus c) a) (one e)
    go h c q false e = rw (no_minus c e) empty

-- at the start of a text
past_first : (p : ℕ → Bool) (c : ℕ) (r : List ℕ) → past p (c ∷ r) 0 (length (c ∷ r)) ≡ pick (p c) 1 0
past_first p c r = rw (lt-ltb 0 (suc (length r)) (omega arith))

first : {g : List ℕ} {m : Bool} {p : List ℕ} (q : List ℕ) → Sign g m → Digits p → (past is_sign (g ++ p ++ 46 ∷ q) 0 (length (g ++ p ++ 46 ∷ q)) ≡ length g) × (ltb 0 (past is_minus (g ++ p ++ 46 ∷ q) 0 (length (g ++ p ++ 46 ∷ q))) ≡ m)
first q none none = (past_first is_sign 46 q, rw (past_first is_minus 46 q))
first q none (more {b} h p) = (rw (past_first is_sign b _, no_sign b h), rw (past_first is_minus b _, no_minus b (no_sign b h)))
first q (one {c} h) p = (rw (past_first is_sign c _, h), rw (past_first is_minus c _) (is-past (is_minus c) 0))

-- ---- a text of sign, digits, point, digits

module _ {g : List ℕ} {m : Bool} {p q : List ℕ} (sg : Sign g m) (dp : Digits p) (dq : Digits q) where
  abbrev text : List ℕ
  text = g ++ p ++ 46 ∷ q

  abbrev at : Decimal
  at = record { from = length g; whole = length g + length p; fraction = length g + length p + 1; end = length g + length p + 1 + length q }

  size : length text ≡ at.end
  size = simp length-append (omega arith)

  behind_sign : drop at.from text ≡ p ++ 46 ∷ q
  behind_sign = rw append_assoc (drop-append_seam g (p ++ 46 ∷ q))

  behind-point : drop at.fraction text ≡ q
  behind-point = rw (← length-append g p) (drop-append-add (g ++ p) (46 ∷ q) 1)

  split-is : at ≡ split_at text 0 (length text)
  unfolding split_at
  split-is =
      rw ((first q sg dp).0, span_rest text at.from, behind_sign, lead_point q dp)
      (rw (lt-ltb at.whole (length text) (omega (arith, size)), get_or_at (g ++ p) 46 q 0 at.whole (length-append g p))
      (rw (span_rest text at.fraction, behind-point, lead_all dq)))

  digits-is : digits_of text at ≡ fold 0 (p ++ q)
  digits-is =
      simp add-sub_cancel_left
      (rw (value_fold text (length p) at.from 0 (omega (arith, size)), behind_sign, take-append_seam p (46 ∷ q), value_fold text (length q) at.fraction (fold 0 p) (omega (arith, size)), behind-point, take-length q)
      (sym (fold_append p q 0)))

  plain : ¬ (length p + length q ≡ 0) → f32_of text 0 (length text) ≡ pick (leb (length p) most_digits) (pick (leb (length q) most_digits) (F32.number (round binary32 m (fold 0 (p ++ q)) (10 ^ length q))) (F32.too_long_lem 0)) (F32.too_long_lem 0)
  plain h =
      sym (f32-plain text 0 (length text) at split-is (simp add-sub_cancel_left h) (le_of_eq size))
      ∙ rw (← unshifted text 0 (length text) at, digits-is, (first q sg dp).1) (simp (add-sub_cancel_left, add-zero, sub-zero))

-- ---- 02, N4: the numeral written out

-- the digits are those before the point and those behind it
spread : (w f : ℕ) (x : ℤ) → zeros_before w x + w + f + zeros f x ≡ before w x + behind f x
spread w f (pos n) = omega arith
spread w f (negsuc n) = omega arith

module _ (s : List ℕ) (a b : ℕ) (d : Decimal) (q : d ≡ split_at s a b) (l : b ≤ length s) (h : ¬ (digit_count d ≡ 0)) (x : ℤ) where
  abbrev n : ℕ
  n = before (d.whole - d.from) x

  abbrev ds : List ℕ
  ds = digits_out s d x

  out_sign : Sign (cut s a d.from) (ltb a (past is_minus s a b))
  unfolding split_at
  out_sign = rw q (sign_of s a b l)

  out-digits : Digits ds
  unfolding digits_out
  out-digits = digits_append (digits_append (digits_append (digits-zeros (zeros_before (d.whole - d.from) x)) (cut-digits s _ _ b (whole_is s a b d q) l)) (cut-digits s _ _ b (end_is s a b d q) l)) (digits-zeros (zeros (d.end - d.fraction) x))

  out-size : length ds ≡ n + behind (d.end - d.fraction) x
  unfolding digits_out
  out-size = simp (length-append, length-replicate, cut-size s _ _ b (whole_is s a b d q) l, cut-size s _ _ b (end_is s a b d q) l) (spread (d.whole - d.from) (d.end - d.fraction) x)

  out-value : fold 0 ds ≡ digits_of s d * 10 ^ zeros (d.end - d.fraction) x
  unfolding digits_out
  out-value = simp (fold_append, fold_zeros, zero-mul, cut-value s _ _ b (whole_is s a b d q) l, cut-value s _ _ b (end_is s a b d q) l)

  as-spelled : f32_of (spelled_out s a d x) 0 (length (spelled_out s a d x)) ≡ limited 0 d x (float_of s a b d x)
  unfolding spelled_out float_of
  as-spelled =
      let e : length (take n ds) ≡ n = length-take-le n ds (omega (arith, out-size)) in
      let k : length (drop n ds) ≡ behind (d.end - d.fraction) x = length-drop n ds ∙ omega (arith, out-size) in
      plain out_sign (digits-take n out-digits) (digits-drop n out-digits) (λ z. h (omega (arith, e, k, spread (d.whole - d.from) (d.end - d.fraction) x)))
      ∙ rw (e, k, take-append-drop n ds, out-value)

-- at its place
place-limited : (a : ℕ) (d : Decimal) (x : ℤ) (y : Float) → placed a (limited 0 d x y) ≡ limited a d x y
place-limited a d x y = go (leb (before (d.whole - d.from) x) most_digits) (leb (behind (d.end - d.fraction) x) most_digits)
  where
    go : (t u : Bool) → placed a (pick t (pick u (F32.number y) (F32.too_long_lem 0)) (F32.too_long_lem 0)) ≡ pick t (pick u (F32.number y) (F32.too_long_lem a)) (F32.too_long_lem a)
    go true true = refl
    go true false = ap F32.too_long_lem (add-zero a)
    go false u = ap F32.too_long_lem (add-zero a)

pub says_as_spelled : (s : List ℕ) (a b : ℕ) (d : Decimal) → d ≡ split_at s a b → b ≤ length s → ¬ (digit_count d ≡ 0) → with_exponent s a b d (float_of s a b d) ≡ as_spelled s a b d
says_as_spelled s a b d q l h =
    let x = exponent_of s d.end b in
    rw (as-spelled s a b d q l h x, place-limited a d x (float_of s a b d x))

-- what `numeral::limited` promises of a word
pub says : (s : List ℕ) (a b : ℕ) → b ≤ length s → 0 < digit_count (split_at s a b) → {r : Numeral} → r ≡ word_of_f32 (with_exponent s a b (split_at s a b) (float_of s a b (split_at s a b))) → Says s a b (split_at s a b) r
says s a b l h e =
    let d = split_at s a b in
    record { out = e; power = e ∙ ap word_of_f32 (power_says s a b d); text = e ∙ ap word_of_f32 (says_as_spelled s a b d refl l (λ z. omega arith)) }
