-- A number inside a longer text: the same number, and a numeral that is too long moved on.
use mathlib.Core.Path.{◌≡◌, refl, ap}
use mathlib.Core.List.{List, [], ◌∷◌}
use Prim.Native.Nat.{ℕ, zero, suc, ◌+◌, ◌-◌, ◌*◌, ◌≤◌}
use native.Mathlib.Omega.{arith}
use lib.IntN.{ℤ}
use lib.ListN.{get_or}
use lib.Dec.{leb, eqb}
use Rattle.scan.specs.Scan.{digit_of, digit, one_of, other}
use Rattle.numeral.specs.declared.Decimal.{Decimal}
use Rattle.numeral.specs.Numeral.{is_digit, is_sign, is_minus, is_plus, is_point, is_e, value, whole_number, i32_of, i32_at, hex_at, split_at, exponent_at, F32, too_long_lem, number, digit_count, before, behind, float_of, limited, exponent_start, exponent_of, ends_at, f32_of, f32_at}
use Rattle.colour.specs.declared.Stretch as Colour
use Rattle.colour.specs.Colour.{is_ampersand, trimmed, ampersands, zero_xat, digits, alpha_at, colour_at}
use Rattle.colour.proofs.Laws.{zero_x_fits}
use Rattle.lists.specs.Lists.{Stretch, comma_to, split, parts}
use Rattle.read.proofs.MovedScan.{Window, On, either, if_le, if_lt, next, gap, ltb_on, eqb_on, byte, span_on, back_on, skip_on, past_on, trim_start_on, trim_end_on}

-- a numeral, k bytes further on
abbrev pub moved_f32 : ℕ → F32 → F32
moved_f32 k F32.none = F32.none
moved_f32 k (too_long_lem p) = too_long_lem (k + p)
moved_f32 k (number x) = number x

-- where the digits of a numeral stand
record Splits (k n : ℕ) (d' d : Decimal) : Type 0 where
  from : On k n d'.from d.from
  whole : On k n d'.whole d.whole
  fraction : On k n d'.fraction d.fraction
  end : On k n d'.end d.end

-- a part that is left of a text
record Left (k n : ℕ) (x' x : Colour.Stretch) : Type 0 where
  from : On k n x'.from x.from
  to : On k n x'.to x.to

-- the parts of a comma list
pub data Parts (k n : ℕ) : List Stretch → List Stretch → Type 0 where
  none : Parts k n [] []
  more : {x' x : Stretch} {l' l : List Stretch} → On k n x'.from x.from → On k n x'.to x.to → Parts k n l' l → Parts k n (x' ∷ l') (x ∷ l)

module _ {w s : List ℕ} {k n : ℕ} (v : Window w s k n) where
  value_on : (radix m : ℕ) {i' i : ℕ} (a : ℕ) → On k n i' i → i + m ≤ n → value radix w m i' a ≡ value radix s m i a
  unfolding value
  value_on radix zero a h l = refl
  value_on radix (suc m) {i'} {i} a h l = rw (byte v h (omega arith)) (value_on radix m (a * radix + digit_of (get_or s i 0)) (next h (omega arith)) (omega arith))

  module _ {i' i e' e : ℕ} (h : On k n i' i) (g : On k n e' e) where
    value-to : (radix a : ℕ) → value radix w (e' - i') i' a ≡ value radix s (e - i) i a
    value-to radix a = rw (gap h g) (value_on radix (e - i) a h (omega arith))

    whole_on : (radix : ℕ) → whole_number radix w i' e' ≡ whole_number radix s i e
    unfolding whole_number
    whole_on radix = rw (ltb_on h g, eqb_on (span_on v h g (digit radix)) g, value-to radix 0)

  module _ {a' a b' b : ℕ} (h : On k n a' a) (g : On k n b' b) where
    i32_of_on : i32_of w a' b' ≡ i32_of s a b
    unfolding i32_of
    i32_of_on = rw (eqb_on (past_on v h g is_minus) h, whole_on (past_on v h g is_sign) g 10)

    hex_on : hex_at w a' b' ≡ hex_at s a b
    unfolding hex_at
    hex_on = rw (whole_on (past_on v h g is_plus) g 16)

    split_on : Splits k n (split_at w a' b') (split_at s a b)
    unfolding split_at
    split_on =
        let i = past_on v h g is_sign in
        let d = span_on v i g is_digit in
        let f = past_on v d g is_point in
        record { from = i; whole = d; fraction = f; end = span_on v f g is_digit }

    exponent_on : exponent_at w a' b' ≡ exponent_at s a b
    unfolding exponent_at
    exponent_on =
        let x = past_on v h g is_e in
        let d = past_on v x g is_sign in
        rw (ltb_on h x, ltb_on d g, eqb_on (span_on v d g is_digit) g)

    exponent_start_on : On k n (exponent_start w a' b') (exponent_start s a b)
    exponent_start_on = past_on v (past_on v h g is_e) g is_sign

    exponent_of_on : exponent_of w a' b' ≡ exponent_of s a b
    exponent_of_on =
        let x = past_on v h g is_e in
        rw (ltb_on x (past_on v x g is_minus), value-to exponent_start_on g 10 0)

    float_on : {d' d : Decimal} (x : ℤ) → Splits k n d' d → float_of w a' b' d' x ≡ float_of s a b d x
    unfolding float_of
    float_on x d = rw (ltb_on h (past_on v h g is_minus), value-to d.from d.whole 10 0, value-to d.fraction d.end 10 (value 10 s _ _ 0), gap d.fraction d.end)

  module _ {a' a b' b : ℕ} (h : On k n a' a) (g : On k n b' b) where
    f32_of_on : f32_of w a' b' ≡ moved_f32 k (f32_of s a b)
    unfolding f32_of
    f32_of_on =
        let d = split_at s a b in
        let r = split_on h g in
        let x = exponent_of s d.end b in
        rw (exponent_of_on r.end g, gap (exponent_start_on r.end g) g, float_on h g x r, exponent_on r.end g, gap r.from r.whole, gap r.fraction r.end, ltb_on r.end g)
        (either F (eqb (digit_count d) 0) refl (either F (ends_at s d.end b) (either F (leb (b - exponent_start s d.end b) 2) (limited_on x) late) refl))
      where
        F : F32 → F32 → Type 0
        F x y = x ≡ moved_f32 k y

        late : too_long_lem a' ≡ too_long_lem (k + a)
        late = ap too_long_lem h.is

        limited_on : (x : ℤ) → limited a' (split_at s a b) x (float_of s a b (split_at s a b) x) ≡ moved_f32 k (limited a (split_at s a b) x (float_of s a b (split_at s a b) x))
        limited_on x =
            let d = split_at s a b in
            either F (leb (before (d.whole - d.from) x) 9) (either F (leb (behind (d.end - d.fraction) x) 9) refl late) late

    trimmed_on : Left k n (trimmed w a' b') (trimmed s a b)
    unfolding trimmed
    trimmed_on =
        let x = trim_start_on v h g in
        record { from = x; to = trim_end_on v x g }

    ampersands_on : Left k n (ampersands w a' b') (ampersands s a b)
    unfolding ampersands
    ampersands_on =
        let x = span_on v h g is_ampersand in
        record { from = x; to = back_on v x g is_ampersand }

    zero_x_on : zero_xat w a' b' ≡ zero_xat s a b
    unfolding zero_xat
    zero_x_on = rw (gap h g) (if_le ◌≡◌ 2 (b - a) (λ l. rw (byte v h (omega arith), byte v (next h (omega arith)) (omega arith))) refl)

  module _ {p' p q' q : ℕ} (h : On k n p' p) (g : On k n q' q) where
    digits_on : Left k n (digits w p' q') (digits s p q)
    unfolding digits
    digits_on =
        let t = trimmed_on h g in
        let u = ampersands_on t.from t.to in
        let x = span_on v u.from u.to (one_of 72 104) in
        record { from = skip_on v zero_xat zero_x_fits (λ i' i e' e h g. zero_x_on h g) x u.to; to = u.to }

    pub alpha_on : alpha_at w p' q' ≡ alpha_at s p q
    unfolding alpha_at
    alpha_on =
        let d = digits_on in
        let u = ampersands_on d.from d.to in
        let t = trimmed_on u.from u.to in
        rw (hex_on t.from t.to)

    pub colour_on : colour_at w p' q' ≡ colour_at s p q
    unfolding colour_at
    colour_on =
        let d = digits_on in
        let t = trimmed_on d.from (back_on v d.from d.to is_ampersand) in
        rw (hex_on t.from t.to)

    pub i32_on : i32_at w p' q' ≡ i32_at s p q
    i32_on =
        let a = trim_start_on v h g in
        i32_of_on a (trim_end_on v a g)

    pub f32_on : f32_at w p' q' ≡ moved_f32 k (f32_at s p q)
    f32_on =
        let a = trim_start_on v h g in
        f32_of_on a (trim_end_on v a g)

  -- `split(',')`
  split_from : (m : ℕ) {p' p e' e : ℕ} → On k n p' p → On k n e' e → Parts k n (split w e' m p') (split s e m p)
  unfolding split
  split_from zero h g = more h g none
  split_from (suc m) {p'} {p} {e'} {e} h g =
      let c = span_on v h g (other 44) in
      rw (ltb_on c g) (if_lt (Parts k n) (comma_to s p e) e (λ l. more h c (split_from m (next c (omega arith)) g)) (more h c none))

  pub parts_on : {p' p e' e : ℕ} → On k n p' p → On k n e' e → Parts k n (parts w p' e') (parts s p e)
  parts_on {p'} {p} {e'} {e} h g = rw (gap h g) (split_from (e - p) h g)
