-- 02, N8: opacity stays within 0 to 1, through any nesting and any acceleration, and is 1 where no \fad or \fade stands.
use mathlib.Core.Path.{◌≡◌, refl, ap, ◌∙◌}
use mathlib.Core.Bool.{Bool, true, false, cond}
use mathlib.Core.List.{List, [], ◌∷◌}
use Prim.Native.Nat.{ℕ, zero, suc, ◌-◌, ◌^◌, ◌≤◌}
use native.Mathlib.Nat.{min-le_right}
use native.Mathlib.Omega.{arith}
use lib.Dec.{lit≤, eqb, leb, ltb}
use lib.IntN.{ℤ, pos, negsuc, ◌-ℤ◌, nat_abs}
use lib.Signed.{le_z, lt_z}
use lib.ListN.{length, get_or, take, drop}
use lib.Ieee.{Float, nan, inf, fin, binary32, mul, to_bits}
use lib.Ieee.Bits.{of_bits-to_bits}
use lib.Ieee.Casts.{to_unsigned-lt}
use borrow.Author.Tests.{ltb-true, ltb-false, leb-false, eqb-true, eqb-false, ne_eqb}
use Rattle.scan.specs.Scan.{pick}
use Rattle.scan.proofs.Laws.{picked}
use Rattle.float.specs.Float.{zero as +0, one, reach, clamp, lerp, of_word}
use Rattle.float.proofs.Unit.{Unit, Share, unit-zero, unit-one, unit-mul, unit-lerp, lerp-one, unit-rest, unit-quotient, unit-clamp, share_of, share_clamp, in_unit, unit_word}
use Rattle.refusal.specs.Refusal.{Checked}
use Rattle.std.specs.Prelude.{Ok, Err}
use Rattle.tag.specs.declared.Record.{Record}
use Rattle.tag.specs.Tag.{Times, absent, times}
use Rattle.tag.specs.WellFormed.{All, all, more, t_kind, holds, records_of}
use Rattle.tag.specs.Decode.{f, z, times_of, decode_one, decode_in, decoders, tags_of}
use Rattle.tag.proofs.Formed.{all_take, all_drop, all_map}
use Rattle.tag.proofs.Decoding.{decode-single, decode-nest}
use Rattle.tag.proofs.ByKind.{over, everywhere, decode-past}
use Rattle.table.specs.Inner.{of_kind}
use Rattle.table.specs.Ground.{call_ground, Fine}
use Rattle.table.proofs.Grounds.{in_time-size, good-fine, fine-good}
use Rattle.state.specs.declared.RenderState.{RenderState}
use Rattle.state.specs.State.{identity}
use Rattle.state.specs.Mix.{quotient, advance, start_of, end_of, accel_of, bent, held, factor, lerp_bytes, cut_between, between, mix_always}
use Rattle.state.specs.Apply.{from_zero_lem, fade_in, fade_out, fad_alpha, byte, fade_alpha, alpha_to_mul, faded, apply_own, apply_tags, evaluate_at}
use Rattle.ramp.proofs.Ints.{dist}
use Rattle.ramp.proofs.Between.{unit-between}
use Rattle.evaluators.proofs.Turns.{apply_none, apply-own, apply_around}
use Rattle.words.specs.Words.{state_words}
use Rattle.evaluate.specs.Evaluate.{evaluated_or, evaluated_to, evaluated, opacity_of, NoFade, NoFades, Opacity, state_after, OpacityWord}

-- the opacity of a state
abbrev opacity : RenderState → Float
opacity st = st.always.alpha_mul

-- ---- \fad

from_zero : (x : ℤ) → nat_abs x ≤ reach → from_zero_lem x ≤ reach
from_zero (pos n) h = h
from_zero (negsuc n) h = omega arith

unit_in : (t1 n : ℕ) → n ≤ reach → Unit (fade_in t1 n)
unfolding fade_in quotient
unit_in t1 n h = go (ltb n t1) refl
  where
    go : (b : Bool) → ltb n t1 ≡ b → Unit (pick b (quotient (pos n) (pos t1)) one)
    go true e = let l = ltb-true n t1 e in unit-quotient n t1 (omega arith) (omega arith) (omega arith)
    go false e = unit-one

unit-out : (t2 n d : ℕ) → d ≤ reach → Unit (fade_out t2 n d)
unfolding fade_out quotient
unit-out t2 n d h = go (eqb t2 0) (leb d n) (ltb (d - t2) n) refl refl refl
  where
    go : (a b c : Bool) → eqb t2 0 ≡ a → leb d n ≡ b → ltb (d - t2) n ≡ c → Unit (pick a one (pick b +0 (pick c (clamp (quotient (pos (d - n)) (pos t2)) +0 one) one)))
    go true b c p q r = unit-one
    go false true c p q r = unit-zero
    go false false false p q r = unit-one
    go false false true p q r =
        let l = ltb-true (d - t2) n r in
        let k = leb-false d n q in
        let w = eqb-false t2 0 p in
        unit-clamp (quotient (pos (d - n)) (pos t2)) (unit-quotient (d - n) t2 (omega (arith, w)) (omega arith) (omega arith))

module _ (t dur : ℤ) (ht : nat_abs t ≤ reach) (hd : nat_abs dur ≤ reach) where
  unit-fad : (t1 t2 : ℕ) → Unit (fad_alpha t1 t2 t dur)
  unfolding fad_alpha
  unit-fad t1 t2 =
      let x = fade_in t1 (from_zero_lem t) in
      let y = fade_out t2 (from_zero_lem t) (from_zero_lem dur) in
      unit-clamp (mul binary32 x y) (unit-mul x y (unit_in t1 (from_zero_lem t) (from_zero t ht)) (unit-out t2 (from_zero_lem t) (from_zero_lem dur) (from_zero dur hd)))

-- ---- \fade

cut-between : (a b : ℕ) (k : Float) → cut_between a b k ≤ 255
unfolding cut_between
cut-between a b k = let h = to_unsigned-lt 8 (lerp_bytes a b k) in omega arith

fade-byte : (a1 a2 a3 : ℕ) (t1 t2 t3 t4 t : ℤ) → a1 ≤ 255 → a2 ≤ 255 → a3 ≤ 255 → fade_alpha a1 a2 a3 t1 t2 t3 t4 t ≤ 255
unfolding fade_alpha
fade-byte a1 a2 a3 t1 t2 t3 t4 t h1 h2 h3 =
    let Byte : ℕ → Type 0 = λ n. n ≤ 255 in
    picked Byte (lt_z t t1) a1 _ h1 (picked Byte (lt_z t t2) _ _ (cut-between a1 a2 _) (picked Byte (lt_z t t3) a2 _ h2 (picked Byte (lt_z t t4) _ a3 (cut-between a2 a3 _) h3)))

unit-alpha : (a : ℕ) → a ≤ 255 → Unit (alpha_to_mul a)
unfolding alpha_to_mul
unit-alpha a h = unit-rest _ (unit-quotient a 255 (omega arith) h (omega arith))

unit-fade : (a1 a2 a3 : ℕ) (t1 t2 t3 t4 t : ℤ) → Unit (alpha_to_mul (fade_alpha (byte a1) (byte a2) (byte a3) t1 t2 t3 t4 t))
unit-fade a1 a2 a3 t1 t2 t3 t4 t = unit-alpha _ (fade-byte (byte a1) (byte a2) (byte a3) t1 t2 t3 t4 t (min-le_right a1 255) (min-le_right a2 255) (min-le_right a3 255))

-- ---- how far a \t has come

-- a start is no further off than a word can say
start-size : (flag a b : ℕ) → nat_abs (start_of (times_of flag a b)) ≤ 2 ^ 31
unfolding of_word
start-size flag a b = picked (λ (x : Times). nat_abs (start_of x) ≤ 2 ^ 31) (eqb flag 0) absent (times (z a) (z b)) (lit≤ tt) (go (ltb a (2 ^ 31)) refl)
  where
    go : (c : Bool) → ltb a (2 ^ 31) ≡ c → nat_abs (cond c (pos a) (negsuc (2 ^ 32 - suc a))) ≤ 2 ^ 31
    go true e = let h = ltb-true a (2 ^ 31) e in omega arith
    go false e = let h = ltb-false a (2 ^ 31) e in omega arith

near : (a t : ℤ) → nat_abs a ≤ 2 ^ 31 → nat_abs t ≤ reach → dist a t ≤ 2 ^ 64
near (pos a) (pos t) e h = omega arith
near (pos a) (negsuc t) e h = omega arith
near (negsuc a) (pos t) e h = omega arith
near (negsuc a) (negsuc t) e h = omega arith

unit-advance : (start end t : ℤ) → nat_abs start ≤ 2 ^ 31 → nat_abs t ≤ reach → Unit (advance start end t)
unfolding advance
unit-advance start end t e h = go (le_z end t) (le_z t start) refl refl
  where
    go : (a b : Bool) → le_z end t ≡ a → le_z t start ≡ b → Unit (pick (le_z end start) (pick a one +0) (pick b +0 (pick a one (quotient (t -ℤ start) (end -ℤ start)))))
    go true b p q = picked Unit (le_z end start) one _ unit-one (picked Unit b +0 one unit-zero unit-one)
    go false true p q = picked Unit (le_z end start) +0 +0 unit-zero unit-zero
    go false false p q = picked Unit (le_z end start) +0 _ unit-zero (unit-between start t end q p (near start t e h))

held_share : (raw k : Float) → Unit raw → Share (held raw k)
unfolding held
held_share raw nan u = share_of raw u
held_share raw (inf s) u = share_of raw u
held_share raw (fin s m e) u = share_clamp s m e

share_factor : (flag a b : ℕ) (accel : Float) (t dur : ℤ) → nat_abs t ≤ reach → Share (factor (times_of flag a b) accel t dur)
unfolding factor
share_factor flag a b accel t dur h =
    let x = times_of flag a b in
    let raw = advance (start_of x) (end_of x dur) t in
    held_share raw (bent raw (accel_of accel)) (unit-advance (start_of x) (end_of x dur) t (start-size flag a b) h)

opacity-between : (k : Float) (a b : RenderState) → opacity (between k a b) ≡ lerp (opacity a) (opacity b) k
unfolding between mix_always
opacity-between k a b = refl

-- ---- a record that is no T

-- what a record of kind k, with the words of r, makes of the opacity x
abbrev said : ℤ → ℤ → Record → Float → ℕ → Float
said t dur r x k =
    pick (eqb k 1) (mul binary32 x (fad_alpha r.w1 r.w2 t dur))
    (pick (eqb k 2) (mul binary32 x (alpha_to_mul (fade_alpha (byte r.w1) (byte r.w2) (byte r.w3) (z r.w4) (z r.w5) (z r.w6) (z r.w7) t)))
    (pick (eqb k 41) one x))

module _ (t dur : ℤ) (r : Record) (st : RenderState) where
  abbrev own : ℕ → Float
  own k = pick (eqb k t_kind) (opacity st) (opacity (apply_own t dur (decode_one (of_kind k r)) (λ s. s) st))

  known : over own 0 50 ≡ over (said t dur r (opacity st)) 0 50
  unfolding over decode_one decoders apply_own faded identity
  known = refl

  past : (k : ℕ) → 50 ≤ k → own k ≡ said t dur r (opacity st) k
  unfolding apply_own
  past k h = rw (ne_eqb k t_kind (λ e. omega arith), ne_eqb k 1 (λ e. omega arith), ne_eqb k 2 (λ e. omega arith), ne_eqb k 41 (λ e. omega arith), decode-past (of_kind k r) h)

  own_said : (r.kind ≡ t_kind → ⊥) → opacity (apply_own t dur (decode_one r) (λ s. s) st) ≡ said t dur r (opacity st) r.kind
  own_said h = rw (ne_eqb r.kind t_kind h) at (everywhere own (said t dur r (opacity st)) 50 known past r.kind)

-- ---- the tags of records, over at most n of them: what each record keeps of an opacity, and a blend too, all of them keep

module _ (t dur : ℤ) (ht : nat_abs t ≤ reach) (Has : Float → Type 0) (blend : (a b k : Float) → Has a → Has b → Share k → Has (lerp a b k)) where
  abbrev Keeps : Record → Type 0
  Keeps r = (x : Float) → Has x → Has (said t dur r x r.kind)

  kept : (n : ℕ) (l : List Record) (st : RenderState) → All Keeps l → Has (opacity st) → Has (opacity (apply_tags t dur (decode_in n l) st))
  unfolding decode_in
  kept zero l st a u = rw (apply_none t dur st) u
  kept (suc n) [] st a u = rw (apply_none t dur st) u
  kept (suc n) (r ∷ l) st (more g a) u = go (eqb r.kind t_kind) refl (kept n (take (holds r) l) st (all_take (holds r) a) u) (λ x v. kept n (drop (holds r) l) x (all_drop (holds r) a) v) (λ x v. kept n l x a v)
    where
      Kept : List Record → Type 0
      Kept k = (x : RenderState) → Has (opacity x) → Has (opacity (apply_tags t dur (decode_in n k) x))

      go : (b : Bool) → eqb r.kind t_kind ≡ b → Has (opacity (apply_tags t dur (decode_in n (take (holds r) l)) st)) → Kept (drop (holds r) l) → Kept l → Has (opacity (apply_tags t dur (decode_in (suc n) (r ∷ l)) st))
      go true e inner rest further =
          let b = apply_tags t dur (decode_in n (take (holds r) l)) st in
          let k = factor (times_of r.w1 r.w2 r.w3) (f r.w4) t dur in
          rw (decode-nest n r l (eqb-true r.kind t_kind e), apply_around t dur r (decode_in n (take (holds r) l)) (decode_in n (drop (holds r) l)) st)
          (rest (between k st b) (rw (opacity-between k st b) (blend (opacity st) (opacity b) k u inner (share_factor r.w1 r.w2 r.w3 (f r.w4) t dur ht))))
      go false e inner rest further =
          let h = eqb-false r.kind t_kind e in
          rw (decode-single n r l h, apply-own t dur r (decode_in n l) st) (further (apply_own t dur (decode_one r) (λ s. s) st) (rw (own_said t dur r st h) (g (opacity st) u)))

-- ---- THE LAW, on every well-formed table, both times in range

module _ (ws : List ℕ) (t dur : ℤ) (g : Fine ws t dur) where
  ht : nat_abs t ≤ reach
  ht = in_time-size t g.instant

  unit_said : (r : Record) (x : Float) → Unit x → Unit (said t dur r x r.kind)
  unit_said r x u =
      picked Unit (eqb r.kind 1) _ _ (unit-mul x _ u (unit-fad t dur ht (in_time-size dur g.duration) r.w1 r.w2))
      (picked Unit (eqb r.kind 2) _ _ (unit-mul x _ u (unit-fade r.w1 r.w2 r.w3 (z r.w4) (z r.w5) (z r.w6) (z r.w7) t)) (picked Unit (eqb r.kind 41) one x unit-one u))

  one_said : (r : Record) → NoFade r → (x : Float) → x ≡ one → said t dur r x r.kind ≡ one
  one_said r h x u = rw (ne_eqb r.kind 1 h.0, ne_eqb r.kind 2 h.1) (picked (λ (y : Float). y ≡ one) (eqb r.kind 41) one x refl u)

  unit_at : Unit (opacity (evaluate_at t dur (tags_of ws)))
  unfolding evaluate_at identity
  unit_at = kept t dur ht Unit unit-lerp (length (records_of ws)) (records_of ws) identity (every unit_said (records_of ws)) unit-one
    where
      every : {P : Record → Type 0} → ((r : Record) → P r) → (l : List Record) → All P l
      every h [] = all
      every h (r ∷ l) = more (h r) (every h l)

  one_at : NoFades ws → opacity (evaluate_at t dur (tags_of ws)) ≡ one
  unfolding evaluate_at identity
  one_at a = kept t dur ht (λ x. x ≡ one) (λ x y k p q s. rw (p, q) (lerp-one k s)) (length (records_of ws)) (records_of ws) identity (all_map one_said a) refl

  within : Opacity ws (opacity (evaluate_at t dur (tags_of ws)))
  within = record { unit = in_unit _ unit_at; plain = one_at }

-- ---- of every answer: beside a refusal it is 1

pub opaque : (ws : List ℕ) (t dur : ℤ) → Opacity ws (opacity_of (evaluated ws t dur))
unfolding evaluated_to identity
opaque ws t dur = go (call_ground ws t dur) refl
  where
    go : (c : Checked) → call_ground ws t dur ≡ c → Opacity ws (opacity_of (evaluated_or c (evaluate_at t dur (tags_of ws))))
    go (Err r) e = record { unit = in_unit one unit-one; plain = λ a. refl }
    go (Ok _) e = within ws t dur (good-fine ws t dur e)

-- ---- of the words

first_word : (st : RenderState) → get_or (state_words st) 0 0 ≡ to_bits binary32 (opacity st)
unfolding state_words
first_word st = refl

one-bits : to_bits binary32 one ≡ 0x3F800000
unfolding to_bits
one-bits = refl

pub opacity_word : (ws : List ℕ) (t dur : ℤ) (v : List ℕ) {u : List ℕ} → u ≡ state_after (evaluated ws t dur) v → Fine ws t dur → OpacityWord ws (get_or u 0 0)
unfolding evaluated_to
opacity_word ws t dur v e g =
    let st = evaluate_at t dur (tags_of ws) in
    let x = unit_at ws t dur g in
    rw (e, fine-good ws t dur g, first_word st)
    (record {
      opacity = rw (of_bits-to_bits binary32 (opacity st) x.f32) (within ws t dur g);
      most = unit_word (opacity st) x;
      plain = λ a. ap (to_bits binary32) (one_at ws t dur g a) ∙ one-bits;
    })
