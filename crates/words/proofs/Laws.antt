-- Words stored one after the other, joined.
use mathlib.Core.Path.{◌≡◌, refl, sym, ap, ◌∙◌}
use mathlib.Core.List.{List, [], ◌∷◌, ◌++◌, append-nil, append_assoc}
use Rattle.std.specs.Prelude.{ℤ, Bool, Float, Option, None, Some}
use Prim.Native.Nat.{ℕ, suc, ◌+◌, ◌-◌, ◌≤◌}
use native.Mathlib.Numerals.{add-one}
use native.Mathlib.Omega.{arith}
use lib.ListN.{length, replicate, take, drop, set, length-append, take-append-drop}
use lib.Seq.{sets, sets-eq, length-sets, length-take-le, drop-length, drop-drop, drop-append_seam}
use borrow.Rule.Slice.PartMut.{put_mid}
use Rattle.std.proofs.lemmas.List.{length-replicate, drop-replicate, replicate-append-replicate}
use Rattle.std.proofs.lemmas.List.Edits.{paste_all}
use Rattle.std.proofs.lemmas.Slice.{put_mid-paste}
use Rattle.state.specs.declared.RenderState.{RenderState}
use Rattle.state.specs.declared.Pair.{Pair}
use Rattle.state.specs.declared.ClipRect.{ClipRect}
use Rattle.state.specs.declared.Rgb.{Rgb}
use Rattle.state.specs.declared.Part.{Part}
use Rattle.state.specs.declared.Name.{Name}
use Rattle.words.specs.Words.{number, int, flag, f32, pair, rect, rgb, part, name, option, reset, words_from0, words_from18, words_from44, words_from70, state_words}
use Rattle.words.specs.Inner.{put_at, Clear, Free, Put}

sets_append : (a b t : List ℕ) (at : ℕ) → sets t at (a ++ b) ≡ sets (sets t at a) (at + length a) b
sets_append [] b t at = let e : at + 0 ≡ at = omega arith in rw e
sets_append (w ∷ a) b t at =
    let e : at + suc (length a) ≡ suc at + length a = omega arith in
    rw (e, sets_append a b (set t at w) (suc at))

-- what stands further behind is 0 too
further : {u : List ℕ} {n : ℕ} (k : ℕ) → Clear u n → drop (n + k) u ≡ replicate (92 - (n + k)) 0
further {u} {n} k c =
    let e : 92 - n - k ≡ 92 - (n + k) = omega arith in
    rw (← drop-drop k n u, c.rest, drop-replicate {X = ℕ} k (92 - n) 0, e)

-- zeros are there already
absent : {u : List ℕ} {n k : ℕ} → Free u n k → Put u n k (replicate k 0) u
unfolding put_at
absent {u} {n} {k} f =
    let c = f.clear in
    let z : length (replicate {A = ℕ} k 0) ≡ k = length-replicate k 0 in
    let l : n + length (replicate {A = ℕ} k 0) ≤ length u = omega (arith, z, f.room, c.wide) in
    let m : k + (92 - (n + k)) ≡ 92 - n = omega (arith, f.room) in
    let a : take n u ++ replicate k 0 ++ drop (n + length (replicate k 0)) u ≡ take n u ++ replicate k 0 ++ replicate (92 - (n + k)) 0 = rw z (ap (λ (r : List ℕ). take n u ++ replicate k 0 ++ r) (further k c)) in
    let b : replicate k 0 ++ replicate (92 - (n + k)) 0 ≡ drop n u = replicate-append-replicate k (92 - (n + k)) 0 ∙ ap (λ (i : ℕ). replicate i 0) m ∙ sym c.rest in
    let d : take n u ++ replicate k 0 ++ replicate (92 - (n + k)) 0 ≡ u = append_assoc (take n u) (replicate k 0) (replicate (92 - (n + k)) 0) ∙ ap (λ (r : List ℕ). take n u ++ r) b ∙ take-append-drop n u in
    record { is = sym (sets-eq (replicate k 0) u n l ∙ a ∙ d); wide = z; clear = record { wide = c.wide; rest = further k c } }

-- others are stored
present : {u v : List ℕ} {n k : ℕ} (ws : List ℕ) → length ws ≡ k → Free u n k → v ≡ put_at u n ws → Put u n k ws v
unfolding put_at
present {u} {v} {n} {k} ws w f e =
    let c = f.clear in
    let l : n + length ws ≤ length u = omega (arith, w, f.room, c.wide) in
    let t : length (take n u) ≡ n = length-take-le n u (omega (arith, f.room, c.wide)) in
    let s : v ≡ take n u ++ ws ++ drop (n + length ws) u = e ∙ sets-eq ws u n l in
    let a : length (take n u ++ ws) ≡ n + k = length-append (take n u) ws ∙ rw (t, w) refl in
    let b : drop (n + k) v ≡ drop (n + length ws) u = rw (s, ← a) (drop-append_seam (take n u ++ ws) (drop (n + length ws) u)) in
    let d : drop (n + length ws) u ≡ replicate (92 - (n + k)) 0 = rw w (further k c) in
    record { is = e; wide = w; clear = record { wide = ap length e ∙ length-sets u n ws ∙ c.wide; rest = b ∙ d } }

pub copied : {u v : List ℕ} {n k : ℕ} (ws : List ℕ) → length ws ≡ k → Free u n k → v ≡ ws → Put u n k ws (put_mid n (n + k - n) u v)
unfolding put_at
copied {u} {v} {n} {k} ws w f e =
    let l : n + length ws ≤ length u = omega (arith, w, f.room, f.clear.wide) in
    let m : length ws ≡ n + k - n = omega arith in
    present ws w f (put_mid-paste n (n + k - n) u v ws (length ws) e m refl ∙ paste_all u n ws (length ws) refl ∙ sym (append_assoc (take n u) ws (drop (n + length ws) u)) ∙ sym (sets-eq ws u n l))

-- a flag, and the words behind it

pub flagged : {u : List ℕ} {n k : ℕ} (w : ℕ) → Free u n (k + 1) → Free (set u n w) (n + 1) k
unfolding put_at
flagged w f = record {
  clear = (present (w ∷ []) refl (record { clear = f.clear; room = omega (arith, f.room) }) refl).clear;
  room = omega (arith, f.room);
}

pub no_flag : {u : List ℕ} {n : ℕ} (k : ℕ) → Free u n (k + 1) → Put u n (k + 1) (0 ∷ replicate k 0) u
no_flag k f = let e : replicate {A = ℕ} (k + 1) 0 ≡ 0 ∷ replicate k 0 = ap (λ (m : ℕ). replicate m 0) (add-one k) in rw e at (absent f)

pub behind_flag : {u v : List ℕ} {n k : ℕ} (w : ℕ) (ws : List ℕ) → Put (set u n w) (n + 1) k ws v → Put u n (k + 1) (w ∷ ws) v
unfolding put_at
behind_flag {u} {v} {n} {k} w ws p =
    let e : n + 1 + k ≡ n + (k + 1) = omega arith in
    record { is = p.is ∙ ap (λ (i : ℕ). sets (set u n w) i ws) (add-one n); wide = omega (arith, p.wide); clear = rw e at p.clear }

-- the next words follow
joined : (t : List ℕ) (i k : ℕ) (a b : List ℕ) {u v : List ℕ} → length a ≡ k → u ≡ put_at t i a → v ≡ put_at u (i + k) b → v ≡ put_at t i (a ++ b)
unfolding put_at
joined t i k a b w p q = q ∙ rw (p, ← w) (sym (sets_append a b t i))

pub next : {t u v : List ℕ} {i k m : ℕ} {a b : List ℕ} → Put t i k a u → Put u (i + k) m b v → Put t i (k + m) (a ++ b) v
next {t} {i = i} {k} {m} {a} {b} p q =
    let e : i + k + m ≡ i + (k + m) = omega arith in
    record {
      is = joined t i k a b p.wide p.is q.is;
      wide = length-append a b ∙ rw (p.wide, q.wide) refl;
      clear = rw e at q.clear;
    }

-- ---- how many words a field has

wide-option : {A : Type 0} (n : ℕ) (f : A → List ℕ) → ((x : A) → length (f x) ≡ n) → (o : Option A) → length (option n f o) ≡ n + 1
unfolding option
wide-option n f w None = ap suc (length-replicate n 0) ∙ sym (add-one n)
wide-option n f w (Some x) = ap suc (w x) ∙ sym (add-one n)

wide-number : (o : Option ℕ) → length (option 1 number o) ≡ 2
wide-number = wide-option 1 number (λ x. refl)

wide-int : (o : Option ℤ) → length (option 1 int o) ≡ 2
wide-int = wide-option 1 int (λ x. refl)

wide-flag : (o : Option Bool) → length (option 1 flag o) ≡ 2
wide-flag = wide-option 1 flag (λ x. refl)

wide-f32 : (o : Option Float) → length (option 1 f32 o) ≡ 2
wide-f32 = wide-option 1 f32 (λ x. refl)

wide-pair : (o : Option Pair) → length (option 2 pair o) ≡ 3
wide-pair = wide-option 2 pair (λ x. refl)

wide-part : (o : Option Part) → length (option 2 part o) ≡ 3
wide-part = wide-option 2 part (λ x. refl)

wide-rgb : (o : Option Rgb) → length (option 3 rgb o) ≡ 4
wide-rgb = wide-option 3 rgb (λ x. refl)

wide-rect : (o : Option ClipRect) → length (option 4 rect o) ≡ 5
wide-rect = wide-option 4 rect (λ x. refl)

wide-name : (o : Option Name) → length (option 4 name o) ≡ 5
wide-name = wide-option 4 name (λ x. refl)

wide-reset : (o : Option (Option Part)) → length (reset o) ≡ 3
unfolding reset
wide-reset None = refl
wide-reset (Some None) = refl
wide-reset (Some (Some p)) = refl

pub wide_from0 : (st : RenderState) → length (words_from0 st) ≡ 18
wide_from0 st = simp (length-append, wide-pair, wide-rect, wide-part)

pub wide_from18 : (st : RenderState) → length (words_from18 st) ≡ 26
wide_from18 st = simp (length-append, wide-rgb, wide-f32, wide-pair, wide-rect, wide-part)

pub wide_from44 : (st : RenderState) → length (words_from44 st) ≡ 26
wide_from44 st = simp (length-append, wide-rgb, wide-number, wide-f32)

pub wide_from70 : (st : RenderState) → length (words_from70 st) ≡ 22
wide_from70 st = simp (length-append, wide-name, wide-number, wide-reset, wide-flag, wide-int)

-- every state has 92
pub wide-state : (st : RenderState) → length (state_words st) ≡ 92
unfolding state_words
wide-state st = simp (length-append, wide-number, wide-int, wide-flag, wide-f32, wide-pair, wide-part, wide-rgb, wide-rect, wide-name, wide-reset)

-- written over as many words
over : (t ws u : List ℕ) → length ws ≡ length t → u ≡ put_at t 0 ws → u ≡ ws
unfolding put_at
over t ws u h e =
    let l : 0 + length ws ≤ length t = omega arith in
    let z : 0 + length ws ≡ length t = omega arith in
    e ∙ sets-eq ws t 0 l ∙ rw (z, drop-length t, append-nil ws)

-- the four parts over 92 words, whatever these held
pub whole : (v a b c u : List ℕ) (st : RenderState) → length v ≡ 92 →
    a ≡ put_at v 0 (words_from0 st) → b ≡ put_at a 18 (words_from18 st) → c ≡ put_at b 44 (words_from44 st) → u ≡ put_at c 70 (words_from70 st) → u ≡ state_words st
unfolding state_words
whole v a b c u st n p q r s =
    let w0 = words_from0 st in
    let w18 = words_from18 st in
    let w44 = words_from44 st in
    let l : length (w0 ++ w18) ≡ 44 = length-append w0 w18 ∙ rw (wide_from0 st, wide_from18 st) refl in
    let m : length (w0 ++ w18 ++ w44) ≡ 70 = length-append (w0 ++ w18) w44 ∙ rw (l, wide_from44 st) refl in
    let x = joined v 0 18 w0 w18 (wide_from0 st) p q in
    let y = joined v 0 44 (w0 ++ w18) w44 l x r in
    let z = joined v 0 70 (w0 ++ w18 ++ w44) (words_from70 st) m y s in
    over v (state_words st) u (wide-state st ∙ sym n) z
