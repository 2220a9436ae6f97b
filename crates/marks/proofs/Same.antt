-- Between marks the state stays: where no mark of the tags lies after t and up to u, the state at t is the state at u.
use mathlib.Core.Path.{◌≡◌, refl, sym, ap, ◌∙◌}
use mathlib.Core.Logic.{⊎_elim}
use mathlib.Core.List.{List, [], ◌∷◌, ◌++◌}
use Prim.Native.Nat.{ℕ, suc, ◌-◌, ◌≤◌, ◌<◌}
use native.Mathlib.Nat.{min-le_right}
use native.Mathlib.Omega.{arith}
use lib.Dec.{leb→le, ltb→lt}
use lib.IntN.{ℤ, pos, negsuc, ◌-ℤ◌}
use lib.Ieee.{Float, binary32, mul}
use lib.Signed.{◌≤ℤ◌, ◌<ℤ◌}
use borrow.Author.Tests.{le-ltb, le-leb, lt-leb, eq-eqb, ne_eqb}
use Rattle.std.specs.Prelude.{Some}
use Rattle.scan.proofs.Laws.{le_or_lt}
use Rattle.float.specs.Float as F
use Rattle.float.specs.Float.{one, clamp}
use Rattle.tag.specs.Tag.{Times, AnimatedTag, Fad, Fade, Pos, Move, Frz, Blur, Fscx, Fscy, Color1, Fs, ClipRect, ClipDrawing, Frx, Fry, Org, Bord, Xbord, Ybord, Shad, Xshad, Yshad, Be, Fax, Fay, IClipRect, IClipDrawing, Color2, Color3, Color4, Alpha, Alpha1, Alpha2, Alpha3, Alpha4, Fsp, Q, An, A, Fn, Fe, R, B, I, U, S, Karaoke, Pbo, P, T, Tags, none, and, inside}
use Rattle.tag.proofs.Tags.{fold_own, tags-all}
use Rattle.state.specs.declared.RenderState.{RenderState}
use Rattle.state.specs.State.{identity, with_always, with_places, set_translate}
use Rattle.state.specs.Mix.{quotient, start_of, end_of, accel_of, bent, held, factor, cut_between, mix_pair, between}
use Rattle.state.specs.Mix as Mix
use Rattle.state.specs.Apply.{from_zero_lem, fade_in, fade_out, fad_alpha, byte, fade_alpha, alpha_to_mul, faded, pair, apply_own, apply_tags, evaluate_at}
use Rattle.marks.specs.Marks.{Interval, ramp, way, stage, own_marks, marks, IsMark, here, later, NoMark}
use Rattle.marks.proofs.Still.{Quiet, Still, same, ahead, over, empty, still, ramp_still, staged, stage_still}
use Rattle.marks.proofs.Start.{stage-start}

-- ---- no mark of several

in_left : {l : List Interval} {a : ℤ} (r : List Interval) → IsMark l a → IsMark (l ++ r) a
in_left r (here w) = here w
in_left r (later m) = later (in_left r m)

in_right : (l : List Interval) {r : List Interval} {a : ℤ} → IsMark r a → IsMark (l ++ r) a
in_right [] m = m
in_right (i ∷ l) m = later (in_right l m)

-- ---- \fad

from_zero_le : (t u : ℤ) → t ≤ℤ u → from_zero_lem t ≤ from_zero_lem u
from_zero_le (pos a) (pos b) h = leb→le a b h.le
from_zero_le (pos a) (negsuc b) h = absurd h.le
from_zero_le (negsuc a) u h = omega arith

from_zero_under : (t : ℤ) (k : ℕ) → t <ℤ pos (suc k) → from_zero_lem t ≤ k
from_zero_under (pos a) k h = let g = ltb→lt a (suc k) h.lt in omega arith
from_zero_under (negsuc a) k h = omega arith

-- the time to fade in is over; there is no time to fade out, it has not begun, it is over
in_one : (t1 n : ℕ) → t1 ≤ n → fade_in t1 n ≡ one
unfolding fade_in
in_one t1 n h = rw (le-ltb n t1 h)

out_one : (t2 n d : ℕ) → t2 ≤ 0 → fade_out t2 n d ≡ one
unfolding fade_out
out_one t2 n d h = rw (eq-eqb t2 0 (omega arith))

out_ahead : (t2 n d : ℕ) → 0 < t2 → n < d → n ≤ d - t2 → fade_out t2 n d ≡ one
unfolding fade_out
out_ahead t2 n d z h k = rw (ne_eqb t2 0 (λ e. omega arith), lt-leb d n h, le-ltb (d - t2) n k)

out-over : (t2 n d : ℕ) → 0 < t2 → d ≤ n → fade_out t2 n d ≡ F.zero
unfolding fade_out
out-over t2 n d z h = rw (ne_eqb t2 0 (λ e. omega arith), le-leb d n h)

module _ (t u : ℤ) (le : t ≤ℤ u) where
  in_still : (t1 : ℕ) → Still (ramp (pos 0) (pos t1)) t u → fade_in t1 (from_zero_lem t) ≡ fade_in t1 (from_zero_lem u)
  in_still t1 (same e) = ap (λ (x : ℤ). fade_in t1 (from_zero_lem x)) e
  in_still t1 (ahead k) = let h = from_zero_le t u le in let g = from_zero_under u 0 k in ap (fade_in t1) (omega arith)
  in_still t1 (over k) = let h = from_zero_le t u le in let g = from_zero_le (pos t1) t k in in_one t1 (from_zero_lem t) g ∙ sym (in_one t1 (from_zero_lem u) (omega arith))
  in_still t1 (empty k) = let g = from_zero_under (pos t1) 0 k in in_one t1 (from_zero_lem t) (omega arith) ∙ sym (in_one t1 (from_zero_lem u) (omega arith))

  going_out : (t2 d : ℕ) → 0 < t2 → Still (ramp (pos (d - t2)) (pos d)) t u → fade_out t2 (from_zero_lem t) d ≡ fade_out t2 (from_zero_lem u) d
  going_out t2 d z (same e) = ap (λ (x : ℤ). fade_out t2 (from_zero_lem x) d) e
  going_out t2 d z (ahead k) =
      let h = from_zero_le t u le in
      let g = from_zero_under u (d - t2) k in
      ⊎_elim
      (λ (l : d ≤ from_zero_lem u). ap (λ (n : ℕ). fade_out t2 n d) (omega arith))
      (λ (l : from_zero_lem u < d). out_ahead t2 (from_zero_lem t) d z (omega arith) (omega arith) ∙ sym (out_ahead t2 (from_zero_lem u) d z l g))
      (le_or_lt d (from_zero_lem u))
  going_out t2 d z (over k) = let h = from_zero_le t u le in let g = from_zero_le (pos d) t k in out-over t2 (from_zero_lem t) d z g ∙ sym (out-over t2 (from_zero_lem u) d z (omega arith))
  going_out t2 d z (empty k) = let g = from_zero_under (pos d) (d - t2) k in out-over t2 (from_zero_lem t) d z (omega arith) ∙ sym (out-over t2 (from_zero_lem u) d z (omega arith))

  out_still : (t2 d : ℕ) → Still (ramp (pos (d - t2)) (pos d)) t u → fade_out t2 (from_zero_lem t) d ≡ fade_out t2 (from_zero_lem u) d
  out_still t2 d s = ⊎_elim (λ (z : t2 ≤ 0). out_one t2 (from_zero_lem t) d z ∙ sym (out_one t2 (from_zero_lem u) d z)) (λ (z : 0 < t2). going_out t2 d z s) (le_or_lt t2 0)

  fad_still : (t1 t2 : ℕ) (dur : ℤ) → NoMark (own_marks dur (Fad t1 t2)) t u → fad_alpha t1 t2 t dur ≡ fad_alpha t1 t2 u dur
  unfolding fad_alpha
  fad_still t1 t2 dur n =
      ap (λ (x : Float). clamp (mul binary32 x (fade_out t2 (from_zero_lem t) (from_zero_lem dur))) F.zero one) (in_still t1 (still le (λ a w. n a (here w))))
      ∙ ap (λ (x : Float). clamp (mul binary32 (fade_in t1 (from_zero_lem u)) x) F.zero one) (out_still t2 (from_zero_lem dur) (still le (λ a w. n a (later (here w)))))

  -- ---- \fade

  fade_still : (a1 a2 a3 : ℕ) (t1 t2 t3 t4 : ℤ) → a1 ≤ 255 → a2 ≤ 255 → a3 ≤ 255 → Quiet (stage t1 t2) t u → Quiet (stage t3 t4) t u → fade_alpha a1 a2 a3 t1 t2 t3 t4 t ≡ fade_alpha a1 a2 a3 t1 t2 t3 t4 u
  unfolding fade_alpha
  fade_still a1 a2 a3 t1 t2 t3 t4 h1 h2 h3 n m =
      let first : ℤ → ℕ = λ w. cut_between a1 a2 (quotient (w -ℤ t1) (t2 -ℤ t1)) in
      let second : ℤ → ℕ = λ w. cut_between a2 a3 (quotient (w -ℤ t3) (t4 -ℤ t3)) in
      let rest : staged a2 t3 t4 second (λ w. a3) t ≡ staged a2 t3 t4 second (λ w. a3) u = stage_still a2 t3 t4 second (λ w. a3) t u le refl (stage-start a2 a3 h2 h3 t3 t4) m in
      stage_still a1 t1 t2 first (staged a2 t3 t4 second (λ w. a3)) t u le rest (stage-start a1 a2 h1 h2 t1 t2) n

  -- ---- \move and \t

  way_still : (x : Times) (dur : ℤ) → Quiet (way x dur) t u → Mix.advance (start_of x) (end_of x dur) t ≡ Mix.advance (start_of x) (end_of x dur) u
  way_still x dur n = ramp_still (start_of x) (end_of x dur) t u le n

  factor_still : (x : Times) (accel : Float) (dur : ℤ) → Quiet (way x dur) t u → factor x accel t dur ≡ factor x accel u dur
  unfolding factor
  factor_still x accel dur n = ap (λ (raw : Float). held raw (bent raw (accel_of accel))) (way_still x dur n)

-- ---- every tag

module _ (dur t u : ℤ) (le : t ≤ℤ u) where
  -- only the four above look at the time
  own_still : (x : AnimatedTag) → NoMark (own_marks dur x) t u → (f g : RenderState → RenderState) → ((st : RenderState) → f st ≡ g st) → (st : RenderState) → apply_own t dur x f st ≡ apply_own u dur x g st
  unfolding apply_own
  own_still (Fad t1 t2) quiet f g e st = ap (λ (m : Float). with_always st (faded st.always m)) (fad_still t u le t1 t2 dur quiet)
  own_still (Fade a1 a2 a3 t1 t2 t3 t4) quiet f g e st = ap (λ (m : ℕ). with_always st (faded st.always (alpha_to_mul m))) (fade_still t u le (byte a1) (byte a2) (byte a3) t1 t2 t3 t4 (min-le_right a1 255) (min-le_right a2 255) (min-le_right a3 255) (λ a w. quiet a (here w)) (λ a w. quiet a (later (here w))))
  own_still (Pos x y) quiet f g e st = refl
  own_still (Move x1 y1 x2 y2 x) quiet f g e st = ap (λ (k : Float). with_places st (set_translate st.places (Some (mix_pair (pair x1 y1) (pair x2 y2) k)))) (way_still t u le x dur (λ a w. quiet a (here w)))
  own_still (Frz x) quiet f g e st = refl
  own_still (Blur x) quiet f g e st = refl
  own_still (Fscx x) quiet f g e st = refl
  own_still (Fscy x) quiet f g e st = refl
  own_still (Color1 c) quiet f g e st = refl
  own_still (Fs x) quiet f g e st = refl
  own_still (ClipRect x1 y1 x2 y2) quiet f g e st = refl
  own_still (ClipDrawing p) quiet f g e st = refl
  own_still (Frx x) quiet f g e st = refl
  own_still (Fry x) quiet f g e st = refl
  own_still (Org x y) quiet f g e st = refl
  own_still (Bord x) quiet f g e st = refl
  own_still (Xbord x) quiet f g e st = refl
  own_still (Ybord x) quiet f g e st = refl
  own_still (Shad x) quiet f g e st = refl
  own_still (Xshad x) quiet f g e st = refl
  own_still (Yshad x) quiet f g e st = refl
  own_still (Be n) quiet f g e st = refl
  own_still (Fax x) quiet f g e st = refl
  own_still (Fay x) quiet f g e st = refl
  own_still (IClipRect x1 y1 x2 y2) quiet f g e st = refl
  own_still (IClipDrawing p) quiet f g e st = refl
  own_still (Color2 c) quiet f g e st = refl
  own_still (Color3 c) quiet f g e st = refl
  own_still (Color4 c) quiet f g e st = refl
  own_still (Alpha a) quiet f g e st = refl
  own_still (Alpha1 a) quiet f g e st = refl
  own_still (Alpha2 a) quiet f g e st = refl
  own_still (Alpha3 a) quiet f g e st = refl
  own_still (Alpha4 a) quiet f g e st = refl
  own_still (Fsp x) quiet f g e st = refl
  own_still (Q n) quiet f g e st = refl
  own_still (An n) quiet f g e st = refl
  own_still (A n) quiet f g e st = refl
  own_still (Fn p q) quiet f g e st = refl
  own_still (Fe n) quiet f g e st = refl
  own_still (R r) quiet f g e st = refl
  own_still (B n) quiet f g e st = refl
  own_still (I b) quiet f g e st = refl
  own_still (U b) quiet f g e st = refl
  own_still (S b) quiet f g e st = refl
  own_still (Karaoke k n) quiet f g e st = refl
  own_still (Pbo z) quiet f g e st = refl
  own_still (P n) quiet f g e st = refl
  own_still (T x accel l) quiet f g e st = ap (λ (k : Float). between k st (f st)) (factor_still t u le x accel dur (λ a w. quiet a (here w))) ∙ ap (between (factor x accel u dur) st) (e st)

-- ---- all of them

marks-and : (dur : ℤ) (x : AnimatedTag) (l : Tags) → marks dur (and x l) ≡ (own_marks dur x ++ marks dur (inside x)) ++ marks dur l
unfolding marks
marks-and dur x l = ap (λ (m : List Interval). m ++ marks dur l) (fold_own (λ y inner. own_marks dur y ++ inner) [] ◌++◌ x)

apply_and : (t dur : ℤ) (x : AnimatedTag) (l : Tags) (st : RenderState) → apply_tags t dur (and x l) st ≡ apply_tags t dur l (apply_own t dur x (apply_tags t dur (inside x)) st)
unfolding apply_tags
apply_and t dur x l st = ap (λ (f : RenderState → RenderState). apply_tags t dur l (f st)) (fold_own (apply_own t dur) (λ s. s) (λ f g s. g (f s)) x)

apply_none : (t dur : ℤ) (st : RenderState) → apply_tags t dur none st ≡ st
unfolding apply_tags
apply_none t dur st = refl

-- the state that the tags make of any state
pub same-state : (dur t u : ℤ) (l : Tags) → t ≤ℤ u → NoMark (marks dur l) t u → (st : RenderState) → apply_tags t dur l st ≡ apply_tags u dur l st
same-state dur t u l le =
    tags-all (λ k. NoMark (marks dur k) t u → (st : RenderState) → apply_tags t dur k st ≡ apply_tags u dur k st)
    (λ n st. apply_none t dur st ∙ sym (apply_none u dur st))
    (λ x k i h n st.
    let m : NoMark ((own_marks dur x ++ marks dur (inside x)) ++ marks dur k) t u = rw (marks-and dur x k) at n in
    let own : NoMark (own_marks dur x) t u = λ a w. m a (in_left (marks dur k) (in_left (marks dur (inside x)) w)) in
    let inner : NoMark (marks dur (inside x)) t u = λ a w. m a (in_left (marks dur k) (in_right (own_marks dur x) w)) in
    let rest : NoMark (marks dur k) t u = λ a w. m a (in_right (own_marks dur x ++ marks dur (inside x)) w) in
    apply_and t dur x k st
    ∙ ap (apply_tags t dur k) (own_still dur t u le x own (apply_tags t dur (inside x)) (apply_tags u dur (inside x)) (i inner) st)
    ∙ h rest (apply_own u dur x (apply_tags u dur (inside x)) st)
    ∙ sym (apply_and u dur x k st))
    l

-- `evaluate_at`: the state at t is the state at u
pub same_at : (dur t u : ℤ) (l : Tags) → t ≤ℤ u → NoMark (marks dur l) t u → evaluate_at t dur l ≡ evaluate_at u dur l
unfolding evaluate_at
same_at dur t u l le n = same-state dur t u l le n identity
