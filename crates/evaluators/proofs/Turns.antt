-- One turn of the loop over the records of a table: what the first tag does, and the tags behind it.
use mathlib.Core.Path.{◌≡◌, refl, sym, ap, ◌∙◌}
use mathlib.Core.List.{List, [], ◌∷◌}
use mathlib.Core.Bool.{Bool, true, false}
use Prim.Native.Nat.{ℕ, zero, suc, ◌+◌, ◌-◌, ◌*◌, ◌≤◌, ◌<◌, min}
use native.Mathlib.Omega.{arith}
use lib.Dec.{leb}
use lib.IntN.{ℤ}
use lib.ListN.{length, take, drop, length-take, length-drop}
use lib.Seq.{drop-drop}
use borrow.Author.Tests.{eq-eqb, ne_eqb, leb-true, leb-false}
use Rattle.tag.specs.declared.Record.{Record}
use Rattle.tag.specs.Tag.{Tags, none, and}
use Rattle.tag.specs.Table.{width}
use Rattle.tag.specs.WellFormed.{record_at, records_to, t_kind, holds}
use Rattle.tag.specs.Decode.{f, times_of, decode_one, decode_t, decode_in, decode}
use Rattle.tag.proofs.Tags.{fold_own}
use Rattle.tag.proofs.Decoding.{inside_one}
use Rattle.state.specs.declared.RenderState.{RenderState}
use Rattle.state.specs.Mix.{factor, between}
use Rattle.state.specs.Apply.{apply_own, apply_tags}
use Rattle.evaluators.specs.Inner.{record_from, tags_at, inside_of}

-- ---- more steps than records change nothing

enough : (n m : ℕ) (l : List Record) → length l ≤ n → length l ≤ m → decode_in n l ≡ decode_in m l
unfolding decode_in
enough zero zero [] h k = refl
enough zero (suc m) [] h k = refl
enough (suc n) zero [] h k = refl
enough (suc n) (suc m) [] h k = refl
enough zero m (r ∷ l) h k = absurd (omega arith)
enough (suc n) zero (r ∷ l) h k = absurd (omega arith)
enough (suc n) (suc m) (r ∷ l) h k =
    let a = enough n m l (omega arith) (omega arith) in
    let b = enough n m (take (holds r) l) (omega (arith, length-take (holds r) l)) (omega (arith, length-take (holds r) l)) in
    let c = enough n m (drop (holds r) l) (omega (arith, length-drop (holds r) l)) (omega (arith, length-drop (holds r) l)) in
    rw (a, b, c)

pub decode-plain : (r : Record) (l : List Record) → (r.kind ≡ t_kind → ⊥) → decode (r ∷ l) ≡ and (decode_one r) (decode l)
unfolding decode_in
decode-plain r l h = rw (ne_eqb r.kind t_kind h)

pub decode-around : (r : Record) (l : List Record) → r.kind ≡ t_kind → decode (r ∷ l) ≡ and (decode_t r (decode (take (holds r) l))) (decode (drop (holds r) l))
unfolding decode_in
decode-around r l h =
    let b = enough (length l) (length (take (holds r) l)) (take (holds r) l) (omega (arith, length-take (holds r) l)) (omega arith) in
    let c = enough (length l) (length (drop (holds r) l)) (drop (holds r) l) (omega (arith, length-drop (holds r) l)) (omega arith) in
    rw (eq-eqb r.kind t_kind h, b, c)

-- ---- tags one after the other

module _ (t dur : ℤ) where
  pub apply_none : (st : RenderState) → apply_tags t dur none st ≡ st
  unfolding apply_tags
  apply_none st = refl

  pub apply-own : (r : Record) (l : Tags) (st : RenderState) → apply_tags t dur (and (decode_one r) l) st ≡ apply_tags t dur l (apply_own t dur (decode_one r) (λ s. s) st)
  unfolding apply_tags
  apply-own r l st = rw (fold_own (apply_own t dur) (λ s. s) (λ g h s. h (g s)) (decode_one r), inside_one r)

  pub apply_around : (r : Record) (l rest : Tags) (st : RenderState) →
      apply_tags t dur (and (decode_t r l) rest) st ≡ apply_tags t dur rest (between (factor (times_of r.w1 r.w2 r.w3) (f r.w4) t dur) st (apply_tags t dur l st))
  unfolding apply_tags apply_own
  apply_around r l rest st = refl

-- ---- records of a part of the table

take-records : (m n : ℕ) (t : List ℕ) → take m (records_to n t) ≡ records_to (min m n) t
unfolding records_to
take-records zero n t = let e : min 0 n ≡ 0 = omega arith in rw e
take-records (suc m) zero t = let e : min (suc m) 0 ≡ 0 = omega arith in rw e
take-records (suc m) (suc n) t = let e : min (suc m) (suc n) ≡ suc (min m n) = omega arith in rw e (ap (λ (l : List Record). record_at t ∷ l) (take-records m n (drop width t)))

drop-records : (m n : ℕ) (t : List ℕ) → drop m (records_to n t) ≡ records_to (n - m) (drop (width * m) t)
unfolding records_to
drop-records zero n t = let e : n - 0 ≡ n = omega arith in rw e
drop-records (suc m) zero t = let e : 0 - suc m ≡ 0 = omega arith in rw e
drop-records (suc m) (suc n) t =
    let e : width + width * m ≡ width * suc m = omega arith in
    let g : suc n - suc m ≡ n - m = omega arith in
    rw g (drop-records m n (drop width t) ∙ ap (λ (l : List ℕ). records_to (n - m) l) (drop-drop (width * m) width t ∙ ap (λ (k : ℕ). drop k t) e))

-- what lies behind the records inside a T
drop-capped : (m n : ℕ) (t : List ℕ) → drop m (records_to n t) ≡ records_to (n - min m n) (drop (width * min m n) t)
unfolding records_to
drop-capped m n t = drop-records m n t ∙ go (leb m n) refl
  where
    go : (b : Bool) → leb m n ≡ b → records_to (n - m) (drop (width * m) t) ≡ records_to (n - min m n) (drop (width * min m n) t)
    go true h = let e : min m n ≡ m = omega (arith, leb-true m n h) in rw e
    go false h =
        let a : n - m ≡ 0 = omega (arith, leb-false m n h) in
        let b : n - min m n ≡ 0 = omega (arith, leb-false m n h) in
        rw (a, b)

next-words : (ws : List ℕ) (at n : ℕ) → drop (width * n) (drop (width * at) ws) ≡ drop (width * (at + n)) ws
next-words ws at n =
    let e : width * at + width * n ≡ width * (at + n) = omega arith in
    drop-drop (width * n) (width * at) ws ∙ ap (λ (k : ℕ). drop k ws) e

module _ (t dur : ℤ) (ws : List ℕ) where
  pub done_at : (at left : ℕ) (st : RenderState) → left ≤ 0 → apply_tags t dur (tags_at ws at left) st ≡ st
  unfolding tags_at records_to decode_in
  done_at at zero st h = apply_none t dur st
  done_at at (suc n) st h = absurd (omega arith)

  pub plain_at : (at n : ℕ) (st : RenderState) → ((record_from ws at).kind ≡ t_kind → ⊥) →
      apply_tags t dur (tags_at ws at (suc n)) st ≡ apply_tags t dur (tags_at ws (at + 1) n) (apply_own t dur (decode_one (record_from ws at)) (λ s. s) st)
  unfolding tags_at records_to
  plain_at at n st h =
      let e : drop width (drop (width * at) ws) ≡ drop (width * (at + 1)) ws = next-words ws at 1 in
      rw (decode-plain (record_from ws at) (records_to n (drop width (drop (width * at) ws))) h, apply-own t dur, e)

  pub around_at : (at n : ℕ) (st : RenderState) → (record_from ws at).kind ≡ t_kind →
      apply_tags t dur (tags_at ws at (suc n)) st
      ≡ apply_tags t dur (tags_at ws (at + 1 + inside_of (record_from ws at) n) (n - inside_of (record_from ws at) n))
      (between (factor (times_of (record_from ws at).w1 (record_from ws at).w2 (record_from ws at).w3) (f (record_from ws at).w4) t dur) st (apply_tags t dur (tags_at ws (at + 1) (inside_of (record_from ws at) n)) st))
  unfolding tags_at records_to
  around_at at n st h =
      let r = record_from ws at in
      let rest = drop width (drop (width * at) ws) in
      let e : rest ≡ drop (width * (at + 1)) ws = next-words ws at 1 in
      rw (decode-around r (records_to n rest) h, apply_around t dur, take-records (holds r) n rest, drop-capped (holds r) n rest, next_words_2 at (min (holds r) n), e)
    where
      next_words_2 : (at m : ℕ) → drop (width * m) (drop width (drop (width * at) ws)) ≡ drop (width * (at + 1 + m)) ws
      next_words_2 at m = ap (λ (l : List ℕ). drop (width * m) l) (next-words ws at 1) ∙ next-words ws (at + 1) m

-- ---- the loop over a part of the table

-- at + left and post, on the way from first, count and st
pub record Looping (t dur : ℤ) (ws : List ℕ) (first count : ℕ) (st : RenderState) (at left : ℕ) (post : RenderState) : Type 0 where
  pub end : at + left ≡ first + count
  pub less : left ≤ count
  pub state : apply_tags t dur (tags_at ws at left) post ≡ apply_tags t dur (tags_at ws first count) st

module _ {t dur : ℤ} {ws : List ℕ} {first count : ℕ} {st : RenderState} where
  pub loop_done : {at left : ℕ} {post : RenderState} → Looping t dur ws first count st at left post → left ≤ 0 → post ≡ apply_tags t dur (tags_at ws first count) st
  loop_done {at = at} {left = left} {post = post} l h = sym (done_at t dur ws at left post h) ∙ l.state

  -- a plain tag
  pub loop_plain : {at left : ℕ} {post next : RenderState} → Looping t dur ws first count st at left post → 0 < left → ((record_from ws at).kind ≡ t_kind → ⊥) →
      apply_own t dur (decode_one (record_from ws at)) (λ s. s) post ≡ next → Looping t dur ws first count st (at + 1) (left - 1) next
  loop_plain {left = zero} l z h e = absurd (omega arith)
  loop_plain {at = at} {left = suc n} {post = post} l z h e =
      let w : suc n - 1 ≡ n = omega arith in
      record { end = omega arith; less = omega (arith, l.less); state = rw w (ap (λ (s : RenderState). apply_tags t dur (tags_at ws (at + 1) n) s) (sym e) ∙ sym (plain_at t dur ws at n post h) ∙ l.state) }

  -- a T that holds no more records than are left
  pub loop_around : {at left : ℕ} {post next : RenderState} → Looping t dur ws first count st at left post → 0 < left → (record_from ws at).kind ≡ t_kind → holds (record_from ws at) ≤ left - 1 →
      next ≡ between (factor (times_of (record_from ws at).w1 (record_from ws at).w2 (record_from ws at).w3) (f (record_from ws at).w4) t dur) post (apply_tags t dur (tags_at ws (at + 1) (holds (record_from ws at))) post) →
      Looping t dur ws first count st (at + 1 + holds (record_from ws at)) (left - 1 - holds (record_from ws at)) next
  loop_around {left = zero} l z h k e = absurd (omega arith)
  loop_around {at = at} {left = suc n} {post = post} l z h k e =
      let w : suc n - 1 ≡ n = omega arith in
      let m : inside_of (record_from ws at) n ≡ holds (record_from ws at) = omega (arith, k) in
      record {
        end = omega (arith, l.end, k);
        less = omega (arith, l.less);
        state = rw (w, e) (sym (rw m at (around_at t dur ws at n post h)) ∙ l.state);
      }
