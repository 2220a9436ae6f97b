-- A block inside a longer text reads as it does alone, offsets moved on.
use mathlib.Core.Path.{◌≡◌, refl, sym, ap, ◌∙◌}
use mathlib.Core.List.{List, ◌∷◌, ◌++◌}
use mathlib.Core.Logic.{⊎_elim}
use Prim.Native.Nat.{ℕ, zero, suc, ◌+◌, ◌-◌, ◌≤◌, ◌<◌}
use native.Mathlib.Omega.{arith}
use native.Mathlib.Nat.{le_refl, add-zero}
use lib.ListN.{length, get_or, take, drop, length-drop, take-append-drop, get_or-append}
use lib.Seq.{get_or-append-add, length-take-le, drop-drop}
use lib.Dec.{eqb}
use lib.Ieee.{Float}
use Rattle.scan.specs.Scan.{digit, letter, none_of, other, closing_to, trim_start}
use Rattle.scan.proofs.Laws.{le_or_lt}
use Rattle.numeral.specs.Numeral.{F32, too_long_lem, number, f32_at}
use Rattle.lists.specs.Lists.{first_of}
use Rattle.std.specs.Prelude.{Option, Some, None}
use Rattle.tag.specs.Tag.{most_depth, Tags, none, and, append}
use Rattle.tag.proofs.Tags.{count_map}
use Rattle.plain.specs.Names.{key_at, t_key}
use Rattle.plain.specs.Plain.{One, no, long, kept, far, plain_at}
use Rattle.read.specs.declared.Head.{Head}
use Rattle.read.specs.Block.{Got, join, one_got, param_at, head_at, Peel, peeled, with_head, peel_head, head_end, peel, peel_to, t_of, tag_at, walk, tags_in, t_at, parse}
use Rattle.read.specs.Moved.{moved_part, moved_tag, moved_tags, moved_found, moved, inner_text, AsAlone}
use Rattle.refusal.specs.Answer.{Answer, unless_bad}
use Rattle.tag.specs.Table.{places_of}
use Rattle.read.specs.Reading.{kept_tags, read_ground, whole_text, less_braces, block_of, answer, Answered}
use Rattle.refusal.specs.Refusal.{text_ground}
use Rattle.read.specs.declared.Span.{Span}
use Rattle.read.proofs.Parts.{SpanIn, braces_in}
use Rattle.read.proofs.MovedScan.{Window, On, either, if_lt, on, next, gap, ltb_on, eqb_on, byte, span_on, closing_on, past_on, trim_start_on}
use Rattle.read.proofs.MovedNumbers.{moved_f32, f32_on}
use Rattle.read.proofs.MovedPlain.{moved_one, key_at_on, plain_on}
use Rattle.read.proofs.Walk.{parse-end}

-- ---- what tags give, moved on

module _ (k : ℕ) where
  first-moved : (a b : Option ℕ) → first_of (moved_found k a) (moved_found k b) ≡ moved_found k (first_of a b)
  first-moved None b = refl
  first-moved (Some p) b = refl

  append-moved : (a b : Tags) → append (moved_tags k a) (moved_tags k b) ≡ moved_tags k (append a b)
  unfolding append moved_tags moved_tag
  append-moved none b = refl
  append-moved (and x l) b = ap (and (moved_tag k x)) (append-moved l b)

  join-moved : (a b : Got) → join (moved k a) (moved k b) ≡ moved k (join a b)
  join-moved a b = rw (append-moved a.tags b.tags, first-moved a.long b.long, first-moved a.far b.far)

  one-moved : (i : ℕ) (o : One) → one_got (k + i) (moved_one k o) ≡ moved k (one_got i o)
  unfolding moved_tags moved_tag
  one-moved i no = refl
  one-moved i (long p) = refl
  one-moved i (kept x) = refl
  one-moved i (far x) = refl

-- the places of a tag
record HeadOn (k n : ℕ) (h' h : Head) : Type 0 where
  name : On k n h'.name h.name
  end : On k n h'.end h.end
  p : On k n h'.p h.p
  q : On k n h'.q h.q
  next : On k n h'.next h.next

-- the numbers in front of a \t's tags
record PeelOn (k n : ℕ) (l' l : Peel) : Type 0 where
  heads : l'.heads ≡ l.heads
  rest : On k n l'.rest l.rest
  long : l'.long ≡ moved_found k l.long

module _ {k n : ℕ} where
  peeled_on : {i' i : ℕ} → On k n i' i → PeelOn k n (peeled i') (peeled i)
  peeled_on h = record { heads = refl; rest = h; long = refl }

  with_head_on : (x : Float) {l' l : Peel} → PeelOn k n l' l → PeelOn k n (with_head x l') (with_head x l)
  with_head_on x r = record { heads = ap (λ (y : List Float). x ∷ y) r.heads; rest = r.rest; long = r.long }

  module _ {i' i q' q j' j b' b : ℕ} {m' m : Peel} (h : On k n i' i) (g : On k n q' q) (f : On k n j' j) (same : j < q → b' ≡ b) (more : j < q → PeelOn k n m' m) where
    head_peel_on : (x : F32) → PeelOn k n (peel_head (moved_f32 k x) i' q' j' b' m') (peel_head x i q j b m)
    head_peel_on F32.none = peeled_on h
    head_peel_on (too_long_lem p) = record { heads = refl; rest = h; long = refl }
    head_peel_on (number x) =
        with_head_on x
        (rw (ltb_on f g) (if_lt (PeelOn k n) j q (λ l. rw (same l) (either (PeelOn k n) (eqb b 92) (peeled_on f) (more l))) (peeled_on g)))

  t_on : {l' l : Peel} {g' : Got} (g : Got) → PeelOn k n l' l → g' ≡ moved k g → t_of l' g' ≡ moved k (t_of l g)
  unfolding moved_tag moved_tags
  t_on {l'} {l} {g'} g r e = rw (e, r.heads, r.long, first-moved k l.long g.long)

-- ---- reading

module _ {w s : List ℕ} {k n : ℕ} (v : Window w s k n) where
  param_on : {name' name i' i e' e : ℕ} → On k n name' name → On k n i' i → On k n e' e → HeadOn k n (param_at w name' i' e') (param_at s name i e)
  unfolding param_at
  param_on {name'} {name} {i'} {i} {e'} {e} a h g =
      let d = span_on v h g (other 92) in
      let bare : HeadOn k n _ _ = record { name = a; end = h; p = h; q = d; next = d } in
      rw (ltb_on h g)
      (if_lt (HeadOn k n) i e
      (λ l.
      let r = next h (omega arith) in
      let c = closing_on v r g 1 in
      let x = closing_to s (i + 1) e 1 in
      let behind = if_lt (On k n) x e (λ l. next c (omega arith)) c in
      rw (byte v h (omega arith), ltb_on c g) (either (HeadOn k n) (eqb (get_or s i 0) 40) (record { name = a; end = h; p = r; q = c; next = behind }) bare))
      bare)

  head_on : {i' i e' e : ℕ} → On k n i' i → On k n e' e → i < n → HeadOn k n (head_at w i' e') (head_at s i e)
  head_on h g l =
      let r = next h l in
      param_on r (span_on v (past_on v r g (digit 10)) g letter) g

  peel-from : (m : ℕ) {i' i q' q : ℕ} → On k n i' i → On k n q' q → PeelOn k n (peel w q' m i') (peel s q m i)
  unfolding peel
  peel-from zero h g = peeled_on h
  peel-from (suc m) {i'} {i} {q'} {q} h g =
      let f = span_on v h g (none_of 44 92) in
      rw (f32_on v h f)
      (head_peel_on h g f (λ l. byte v f (omega arith)) (λ l. peel-from m (trim_start_on v (next f (omega arith)) g) g) (f32_at s i (head_end s i q)))

  peel_on : {p' p q' q : ℕ} → On k n p' p → On k n q' q → PeelOn k n (peel_to w p' q') (peel_to s p q)
  peel_on {p'} {p} {q'} {q} h g =
      let i = trim_start_on v h g in
      rw (gap i g) (peel-from (suc (q - trim_start s p q)) i g)

  -- what a \t's parameter gives in both texts
  module _ (inner' inner : ℕ → ℕ → Got) (same : (p' p q' q : ℕ) → On k n p' p → On k n q' q → inner' p' q' ≡ moved k (inner p q)) where
    tag_on : {i' i : ℕ} {h' h : Head} → On k n i' i → HeadOn k n h' h → tag_at inner' w i' h' ≡ moved k (tag_at inner s i h)
    unfolding tag_at
    tag_on {i'} {i} {h'} {h} a r =
        rw (key_at_on v r.name r.end, same h'.p h.p h'.q h.q r.p r.q, plain_on v r.name r.end r.p r.q, a.is, one-moved k i (plain_at s h.name h.end h.p h.q))
        (either (λ x y. x ≡ moved k y) (eqb (key_at s h.name h.end) t_key) refl refl)

    walk_on : (m : ℕ) {i' i e' e : ℕ} → On k n i' i → On k n e' e → walk inner' w e' m i' ≡ moved k (walk inner s e m i)
    unfolding walk moved_tags
    walk_on zero h g = refl
    walk_on (suc m) {i'} {i} {e'} {e} h g =
        rw (ltb_on h g)
        (if_lt G i e
        (λ l.
        let r = next h (omega arith) in
        let x = head_on h g (omega arith) in
        let y = head_at s i e in
        let skip = walk_on m r g in
        rw (byte v h (omega arith), eqb_on x.end r, tag_on h x, walk_on m x.next g, join-moved k (tag_at inner s i y) (walk inner s e m y.next))
        (either G (eqb (get_or s i 0) 92) (either G (eqb y.end (i + 1)) skip refl) skip))
        refl)
      where
        G : Got → Got → Type 0
        G x y = x ≡ moved k y

  t_at_on : (d : ℕ) (p' p q' q : ℕ) → On k n p' p → On k n q' q → t_at d w p' q' ≡ moved k (t_at d s p q)
  unfolding t_at moved_tags
  t_at_on zero p' p q' q h g = refl
  t_at_on (suc d) p' p q' q h g =
      let l = peel_on h g in
      t_on (tags_in (t_at d s) s (peel_to s p q).rest q) l (rw (gap l.rest g) (walk_on (t_at d w) (t_at d s) (t_at_on d) (q - (peel_to s p q).rest) l.rest g))

  parse_on : (d : ℕ) {i' i e' e : ℕ} → On k n i' i → On k n e' e → parse d w i' e' ≡ moved k (parse d s i e)
  unfolding parse moved_tags
  parse_on d {i'} {i} {e'} {e} h g = rw (gap h g) (walk_on (t_at d w) (t_at d s) (t_at_on d) (e - i) h g)

-- ---- the law

-- s with a in front of it and b behind it: between two places of s the whole text gives what s gives alone, moved on by a's length
module _ (a s b : List ℕ) where
  window : Window (a ++ (s ++ b)) s (length a) (length s)
  window = record { same = λ i l. get_or-append-add a (s ++ b) i 0 ∙ get_or-append s b 0 i l }

  pub parse-moved : (d i e : ℕ) → e ≤ length s → parse d (a ++ (s ++ b)) (length a + i) (length a + e) ≡ moved (length a) (parse d s i e)
  unfolding moved_tags
  parse-moved d i e h =
      ⊎_elim
      (λ (l : i ≤ length s). parse_on window d (on i l) (on e h))
      (λ (l : length s < i). rw (parse-end d (a ++ (s ++ b)) (length a + i) (length a + e) (omega arith), parse-end d s i e (omega arith)))
      (le_or_lt i (length s))

  -- all of s
  pub block-moved : (d : ℕ) → parse d (a ++ (s ++ b)) (length a) (length a + length s) ≡ moved (length a) (parse d s 0 (length s))
  block-moved d = rw add-zero at (parse-moved d 0 (length s) (le_refl (length s)))

-- moved tags are as many
pub kept-moved : (k : ℕ) (g : Got) → kept_tags (moved k g) ≡ kept_tags g
unfolding moved_tags
kept-moved k g = count_map (moved_part k) g.tags

-- ---- the part of a text that a call reads

-- The block, and the answer, are those of that part alone, offsets moved on: for the second call of what is left of the text less blanks and braces
-- (`braces_in` says that it lies inside). Grounds 1 and 2 look at the text given.
module _ (s : List ℕ) (x : Span) (inside : SpanIn s x) where
  abbrev inner : List ℕ
  inner = inner_text s x

  pub block_inside : block_of s x ≡ moved x.from (block_of inner (whole_text inner))
  block_inside =
      let n = x.to - x.from in
      let o = inside.order in
      let h = inside.high in
      let a = take x.from s in
      let b = drop x.to s in
      let la : length a ≡ x.from = length-take-le x.from s (omega arith) in
      let li : length inner ≡ n = length-take-le n (drop x.from s) (omega (arith, length-drop x.from s)) in
      let z : x.from + n ≡ x.to = omega arith in
      let c : drop x.to s ≡ drop n (drop x.from s) = ap (λ (m : ℕ). drop m s) (sym z) ∙ sym (drop-drop n x.from s) in
      let d : inner ++ b ≡ drop x.from s = ap (λ (l : List ℕ). inner ++ l) c ∙ take-append-drop n (drop x.from s) in
      let e : a ++ (inner ++ b) ≡ s = rw d (take-append-drop x.from s) in
      let w : length a + length inner ≡ x.to = rw (la, li) z in
      rw (e, w, la) at (block-moved a inner b most_depth)

  pub answer-inside : (places : ℕ) → let g = block_of inner (whole_text inner) in answer s x places ≡ unless_bad (text_ground s) (read_ground (moved_found x.from g.long) (moved_found x.from g.far) (kept_tags g) places)
  unfolding answer
  answer-inside places =
      let g = block_of inner (whole_text inner) in
      rw (block_inside, kept-moved x.from g)

-- so the second call says it beside its answer
pub raw_said : (s : List ℕ) {t u : List ℕ} {r : Answer} → Answered s (less_braces s) t r u → Answered s (less_braces s) t r u × AsAlone s (less_braces s) (places_of t) r
raw_said s {t} a = (a, record { block = block_inside s (less_braces s) (braces_in s); answer = a.reading ∙ answer-inside s (less_braces s) (braces_in s) (places_of t) })
