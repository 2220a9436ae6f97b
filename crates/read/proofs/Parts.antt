-- The parts of a text lie inside it, one behind the other; and what holds of each of them holds of all that a reading gives.
use mathlib.Core.Path.{◌≡◌, refl}
use mathlib.Core.Bool.{Bool, true, false, not, true≢false}
use mathlib.Core.Logic.{◌⊎◌, inl, inr, ⊎_elim}
use mathlib.Core.List.{List}
use Prim.Native.Nat.{ℕ, zero, suc, ◌+◌, ◌-◌, ◌≤◌, ◌<◌}
use native.Mathlib.Omega.{arith}
use native.Mathlib.Nat.{le_refl, le_trans}
use lib.ListN.{length, get_or}
use lib.Dec.{ltb, eqb}
use borrow.Author.Tests.{ne_eqb, eqb-true}
use Rattle.scan.specs.Scan.{pick, digit, letter, none_of, only, other, span_to, past, trim_start, opened, closing, closing_to, trim_end}
use Rattle.scan.proofs.Laws.{picked, span-low, closing-low}
use Rattle.numeral.specs.Numeral.{F32}
use Rattle.numeral.proofs.Reach.{Bounded}
use Rattle.survey.specs.Survey.{is_stop}
use Rattle.survey.proofs.Laws.{unplain_wider}
use Rattle.survey.proofs.Long.{Ends, byte_stops}
use Rattle.tag.specs.Tag.{append}
use Rattle.plain.specs.Names.{key_at, t_key}
use Rattle.plain.specs.Plain.{plain_at}
use Rattle.read.specs.declared.Head.{Head}
use Rattle.read.specs.declared.Span.{Span}
use Rattle.read.specs.Block.{Got, nothing, join, one_got, param_at, name_end, head_at, Peel, peeled, peel_head, head_end, peel, peel_to, t_of, tag_at, walk, tags_in, t_at, parse}
use Rattle.read.specs.Inner.{HeadIn}
use Rattle.read.specs.Reading.{whole_text, brace_end, less_braces}
use Rattle.scan.proofs.Bounds.{tested, span_to-high, past-high, trim_start-low, trim_start-high, trim_end-low, trim_end-high}
use Rattle.tag.specs.WellFormed.{All, all, more}
use Rattle.survey.proofs.Fields.{span-ends, not_stops}
use Rattle.read.proofs.Inside.{Between, nowhere, there, between_wider, F32In, no_numeral, too_long, a-number, f32_in}
use Rattle.read.proofs.Walk.{name-low}

-- ---- a tag's name and parameter

closing-high : (s : List ℕ) (n i k : ℕ) → closing s n i k ≤ i + n
unfolding closing
closing-high s zero i k = omega arith
closing-high s (suc n) i k =
    let h : closing s n (i + 1) (opened (get_or s i 0) k) ≤ i + 1 + n = closing-high s n (i + 1) (opened (get_or s i 0) k) in
    picked (λ (j : ℕ). j ≤ i + suc n) (eqb (opened (get_or s i 0) k) 0) _ _ (omega arith) (omega arith)

module _ (s : List ℕ) (name i e : ℕ) where
  abbrev In : Head → Type 0
  In r = HeadIn name i e r r

  closed_in : i < e → In (record { name = name; end = i; p = i + 1; q = closing_to s (i + 1) e 1; next = pick (ltb (closing_to s (i + 1) e 1) e) (closing_to s (i + 1) e 1 + 1) (closing_to s (i + 1) e 1) })
  closed_in l =
      let c = closing_to s (i + 1) e 1 in
      let a : i + 1 ≤ c = closing-low s (e - (i + 1)) (i + 1) 1 in
      let b : c ≤ e = omega (arith, closing-high s (e - (i + 1)) (i + 1) 1) in
      record {
        is = refl;
        name_is = refl;
        end_is = refl;
        low = omega arith;
        order = a;
        next_low = picked (λ (j : ℕ). c ≤ j) (ltb c e) _ _ (omega arith) (le_refl c);
        high = tested (λ (j : ℕ). j ≤ e) c e (λ (k : c < e). omega arith) (λ (k : e ≤ c). b);
      }

  param_in : i ≤ e → In (param_at s name i e)
  unfolding param_at
  param_in h =
      let d = span_to (other 92) s i e in
      let bare : In (record { name = name; end = i; p = i; q = d; next = d }) = record {
        is = refl;
        name_is = refl;
        end_is = refl;
        low = le_refl i;
        order = span-low (other 92) s (e - i) i;
        next_low = le_refl d;
        high = span_to-high (other 92) s i e h;
      } in
      tested In i e (λ (l : i < e). picked In (eqb (get_or s i 0) 40) _ _ (closed_in l) bare) (λ (l : e ≤ i). bare)

name-high : (s : List ℕ) (i e : ℕ) → i ≤ e → name_end s i e ≤ e
name-high s i e h = span_to-high letter s (past (digit 10) s i e) e (past-high (digit 10) s i e h)

head_in : (s : List ℕ) (i e : ℕ) → i < e → HeadIn (i + 1) (name_end s (i + 1) e) e (head_at s i e) (head_at s i e)
head_in s i e h = param_in s (i + 1) (name_end s (i + 1) e) e (name-high s (i + 1) e (omega arith))

-- ---- a parameter is a field

slash_stops : is_stop 92 ≡ true
unfolding is_stop
slash_stops = refl

closing_stops : is_stop 41 ≡ true
unfolding is_stop
closing_stops = refl

neither_stops : (b : ℕ) → none_of 44 92 b ≡ false → is_stop b ≡ true
unfolding is_stop
neither_stops b e = go (eqb b 44) (eqb b 92) refl refl e
  where
    go : (t u : Bool) → eqb b 44 ≡ t → eqb b 92 ≡ u → pick t false (not u) ≡ false → is_stop b ≡ true
    go true u p q f = byte_stops b 44 p refl
    go false true p q f = byte_stops b 92 q refl
    go false false p q f = absurd (true≢false f)

-- a parenthesis that closes, or the end
closing-is : (s : List ℕ) (n i k : ℕ) → 0 < k → (closing s n i k ≡ i + n) ⊎ (get_or s (closing s n i k) 0 ≡ 41)
unfolding closing
closing-is s zero i k h = inl (omega arith)
closing-is s (suc n) i k h = go (eqb (get_or s i 0) 40) (eqb (get_or s i 0) 41) refl (λ j l. closing-is s n (i + 1) j l)
  where
    Closes : ℕ → Type 0
    Closes r = (r ≡ i + suc n) ⊎ (get_or s r 0 ≡ 41)

    later : (j : ℕ) → ((closing s n (i + 1) j ≡ i + 1 + n) ⊎ (get_or s (closing s n (i + 1) j) 0 ≡ 41)) → Closes (closing s n (i + 1) j)
    later j f = ⊎_elim (λ (z : closing s n (i + 1) j ≡ i + 1 + n). inl (omega arith)) (λ z. inr z) f

    step : (j : ℕ) → ((l : ℕ) → 0 < l → (closing s n (i + 1) l ≡ i + 1 + n) ⊎ (get_or s (closing s n (i + 1) l) 0 ≡ 41)) → (j ≡ 0 → get_or s i 0 ≡ 41) → Closes (pick (eqb j 0) i (closing s n (i + 1) j))
    step zero f g = inr (g refl)
    step (suc j) f g = rw (ne_eqb (suc j) 0 (λ z. omega arith)) (later (suc j) (f (suc j) (omega arith)))

    go : (t u : Bool) → eqb (get_or s i 0) 41 ≡ u → ((l : ℕ) → 0 < l → (closing s n (i + 1) l ≡ i + 1 + n) ⊎ (get_or s (closing s n (i + 1) l) 0 ≡ 41)) → Closes (pick (eqb (pick t (k + 1) (pick u (k - 1) k)) 0) i (closing s n (i + 1) (pick t (k + 1) (pick u (k - 1) k))))
    go true u q f = step (k + 1) f (λ z. absurd (omega arith))
    go false true q f = step (k - 1) f (λ z. eqb-true (get_or s i 0) 41 q)
    go false false q f = step k f (λ z. absurd (omega arith))

param_ends : (s : List ℕ) (top name i e : ℕ) → i ≤ e → Ends s top e → Ends s top (param_at s name i e).q
unfolding param_at
param_ends s top name i e h f =
    let bare : Ends s top (span_to (other 92) s i e) = span-ends (other 92) s top i e (not_stops 92 slash_stops) h f in
    tested (λ (r : Head). Ends s top r.q) i e
    (λ (l : i < e). picked (λ (r : Head). Ends s top r.q) (eqb (get_or s i 0) 40) _ _
    (let z : i + 1 + (e - (i + 1)) ≡ e = omega arith in
    ⊎_elim (λ (k : closing_to s (i + 1) e 1 ≡ i + 1 + (e - (i + 1))). rw (k, z) f) (λ (k : get_or s (closing_to s (i + 1) e 1) 0 ≡ 41). inr (rw k closing_stops)) (closing-is s (e - (i + 1)) (i + 1) 1 (omega arith)))
    bare)
    (λ (l : e ≤ i). bare)

-- ---- the numbers in front of a \t's tags

-- the numbers are in reach, the tags begin between i and q, and so does a numeral that is too long
pub record PeelIn (s : List ℕ) (top i q : ℕ) (l : Peel) : Type 0 where
  pub heads : All Bounded l.heads
  pub low : i ≤ l.rest
  pub high : l.rest ≤ q
  pub long : Between s top i q l.long

peeled_in : {s : List ℕ} {top i j q : ℕ} → i ≤ j → j ≤ q → PeelIn s top i q (peeled j)
peeled_in a b = record { heads = all; low = a; high = b; long = nowhere }

later_in : {s : List ℕ} {top i j q : ℕ} {l : Peel} → i ≤ j → PeelIn s top j q l → PeelIn s top i q l
later_in {q = q} a l = record { heads = l.heads; low = omega (arith, l.low); high = l.high; long = between_wider a (le_refl q) l.long }

module _ (s : List ℕ) (top i q k b : ℕ) (u : Peel) (low : i ≤ k) (high : k ≤ q) (g : k < q → PeelIn s top k q u) where
  head_peels : {x : F32} → F32In s top i k x → PeelIn s top i q (peel_head x i q k b u)
  head_peels no_numeral = peeled_in (le_refl i) (omega arith)
  head_peels (too_long p m n v) = record { heads = all; low = le_refl i; high = omega arith; long = there p m (omega arith) (unplain_wider (le_refl i) high v) }
  head_peels (a-number x) =
      let v : PeelIn s top k q (pick (ltb k q) (pick (eqb b 92) (peeled k) u) (peeled q)) =
      tested (PeelIn s top k q) k q (λ (y : k < q). picked (PeelIn s top k q) (eqb b 92) _ _ (peeled_in (le_refl k) high) (g y)) (λ (y : q ≤ k). peeled_in high (le_refl q)) in
      let w = later_in low v in
      record { heads = more x w.heads; low = w.low; high = w.high; long = w.long }

peel_in : (s : List ℕ) (top q n i : ℕ) → i ≤ q → q ≤ top → Ends s top q → PeelIn s top i q (peel s q n i)
unfolding peel
peel_in s top q zero i h g f = peeled_in (le_refl i) h
peel_in s top q (suc n) i h g f =
    let k = head_end s i q in
    let low : i ≤ head_end s i q = span-low (none_of 44 92) s (q - i) i in
    head_peels s top i q k (get_or s k 0) (peel s q n (trim_start s (k + 1) q)) low (span_to-high (none_of 44 92) s i q h)
    (λ (y : head_end s i q < q).
    let a : head_end s i q + 1 ≤ trim_start s (head_end s i q + 1) q = trim_start-low s (k + 1) q in
    later_in (omega arith) (peel_in s top q n (trim_start s (k + 1) q) (trim_start-high s (k + 1) q (omega arith)) g f))
    (f32_in s top i k (le_trans (span_to-high (none_of 44 92) s i q h) g) (span-ends (none_of 44 92) s top i q neither_stops h f))

pub peel_to_in : (s : List ℕ) (top p q : ℕ) → p ≤ q → q ≤ top → Ends s top q → PeelIn s top p q (peel_to s p q)
peel_to_in s top p q h g f =
    let i = trim_start s p q in
    later_in (trim_start-low s p q) (peel_in s top q (suc (q - i)) i (trim_start-high s p q h) g f)

-- ---- a whole text

-- what holds of nothing, of two texts that follow each other, of a plain tag and of a \t holds of all that a text gives.
-- P d i e g: of what the text from i to e gives with d more levels of \t allowed
-- in a text that ends at top
module _ (s : List ℕ) (top : ℕ) (P : ℕ → ℕ → ℕ → Got → Type 0)
    (none_has : (d i e : ℕ) → i ≤ e → P d i e nothing)
    (join-has : (d i k e : ℕ) (g h : Got) → i ≤ k → k ≤ e → P d i k g → P d k e h → P d i e (join g h))
    (plain-has : (d i m p q e : ℕ) → get_or s i 0 ≡ 92 → i < m → m ≤ p → p ≤ q → q ≤ e → q ≤ top → Ends s top q → P d i e (one_got i (plain_at s (i + 1) m p q)))
    (t-has : (d i p q e : ℕ) (l : Peel) (g : Got) → get_or s i 0 ≡ 92 → i < p → q ≤ e → PeelIn s top p q l → P d l.rest q g → P (suc d) i e (t_of l g)) where
  -- a byte that is a backslash, or any
  slashed : (i : ℕ) (Q : Got → Type 0) {x y : Got} → (get_or s i 0 ≡ 92 → Q x) → Q y → Q (pick (eqb (get_or s i 0) 92) x y)
  slashed i Q {x} {y} f g = go (eqb (get_or s i 0) 92) refl
    where
      go : (b : Bool) → eqb (get_or s i 0) 92 ≡ b → Q (pick b x y)
      go true t = f (eqb-true (get_or s i 0) 92 t)
      go false t = g

  walk_has : (d : ℕ) (inner : ℕ → ℕ → Got) → ((i p q e : ℕ) → get_or s i 0 ≡ 92 → i < p → p ≤ q → q ≤ e → q ≤ top → Ends s top q → P d i e (inner p q)) → (e n i : ℕ) → i ≤ e → e ≤ top → Ends s top e → P d i e (walk inner s e n i)
  unfolding walk tag_at append
  walk_has d inner f e zero i h g k = none_has d i e h
  walk_has d inner f e (suc n) i h g k =
      tested (P d i e) i e (λ (l : i < e).
      let r = head_at s i e in
      let a = head_in s i e l in
      let b : i + 1 ≤ name_end s (i + 1) e = name-low s (i + 1) e in
      let after : i + 1 ≤ e = omega arith in
      let below : r.q ≤ top = le_trans a.next_low (le_trans a.high g) in
      let field : Ends s top r.q = param_ends s top (i + 1) (name_end s (i + 1) e) e (name-high s (i + 1) e after) k in
      let skip : P d i e (walk inner s e n (i + 1)) = join-has d i (i + 1) e nothing _ (omega arith) after (none_has d i (i + 1) (omega arith)) (walk_has d inner f e n (i + 1) after g k) in
      slashed i (P d i e)
      (λ (z : get_or s i 0 ≡ 92). picked (P d i e) (eqb r.end (i + 1)) _ _ skip
      (join-has d i r.next e _ _ (omega arith) a.high
      (picked (P d i r.next) (eqb (key_at s r.name r.end) t_key) _ _ (f i r.p r.q r.next z (omega arith) a.order a.next_low below field)
      (rw a.name_is (plain-has d i r.end r.p r.q r.next z (omega (arith, a.end_is)) (omega (arith, a.end_is, a.low)) a.order a.next_low below field)))
      (walk_has d inner f e n r.next a.high g k)))
      skip)
      (λ (l : e ≤ i). none_has d i e h)

  t_at_has : (d i p q e : ℕ) → get_or s i 0 ≡ 92 → i < p → p ≤ q → q ≤ e → q ≤ top → Ends s top q → P d i e (t_at d s p q)
  unfolding t_at
  t_at_has zero i p q e z a b c m n = none_has zero i e (omega arith)
  t_at_has (suc d) i p q e z a b c m n =
      let l = peel_to s p q in
      let f = peel_to_in s top p q b m n in
      t-has d i p q e l (tags_in (t_at d s) s l.rest q) z a c f (walk_has d (t_at d s) (t_at_has d) q (q - l.rest) l.rest f.high m n)

  pub parse_has : (d i e : ℕ) → i ≤ e → e ≤ top → Ends s top e → P d i e (parse d s i e)
  unfolding parse
  parse_has d i e h g k = walk_has d (t_at d s) (t_at_has d) e (e - i) i h g k

-- ---- the part of the text that a call reads

pub record SpanIn (s : List ℕ) (x : Span) : Type 0 where
  pub order : x.from ≤ x.to
  pub high : x.to ≤ length s

pub whole_in : (s : List ℕ) → SpanIn s (whole_text s)
whole_in s = record { order = omega arith; high = le_refl (length s) }

brace_low : (s : List ℕ) (p b : ℕ) → p ≤ b → p ≤ brace_end s p b
brace_low s p b h = tested (λ (j : ℕ). p ≤ j) p b (λ (l : p < b). picked (λ (j : ℕ). p ≤ j) (eqb (get_or s (b - 1) 0) 125) _ _ (omega arith) h) (λ (l : b ≤ p). h)

brace_high : (s : List ℕ) (p b : ℕ) → brace_end s p b ≤ b
brace_high s p b = picked (λ (j : ℕ). j ≤ b) (ltb p b) _ _ (picked (λ (j : ℕ). j ≤ b) (eqb (get_or s (b - 1) 0) 125) _ _ (omega arith) (le_refl b)) (le_refl b)

pub braces_in : (s : List ℕ) → SpanIn s (less_braces s)
unfolding less_braces
braces_in s =
    let a = trim_start s 0 (length s) in
    let b = trim_end s a (length s) in
    let p = past (only 123) s a b in
    let l : a ≤ b = trim_end-low s a (length s) (trim_start-high s 0 (length s) (omega arith)) in
    record { order = brace_low s p b (past-high (only 123) s a b l); high = le_trans (brace_high s p b) (trim_end-high s a (length s)) }
