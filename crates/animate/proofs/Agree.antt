-- Demand 3, proved: from what each controller is told, the claim on both.
use mathlib.Core.Path.{◌≡◌, refl, sym, ap, ◌∙◌}
use mathlib.Core.List.{List}
use mathlib.Core.Logic.{⊎_elim}
use mathlib.Core.Bool.{Bool, true, false}
use Prim.Native.Nat.{ℕ, zero, suc, ◌≤◌, ◌<◌, min}
use native.Mathlib.Omega.{arith}
use lib.Dec.{leb}
use lib.IntN.{ℤ}
use lib.ListN.{length, take}
use lib.Signed.{le_z}
use lib.Seq.{take_all}
use borrow.Author.Tests.{le-leb, lt-leb, leb-true, leb-false}
use Rattle.scan.specs.Scan.{pick}
use Rattle.scan.proofs.Laws.{le_or_lt}
use Rattle.refusal.specs.Refusal.{Checked, number_of, most_places, text_ground}
use Rattle.std.specs.Prelude.{Option, Some, None, Ok, Err}
use Rattle.refusal.specs.Answer.{Answer, first_ground, room_for, unless_bad}
use Rattle.refusal.specs.declared.Refusal.{Refusal}
use Rattle.refusal.specs.declared.Refusal.TheVariants.{TextTooLong, NotAscii, NumeralTooLong, FadeTooFar, TableMalformed, TimeOutOfRange, ScaleTooLarge, NameBeyondText, NoRoom}
use Rattle.tag.specs.Tag.{Tags, count}
use Rattle.tag.specs.Table.{places_of}
use Rattle.tag.proofs.Formed.{formed-ground}
use Rattle.read.specs.declared.Span.{Span}
use Rattle.read.specs.Reading.{read_ground, block_of, answer, after}
use Rattle.read.specs.Holds.{Holds}
use Rattle.read.proofs.Parts.{SpanIn}
use Rattle.read.proofs.Holds.{holds}
use Rattle.read.proofs.Places.{few_read}
use Rattle.table.specs.Ground.{InTime, time_ground, Fine, call_ground_to, call_ground}
use Rattle.table.proofs.Grounds.{fine-good}
use Rattle.state.specs.Apply.{evaluate_at}
use Rattle.words.specs.Words.{state_words}
use Rattle.evaluate.specs.Evaluate.{evaluated_to, evaluated}
use Rattle.marks.specs.Answer.{marked_to, marked}
use Rattle.marks.specs.Marks.{marks, NoMark, next_mark}
use Rattle.marks.proofs.Earliest.{next-earliest}
use Rattle.marks.proofs.Same.{same_at}
use Rattle.marks.proofs.Order.{le_z_true, le_z_false, <ℤ-≤ℤ}
use Rattle.hannuvel.specs.Packed.{word_ground, word_value, Unpacks, SaysAnswer}
use Rattle.hannuvel.specs.Instant.{Names}
use Rattle.animate.specs.declared.Seen.{Seen}
use Rattle.animate.specs.declared.Told.{Told}
use Rattle.animate.specs.declared.Both.{Both}
use Rattle.animate.specs.Claim.{block_tags, long_ground, far_ground, other_ground, earlier, later, Lent, lent, Refuses, FromText, OnlyFromText, Space, counted, Hold, LateAt, Shown, Agreed}
use Rattle.animate.specs.Inner.{records_in, Saw, Ran}

-- ---- refusals and space

-- the answer, from the grounds, the count and the places
abbrev out : Checked → Option ℕ → Option ℕ → ℕ → ℕ → Answer
out c l f n p = unless_bad c (read_ground l f n p)

refused-out : (c : Checked) (l f : Option ℕ) (n p : ℕ) (g : Refusal) → first_ground c (first_ground (long_ground l) (far_ground f)) ≡ Err g → out c l f n p ≡ Err g
unfolding read_ground
refused-out (Err b) l f n p g e = cc
refused-out (Ok _) (Some a) f n p g e = cc
refused-out (Ok _) None (Some a) n p g e = cc
refused-out (Ok _) None None n p g e = absurd (let z : ◌≡◌ {A = ℕ} 0 1 = cc in omega arith)

space-out : (c : Checked) (l f : Option ℕ) (n p : ℕ) → first_ground c (first_ground (long_ground l) (far_ground f)) ≡ Ok tt → out c l f n p ≡ room_for n p
unfolding read_ground
space-out (Err b) l f n p e = absurd (let z : ◌≡◌ {A = ℕ} 0 1 = cc in omega arith)
space-out (Ok _) (Some a) f n p e = absurd (let z : ◌≡◌ {A = ℕ} 0 1 = cc in omega arith)
space-out (Ok _) None (Some a) n p e = absurd (let z : ◌≡◌ {A = ℕ} 0 1 = cc in omega arith)
space-out (Ok _) None None n p e = refl

-- every ground has a number
numbered : (g : Refusal) → ¬ (number_of g ≡ 0)
numbered TextTooLong e = omega arith
numbered (NotAscii p) e = omega arith
numbered (NumeralTooLong p) e = omega arith
numbered (FadeTooFar p) e = omega arith
numbered (TableMalformed p) e = omega arith
numbered TimeOutOfRange e = omega arith
numbered ScaleTooLarge e = omega arith
numbered NameBeyondText e = omega arith
numbered (NoRoom n) e = omega arith

-- a number that names a mark, or none, is no refusal
named : (w : ℕ) (m : Option ℤ) → Names w m → word_ground w ≡ 0
named w None n = n.ground
named w (Some a) n = n.0.ground

-- so many words of a list, or all of it where it has fewer
pub take-least : (n m : ℕ) (l : List ℕ) → m ≡ min n (length l) → take m l ≡ take n l
take-least n m l e = go (leb n (length l)) refl
  where
    go : (b : Bool) → leb n (length l) ≡ b → take m l ≡ take n l
    go true h = let k : m ≡ n = omega (arith, leb-true n (length l) h) in rw k
    go false h = take_all m l (omega (arith, leb-false n (length l) h)) ∙ sym (take_all n l (omega (arith, leb-false n (length l) h)))

-- ---- one controller

module _ (s : List ℕ) (x : Span) (inside : SpanIn s x) (t u dur : ℤ) where
  abbrev l : Tags
  l = block_tags s x

  is-out : (p : ℕ) → answer s x p ≡ out (text_ground s) (block_of s x).long (block_of s x).far (count l) p
  unfolding answer
  is-out p = refl

  module _ {a a' : Lent} {r : Told} (ran : Ran s x a t u dur r a') where
    abbrev places : ℕ
    places = places_of a.table

    refused : (g : Refusal) → other_ground s x ≡ Err g → Refuses r.reading g
    unfolding other_ground
    refused g e = rw (is-out places ∙ refused-out (text_ground s) (block_of s x).long (block_of s x).far (count l) places g e) at ran.reading.answered

    space : other_ground s x ≡ Ok tt → Space (count l) (counted a) r.reading
    unfolding other_ground
    space e =
        let k = rw (is-out places ∙ space-out (text_ground s) (block_of s x).long (block_of s x).far (count l) places e) at ran.reading.answered in
        record { lacks = λ h. rw (lt-leb (count l) (counted a) h) at k; fits = λ h. rw (le-leb (count l) (counted a) h) at k }

    only : OnlyFromText s x r.reading
    only no9 no0 = go (other_ground s x) refl
      where
        go : (c : Checked) → other_ground s x ≡ c → FromText s x r.reading
        go (Err g) e = record { ground = g; stands = e; told = refused g e }
        go (Ok _) e = absurd (⊎_elim (λ h. no9 ((space e).fits h).ground) (λ h. no0 ((space e).lacks h).ground) (le_or_lt (count l) (counted a)))

    -- by the answer, which the number has whole
    answered_by : {P : Type 0} → ((n : ℕ) → answer s x places ≡ Ok n → Unpacks r.reading 0 0 n → P) → ((g : Refusal) → answer s x places ≡ Err g → Refuses r.reading g → P) → P
    answered_by {P} f g = go (answer s x places) refl ran.reading.answered
      where
        go : (b : Answer) → answer s x places ≡ b → SaysAnswer r.reading b → P
        go (Ok n) e k = f n e k
        go (Err b) e k = g b e k

    untouched : ¬ (word_ground r.reading ≡ 0) → a' ≡ a
    unfolding after
    untouched bad =
        answered_by
        (λ n e k. absurd (bad k.ground))
        (λ g e k.
        let w : a'.table ≡ a.table = ran.reading.table ∙ rw e in
        let p : 0 < word_ground r.reading = positive (word_ground r.reading) bad in
        let v = ran.unasked p in
        whole w v.0 v.1)
      where
        positive : (n : ℕ) → ¬ (n ≡ 0) → 0 < n
        positive zero h = absurd (h refl)
        positive (suc n) h = omega arith

        whole : {b c : Lent} → b.table ≡ c.table → b.one ≡ c.one → b.other ≡ c.other → b ≡ c
        whole {b} {c} e f g = ap (λ (v : List ℕ). lent v b.one b.other) e ∙ ap (λ (v : List ℕ). lent c.table v b.other) f ∙ ap (λ (v : List ℕ). lent c.table c.one v) g

    -- the records that the calls get are well formed and stand for the block's tags
    held : word_ground r.reading ≡ 0 → Holds (records_in r.reading a'.table) l
    held z =
        answered_by
        (λ n e k.
        let h = holds s x inside a.table n e in
        let few : n ≤ most_places = few-out n e in
        let m : min (word_value r.reading) most_places ≡ n = omega (arith, k.value) in
        rw (m, ran.reading.table) h)
        (λ g e k. absurd (numbered g (sym k.ground ∙ z)))
      where
        few-out : (n : ℕ) → answer s x places ≡ Ok n → n ≤ most_places
        few-out n e = (rw e at (few_read s x places))

  module _ {ws : List ℕ} (h : Holds ws l) (i : ℤ) where
    -- in range a call answers
    module _ (k : InTime i) (d : InTime dur) {v w : List ℕ} {p : Seen} (saw : Saw ws i dur v p w) where
      fine : Fine ws i dur
      fine = record { formed = h.formed; instant = k; duration = d }

      is_state : evaluated ws i dur ≡ Ok (evaluate_at i dur l)
      unfolding evaluated_to
      is_state = rw (fine-good ws i dur fine, h.tags)

      state-is : w ≡ state_words (evaluate_at i dur l)
      state-is = rw is_state at saw.state.state

      next-is : Names p.next (next_mark i dur l)
      next-is = rw h.tags at (saw.next.exact fine).names

      answers : Unpacks p.evaluated 0 0 0 × (word_ground p.next ≡ 0)
      answers = (rw is_state at saw.state.answered, named p.next (next_mark i dur l) next-is)

    -- out of range it is refused
    module _ (g : Refusal) (k : time_ground i dur ≡ Err g) {v w : List ℕ} {p : Seen} (saw : Saw ws i dur v p w) where
      bad : call_ground ws i dur ≡ Err g
      unfolding call_ground_to
      bad = rw (formed-ground ws h.formed, k)

      is-refused : evaluated ws i dur ≡ Err g
      unfolding evaluated_to
      is-refused = rw bad

      no_mark : marked ws i dur ≡ Err g
      unfolding marked_to
      no_mark = rw bad

      unwritten : w ≡ v
      unwritten = rw is-refused at saw.state.state

      refuses : Refuses p.evaluated g × Refuses p.next g
      refuses = (rw is-refused at saw.state.answered, rw no_mark at saw.next.answered)

  -- ---- both

  unmoved : NoMark (marks dur l) (earlier t u) (later t u) → evaluate_at u dur l ≡ evaluate_at t dur l
  unmoved n = go (le_z t u) refl n
    where
      go : (b : Bool) → le_z t u ≡ b → NoMark (marks dur l) (pick b t u) (pick b u t) → evaluate_at u dur l ≡ evaluate_at t dur l
      go true e n = sym (same_at dur t u l (le_z_true e) n)
      go false e n = same_at dur u t l (<ℤ-≤ℤ (le_z_false e)) n

  module _ {a b a' b' : Lent} {r : Both} (p : Ran s x a t u dur r.a a') (q : Ran s x b t u dur r.b b') where
    module _ (h : Hold r) where
      hp : Holds (records_in r.a.reading a'.table) l
      hp = held p h.a

      hq : Holds (records_in r.b.reading b'.table) l
      hq = held q h.b

      late : (g : Refusal) →
          (time_ground t dur ≡ Err g → LateAt g r.a.one r.b.one × (a'.one ≡ a.one) × (b'.one ≡ b.one)) ×
          (time_ground u dur ≡ Err g → LateAt g r.a.other r.b.other × (a'.other ≡ a.other) × (b'.other ≡ b.other))
      late g = (
        λ k. let v = p.one h.a in let w = q.one h.b in (record { a = refuses hp t g k v; b = refuses hq t g k w }, unwritten hp t g k v, unwritten hq t g k w),
        λ k. let v = p.other h.a in let w = q.other h.b in (record { a = refuses hp u g k v; b = refuses hq u g k w }, unwritten hp u g k v, unwritten hq u g k w),
      )

      module _ (i : InTime t) (j : InTime u) (d : InTime dur) where
        shown : Shown l t u dur r a' b'
        shown =
            let v = p.one h.a in
            let w = q.one h.b in
            let y = p.other h.a in
            let z = q.other h.b in
            let e = state-is hp t i d v in
            let f = state-is hq t i d w in
            let g = state-is hp u j d y in
            let k = state-is hq u j d z in
            record {
              answered = (record { a = answers hp t i d v; b = answers hq t i d w }, record { a = answers hp u j d y; b = answers hq u j d z });
              states = λ n. let m = unmoved n in (e, f, g ∙ ap state_words m, k ∙ ap state_words m, m);
              own = (e, f, g, k);
              next = (
                record { earliest = next-earliest t dur l; a = next-is hp t i d v; b = next-is hq t i d w },
                record { earliest = next-earliest u dur l; a = next-is hp u j d y; b = next-is hq u j d z },
              );
            }

    pub agreed : Agreed s x a b t u dur r a' b'
    agreed = record {
      refused = λ g e. (refused p g e, refused q g e);
      only = (only p, only q);
      late = late;
      untouched = (untouched p, untouched q);
      space = λ e. (space p e, space q e);
      shown = shown;
    }
