-- Spans written one behind the other.
use mathlib.Core.Path.{◌≡◌, refl, sym, ap, ◌∙◌}
use mathlib.Core.Bool.{Bool, true, false}
use mathlib.Core.List.{List, [], ◌∷◌, ◌++◌, append_assoc}
use Prim.Native.Nat.{ℕ, suc, ◌+◌, ◌*◌, ◌≤◌, ◌<◌, min}
use native.Mathlib.Omega.{arith}
use lib.Dec.{leb}
use lib.ListN.{length, get_or, take, drop, set, length-append, length-drop}
use lib.Seq.{sets-eq, set_at, take_all, take-add, drop-cons, drop-drop, length-take-le}
use borrow.Author.Tests.{leb-true, le-leb, lt-leb}
use Rattle.scan.specs.Scan.{pick}
use Rattle.rows.proofs.Laws as rows
use Rattle.refusal.specs.Refusal.{Checked, most_places}
use Rattle.refusal.specs.declared.Refusal.{Refusal}
use Rattle.refusal.specs.declared.Refusal.TheVariants.{NoRoom}
use Rattle.std.specs.Prelude.{Ok, Err}
use Rattle.refusal.specs.Answer.{Answer, room_for, unless_bad}
use Rattle.tag.specs.Table.{kind_word}
use Rattle.tag.specs.WellFormed.{records_of, table_ground}
use Rattle.tag.proofs.Formed.{ground-formed}
use Rattle.karaoke.specs.declared.KaraokeSpan.{KaraokeSpan}
use Rattle.karaoke.specs.Answer.{spans_of, answer_to, answer, written, after, span_width, span_words, places_of, laid_spans, words_after_to, words_after}
use Rattle.karaoke.specs.Inner.{beats_from, all_spans, counted}
use Rattle.karaoke.proofs.Beats.{beats-few, length-spans}
use Rattle.karaoke.proofs.Flat.{flat}

-- ---- three words a span

wide : (s : KaraokeSpan) → length (span_words s) ≡ span_width
wide s = refl

-- a span's words stored from the word k on
pub put-at : (t : List ℕ) (k : ℕ) (s : KaraokeSpan) → k + span_width ≤ length t
    → set (set (set t k (kind_word s.kind)) (k + 1) s.start_ms.0) (k + 2) s.end_ms.0 ≡ take k t ++ laid_spans (drop k t) (s ∷ [])
put-at t k s h =
    let l = rows.laid_more span_width span_words (drop k t) s [] (omega (arith, length-drop k t)) in
    let e = sets-eq (span_words s) t k h ∙ append_assoc (take k t) (span_words s) (drop (k + span_width) t) in
    let z : k + 1 ≡ suc k = omega arith in
    let y : k + 2 ≡ suc (suc k) = omega arith in
    rw (z, y) (e ∙ rw (l, rows.laid_nil span_width span_words (drop span_width (drop k t)), drop-drop span_width k t))

pub length-laid : (l : List KaraokeSpan) (t : List ℕ) → length (laid_spans t l) ≡ length t
length-laid l t = rows.length-laid span_width span_words wide l t

-- ---- grounds 5 and 9

apart : {r : Refusal} {n : ℕ} → Err r ≡ Ok n → ⊥
apart e = let z : ◌≡◌ {A = ℕ} 0 1 = cc in omega arith

module _ (ws : List ℕ) where
  length-all : length (all_spans ws) ≡ length (beats_from ws 0)
  length-all = length-spans _ (beats_from ws 0)

  -- where no ground stands against the table, there are at most 1,024
  pub few-spans : table_ground ws ≡ Ok tt → length (spans_of ws) ≤ most_places
  unfolding beats_from
  few-spans g = let e : length (spans_of ws) ≡ length (beats_from ws 0) = ap length (flat ws g) ∙ length-all in omega (arith, beats-few 0 (records_of ws), (ground-formed ws g).few)

  module _ (places : ℕ) where
    -- what an answer says: all spans are to be written, and there are places for them
    pub record Lets (n : ℕ) : Type 0 where
      pub all : spans_of ws ≡ all_spans ws
      pub count : n ≡ length (all_spans ws)
      pub room : n ≤ places
      pub few : n ≤ most_places

    pub lets : {n : ℕ} → Ok n ≡ answer ws places → Lets n
    unfolding answer_to
    lets {n} e = go (table_ground ws) refl e
      where
        room : spans_of ws ≡ all_spans ws → (b : Bool) → leb (length (spans_of ws)) (min places most_places) ≡ b → Ok n ≡ pick b (Ok (length (spans_of ws))) (Err (NoRoom (length (spans_of ws)))) → Lets n
        room g true h q = let z : n ≡ length (spans_of ws) = cc in record { all = g; count = z ∙ ap length g; room = omega (arith, z, leb-true (length (spans_of ws)) (min places most_places) h); few = omega (arith, z, leb-true (length (spans_of ws)) (min places most_places) h) }
        room g false h q = absurd (apart (sym q))

        go : (c : Checked) → table_ground ws ≡ c → Ok n ≡ unless_bad c (room_for (length (spans_of ws)) places) → Lets n
        go (Ok _) g q = room (flat ws g) (leb (length (spans_of ws)) (min places most_places)) refl q
        go (Err r) g q = absurd (apart (sym q))

    module _ {a : Answer} (e : a ≡ counted ws) where
      pub refused-table : {r : Refusal} → a ≡ Err r → Err r ≡ answer ws places
      unfolding answer_to
      refused-table {r} k = go (table_ground ws) (sym k ∙ e)
        where
          go : (c : Checked) → Err r ≡ unless_bad c (Ok (length (beats_from ws 0))) → Err r ≡ unless_bad c (room_for (length (spans_of ws)) places)
          go (Ok _) q = absurd (apart q)
          go (Err b) q = q

      module _ {n m : ℕ} (k : a ≡ Ok n) (q : m ≡ min places most_places) where
        good : (table_ground ws ≡ Ok tt) × (n ≡ length (beats_from ws 0))
        good = go (table_ground ws) (sym k ∙ e)
          where
            go : (c : Checked) → Ok n ≡ unless_bad c (Ok (length (beats_from ws 0))) → (c ≡ Ok tt) × (n ≡ length (beats_from ws 0))
            go (Ok _) z = (refl, cc)
            go (Err b) z = absurd (apart (sym z))

        needed : length (spans_of ws) ≡ n
        needed = ap length (flat ws good.0) ∙ length-all ∙ sym good.1

        pub room_enough : n ≤ m → Ok n ≡ answer ws places
        unfolding answer_to
        room_enough h = rw (good.0, needed, le-leb n (min places most_places) (omega arith))

        pub room_lacking : m < n → Err (NoRoom n) ≡ answer ws places
        unfolding answer_to
        room_lacking h = rw (good.0, needed, lt-leb n (min places most_places) (omega arith))

-- ---- one span after the other

-- x and those of `rest` are left behind i of all: so i is not the last, and x is the one behind the first i
module _ (all : List KaraokeSpan) (i : ℕ) (x : KaraokeSpan) (rest : List KaraokeSpan) (e : drop i all ≡ x ∷ rest) where
  pub more : i < length all
  more = let h = ap length e in omega (arith, length-drop i all)

  pub left : drop (i + 1) all ≡ rest
  left = sym (drop-drop 1 i all) ∙ ap (drop 1) e

  next : take (i + 1) all ≡ take i all ++ (x ∷ [])
  next = take-add i 1 all ∙ ap (λ (l : List KaraokeSpan). take i all ++ take 1 l) e

  -- the words with one span more
  pub words_turn : (t u : List ℕ) → length all * 3 ≤ length t → u ≡ laid_spans t (take i all) → take (3 * i) u ++ laid_spans (drop (3 * i) u) (x ∷ []) ≡ laid_spans t (take (i + 1) all)
  words_turn t u g d =
      let z : length (take i all) ≡ i = length-take-le i all (omega (arith, more)) in
      let m : 3 * i ≡ min (span_width * length (take i all)) (length t) = omega (arith, more) in
      rw d (sym (ap (laid_spans t) next ∙ rows.laid-append span_width span_words wide (take i all) (x ∷ []) t (3 * i) m))

  -- the list with one span more
  pub list_turn : (l m : List KaraokeSpan) → length all ≤ length l → m ≡ written (take i all) l → set m i x ≡ written (take (i + 1) all) l
  list_turn l m g d =
      let a = take i all in
      let z : length a ≡ i = length-take-le i all (omega (arith, more)) in
      let y : length (a ++ (x ∷ [])) ≡ suc i = simp length-append (omega arith) in
      let c : drop i l ≡ get_or l i x ∷ drop (suc i) l = drop-cons l i x (omega (arith, more)) in
      rw (d, z, c, next, y) (set_at a (get_or l i x) (drop (suc i) l) x i z ∙ sym (append_assoc a (x ∷ []) (drop (suc i) l)))

-- none are left behind i of all
pub end : (all : List KaraokeSpan) (i : ℕ) → drop i all ≡ [] → take i all ≡ all
end all i e = let h = ap length e in take_all i all (omega (arith, length-drop i all))

-- ---- afterwards

pub words_done : (ws t : List ℕ) {n : ℕ} → Ok n ≡ answer ws (places_of t) → laid_spans t (all_spans ws) ≡ words_after ws t
unfolding words_after_to
words_done ws t e = rw (sym e, sym (lets ws (places_of t) e).all)

pub list_done : (ws : List ℕ) (l : List KaraokeSpan) {n : ℕ} → Ok n ≡ answer ws (length l) → written (all_spans ws) l ≡ after ws l
unfolding after
list_done ws l e = rw (sym e, sym (lets ws (length l) e).all)

-- a refusal leaves what was lent
pub words_kept : (ws t : List ℕ) {r : Refusal} → Err r ≡ answer ws (places_of t) → t ≡ words_after ws t
unfolding words_after_to
words_kept ws t e = rw (sym e)

pub list_kept : (ws : List ℕ) (l : List KaraokeSpan) {r : Refusal} → Err r ≡ answer ws (length l) → l ≡ after ws l
unfolding after
list_kept ws l e = rw (sym e)
