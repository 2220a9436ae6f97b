-- The loop over records, each checked and then applied.
use mathlib.Core.Path.{◌≡◌, refl, sym, ap, subst, ◌∙◌}
use mathlib.Core.List.{List}
use mathlib.Core.Bool.{Bool, true, false, true≢false}
use Prim.Native.Nat.{ℕ, ◌+◌, ◌-◌, ◌≤◌, ◌<◌}
use native.Mathlib.Omega.{arith}
use lib.Dec.{eqb}
use lib.IntN.{ℤ}
use lib.Ieee.{Float}
use borrow.Author.Tests.{eq-eqb}
use Rattle.std.specs.Prelude.{Option, None, Some, Ok, Err}
use Rattle.std.specs.Option.{is_some}
use Rattle.refusal.specs.declared.Refusal.TheVariants.{TableMalformed}
use Rattle.tag.specs.declared.Record.{Record}
use Rattle.tag.specs.Range.{in_range}
use Rattle.tag.specs.WellFormed.{t_kind, holds, fault}
use Rattle.tag.specs.Decode.{f, times_of, decode_one}
use Rattle.state.specs.declared.RenderState.{RenderState}
use Rattle.state.specs.Mix.{factor, between}
use Rattle.state.specs.Apply.{apply_own, apply_tags}
use Rattle.table.specs.Inner.{record_in, part, Inside, of_kind, stands, t_stands}
use Rattle.table.proofs.ByKind.{of_none}
use Rattle.table.proofs.Slices.{record_first}
use Rattle.tag.proofs.Formed.{bad_good}
use Rattle.table.proofs.Faults.{none_left, kind_bad, kind-plain, t_as_stands, turn_bad, turn_room, turn_in, turn_past}
use Rattle.evaluators.specs.Inner.{record_from, tags_at, told, words_if, Applied}
use Rattle.evaluators.proofs.Turns.{Looping, loop_done, loop_plain, loop_around, done_at}

-- at the record at with the state post: the first fault from here on is that of all, and the tags from here on make of post what all make of st
pub record Checking (t dur : ℤ) (ws : List ℕ) (d first count : ℕ) (st : RenderState) (end at : ℕ) (post : RenderState) : Type 0 where
  pub ends : end ≡ first + count
  pub inside : Inside ws first count
  pub tags : Looping t dur ws first count st at (end - at) post
  pub ground : fault d at (part ws at (end - at)) ≡ fault d first (part ws first count)

module _ {t dur : ℤ} {ws : List ℕ} {d first count : ℕ} {st : RenderState} {end : ℕ} where
  -- ---- one record

  module _ {at : ℕ} {post : RenderState} (l : Checking t dur ws d first count st end at post) (h : at < end) where
    some : 0 < end - at
    some = omega (arith, h)

    room : Inside ws at (end - at)
    room = omega (arith, h, l.inside, l.ends)

    -- of the kind k
    module _ (k : ℕ) {r : Record} {v : Bool} (i : r ≡ record_in ws at) (q : r.kind ≡ k) (s : v ≡ in_range (of_kind k r)) where
      pub kind-refused : v ≡ false → told (Some at) ≡ fault d first (part ws first count)
      kind-refused z = kind_bad ws d at (end - at) room some r i k q v s z ∙ l.ground

      pub kind-next : {next : RenderState} → eqb k t_kind ≡ false → v ≡ true → next ≡ apply_own t dur (decode_one (of_kind k r)) (λ s. s) post →
          Checking t dur ws d first count st end (at + 1) next
      kind-next n z e =
          let w : end - at - 1 ≡ end - (at + 1) = omega arith in
          let x : r ≡ record_from ws at = i ∙ record_first ws at in
          record {
            ends = l.ends;
            inside = l.inside;
            tags = rw w at (loop_plain l.tags some (λ y. absurd (true≢false (sym (eq-eqb k t_kind (sym q ∙ ap (λ (u : Record). u.kind) x ∙ y)) ∙ n)))
                (ap (λ (u : Record). apply_own t dur (decode_one u) (λ s. s) post) (sym x) ∙ ap (λ (j : ℕ). apply_own t dur (decode_one (of_kind j r)) (λ s. s) post) q ∙ sym e));
            ground = rw w at (kind-plain ws d at (end - at) room some r i k q v s z n) ∙ l.ground;
          }

    -- of no kind
    pub none-refused : {r : Record} → r ≡ record_in ws at → (1 ≤ r.kind → r.kind ≤ 49 → ⊥) → told (Some at) ≡ fault d first (part ws first count)
    none-refused {r = r} i m = kind-refused r.kind i refl (of_none r m) refl

    -- a T
    module _ {r : Record} {v : Bool} (i : r ≡ record_in ws at) (q : r.kind ≡ t_kind) (s : v ≡ t_stands (end - at - 1) d r) where
      as_any : v ≡ stands (end - at - 1) d r
      as_any = t_as_stands (end - at - 1) d r q s

      pub t-refused : v ≡ false → told (Some at) ≡ fault d first (part ws first count)
      t-refused z = turn_bad ws d at (end - at) room some r i v as_any z ∙ l.ground

      pub inner-refused : v ≡ true → (x : Option ℕ) → told x ≡ fault (d - 1) (at + 1) (part ws (at + 1) (holds r)) → is_some x ≡ true → told x ≡ fault d first (part ws first count)
      inner-refused z None e p = absurd (true≢false (sym p))
      inner-refused z (Some n) e p = turn_in ws d at (end - at) room some r i v as_any z q (Err (TableMalformed n)) e (TableMalformed n) refl ∙ l.ground

      pub t-next : v ≡ true → {next : RenderState} → (Ok tt) ≡ fault (d - 1) (at + 1) (part ws (at + 1) (holds r)) →
          next ≡ between (factor (times_of r.w1 r.w2 r.w3) (f r.w4) t dur) post (apply_tags t dur (tags_at ws (at + 1) (holds r)) post) →
          Checking t dur ws d first count st end (at + 1 + holds r) next
      t-next z {next = next} g e =
          let w : end - at - 1 - holds r ≡ end - (at + 1 + holds r) = omega arith in
          record {
            ends = l.ends;
            inside = l.inside;
            tags = rw w at (subst Around (sym (i ∙ record_first ws at)) (loop_around l.tags some) q (turn_room ws d at (end - at) room some r i v as_any z q).1 e);
            ground = rw w at (turn_past ws d at (end - at) room some r i v as_any z q (Ok tt) g refl) ∙ l.ground;
          }
        where
          -- what `loop_around` says, of the record y
          Around : Record → Type 0
          Around y =
              y.kind ≡ t_kind → holds y ≤ end - at - 1 →
              next ≡ between (factor (times_of y.w1 y.w2 y.w3) (f y.w4) t dur) post (apply_tags t dur (tags_at ws (at + 1) (holds y)) post) →
              Looping t dur ws first count st (at + 1 + holds y) (end - at - 1 - holds y) next

  -- ---- behind the last

  module _ {at : ℕ} {post : RenderState} (l : Checking t dur ws d first count st end at post) (h : end ≤ at) where
    pub ended : (Ok tt) ≡ fault d first (part ws first count)
    ended = let z : end - at ≡ 0 = omega (arith, h) in sym (none_left ws d at (end - at) z) ∙ l.ground

    pub ended_state : post ≡ apply_tags t dur (tags_at ws first count) st
    ended_state = loop_done l.tags (omega (arith, h))

-- nothing in `fault`
pub nothing : (x : Option ℕ) → is_some x ≡ false → x ≡ None
nothing None h = refl
nothing (Some n) h = absurd (true≢false h)

-- nothing inside a T
pub none_inside : (t dur : ℤ) (ws : List ℕ) (d at n : ℕ) (st : RenderState) → n ≡ 0 → ((Ok tt) ≡ fault d at (part ws at n)) × (st ≡ apply_tags t dur (tags_at ws at n) st)
none_inside t dur ws d at n st z = (sym (none_left ws d at n z), sym (done_at t dur ws at n st (omega arith)))

-- ---- what the loop holds at a record

-- beside it nothing is in `fault`, and the lent words are as they were
pub record Running (t dur : ℤ) (ws : List ℕ) (d first count : ℕ) (st : RenderState) (end : ℕ) (v : List ℕ) (x : Option ℕ) (u : List ℕ) (at : ℕ) (post : RenderState) : Type 0 where
  pub checking : Checking t dur ws d first count st end at post
  pub none : x ≡ None
  pub same : u ≡ v

module _ {t dur : ℤ} {ws : List ℕ} {d first count : ℕ} {st : RenderState} {end : ℕ} {v : List ℕ} where
  module _ {x : Option ℕ} {u : List ℕ} {at : ℕ} {post : RenderState} (l : Running t dur ws d first count st end v x u at post) (h : at < end) {r : Record} (i : r ≡ record_in ws at) where
    -- a record of the kind k that is applied
    pub plain_turn : (k : ℕ) {p : RenderState} {z : Option ℕ} {b : ℕ} {w : List ℕ} → r.kind ≡ k → true ≡ in_range (of_kind k r) → eqb k t_kind ≡ false →
        p ≡ apply_own t dur (decode_one (of_kind k r)) (λ s. s) post → z ≡ x → w ≡ u → b ≡ at → Running t dur ws d first count st end v z w (b + 1) p
    plain_turn k q s n e ez ew eb =
        rw (ez, ew, eb) (record { checking = kind-next l.checking h k i q s n refl e; none = l.none; same = l.same })

    -- a T with n records inside it that is applied
    pub t_turn : {n : ℕ} {k : Float} {a p : RenderState} {z : Option ℕ} {b : ℕ} {w : List ℕ} → r.kind ≡ t_kind → true ≡ t_stands (end - at - 1) d r → n ≡ holds r →
        (Ok tt) ≡ fault (d - 1) (at + 1) (part ws (at + 1) n) → a ≡ apply_tags t dur (tags_at ws (at + 1) n) post → k ≡ factor (times_of r.w1 r.w2 r.w3) (f r.w4) t dur → p ≡ between k post a →
        z ≡ None → w ≡ v → b ≡ at + n → Running t dur ws d first count st end v z w (b + 1) p
    t_turn q s n g a k e ez ew eb =
        let j : at + holds r + 1 ≡ at + 1 + holds r = omega arith in
        rw (ez, ew, eb, n) (record { checking = rw j (t-next l.checking h i q s refl (rw n at g) (rw (a, n, k) at e)); none = refl; same = refl })

-- ---- where it ends

-- a record is at fault
pub refused-is : {t dur : ℤ} {ws : List ℕ} {d first count : ℕ} {st : RenderState} {v : List ℕ} {write : Bool} {r : RenderState} (x : Option ℕ) {u : List ℕ} →
    is_some x ≡ true → told x ≡ fault d first (part ws first count) → u ≡ v → Applied t dur ws first count d st write v r x u
refused-is None p g e = absurd (true≢false (sym p))
refused-is {v = v} {write = write} {r = r} (Some n) p g e = record { ground = g; state = λ y. absurd (bad_good y); words = e ∙ sym (kept write) }
  where
    kept : (b : Bool) → words_if b (Err (TableMalformed n)) r v ≡ v
    kept true = refl
    kept false = refl

-- none is
pub applied_is : {t dur : ℤ} {ws : List ℕ} {d first count : ℕ} {st : RenderState} {end : ℕ} {v : List ℕ} {write : Bool} {r : RenderState} {x : Option ℕ} {u w : List ℕ} {b : ℕ} →
    Running t dur ws d first count st end v x w b r → end ≤ b → u ≡ words_if write (Ok tt) r w → Applied t dur ws first count d st write v r x u
applied_is {write = write} {r = r} l h e =
    let c = l.checking in
    rw l.none (record { ground = ended c h; state = λ y. ended_state c h; words = e ∙ ap (λ (y : List ℕ). words_if write (Ok tt) r y) l.same })
