-- What one record makes of what \r has left, and the loop over the records of a table.
use mathlib.Core.Path.{◌≡◌, refl, sym, ap, ◌∙◌}
use mathlib.Core.Bool.{true, false}
use mathlib.Core.List.{List}
use Prim.Native.Nat.{ℕ, zero, suc, ◌+◌, ◌-◌, ◌≤◌, ◌<◌, min}
use native.Mathlib.Omega.{arith}
use lib.Dec.{eqb, leb}
use lib.IntN.{ℤ}
use lib.Ieee.{Float, lt}
use borrow.Author.Tests.{ne_eqb}
use Rattle.std.specs.Prelude.{Some}
use Rattle.scan.specs.Scan.{pick, within}
use Rattle.scan.proofs.Laws.{picked}
use Rattle.float.specs.Float as Float
use Rattle.tag.specs.declared.Record.{Record}
use Rattle.tag.specs.WellFormed.{t_kind}
use Rattle.tag.specs.Decode.{f, times_of, reset_of as reset_in, decode_one, decoders}
use Rattle.table.specs.Inner.{record_in, of_kind}
use Rattle.table.proofs.Slices.{record_first}
use Rattle.state.specs.declared.Line.{Line}
use Rattle.state.specs.declared.RenderState.{RenderState}
use Rattle.state.specs.State.{reset_to}
use Rattle.state.specs.Mix.{factor, mix_line, between}
use Rattle.state.specs.Apply.{reset_of, aligned, wrapped, apply_own, apply_tags}
use Rattle.tag.proofs.ByKind.{over, everywhere, decode-past}
use Rattle.evaluators.specs.Inner.{record_from, tags_at}
use Rattle.evaluators.proofs.Turns.{done_at, plain_at, around_at}
use Rattle.reset.specs.Reset.{ResetLeft, Leaves}

-- ---- a record that is no T

aligned_keeps : (s : Line) (n : ℕ) → (aligned s n).reset_to_style ≡ s.reset_to_style
unfolding aligned
aligned_keeps s n = picked (λ (x : Line). x.reset_to_style ≡ s.reset_to_style) (within 1 9 n) _ s refl refl

wrapped_keeps : (s : Line) (n : ℕ) → (wrapped s n).reset_to_style ≡ s.reset_to_style
unfolding wrapped
wrapped_keeps s n = picked (λ (x : Line). x.reset_to_style ≡ s.reset_to_style) (leb n 3) _ s refl refl

-- what a record makes of s: an R says it anew
abbrev pub told : Record → ResetLeft → ResetLeft
told r s = pick (eqb r.kind 41) (Some (reset_of (reset_in r))) s

module _ (t dur : ℤ) (r : Record) (st : RenderState) where
  -- by kind, with the words of r
  abbrev own : ℕ → ResetLeft
  own k = pick (eqb k t_kind) (reset_to st) (reset_to (apply_own t dur (decode_one (of_kind k r)) (λ s. s) st))

  abbrev said : ℕ → ResetLeft
  said k = told (of_kind k r) (reset_to st)

  known : over own 0 50 ≡ over said 0 50
  unfolding over decode_one decoders apply_own
  known = simp (aligned_keeps, wrapped_keeps)

  past : (k : ℕ) → 50 ≤ k → own k ≡ said k
  unfolding apply_own
  past k h = rw (ne_eqb k t_kind (λ e. omega arith), ne_eqb k 41 (λ e. omega arith), decode-past (of_kind k r) h)

  own_told : (r.kind ≡ t_kind → ⊥) → reset_to (apply_own t dur (decode_one r) (λ s. s) st) ≡ told r (reset_to st)
  own_told h = rw (ne_eqb r.kind t_kind h) at (everywhere own said 50 known past r.kind)

-- ---- a T

-- once it has begun, what the tags inside it leave
begun : (k : Float) (a b : RenderState) → lt Float.zero k ≡ true → reset_to (between k a b) ≡ reset_to b
unfolding between mix_line
begun k a b h = rw h

not-begun : (k : Float) (a b : RenderState) → lt Float.zero k ≡ false → reset_to (between k a b) ≡ reset_to a
unfolding between mix_line
not-begun k a b h = rw h

-- ---- the loop over a part of the table

-- at + left and now, on the way from first, count and s: what the tags that are left make of now, all make of s
pub record Looping (t dur : ℤ) (ws : List ℕ) (first count : ℕ) (s : ResetLeft) (at left : ℕ) (now : ResetLeft) : Type 0 where
  pub end : at + left ≡ first + count
  pub less : left ≤ count
  pub whole : (o : ResetLeft) → Leaves t dur (tags_at ws at left) now o → Leaves t dur (tags_at ws first count) s o

module _ {t dur : ℤ} {ws : List ℕ} {first count : ℕ} {s : ResetLeft} where
  pub loop_done : {at left : ℕ} {now : ResetLeft} → Looping t dur ws first count s at left now → left ≤ 0 → Leaves t dur (tags_at ws first count) s now
  loop_done {at} {left} {now} l h = l.whole now (λ st e. ap reset_to (done_at t dur ws at left st h) ∙ e)

  module _ {at left : ℕ} {now : ResetLeft} {r : Record} (l : Looping t dur ws first count s at left now) (z : 0 < left) (i : r ≡ record_in ws at) where
    -- a record that is no T
    module _ (h : r.kind ≡ t_kind → ⊥) where
      abbrev after : RenderState → RenderState
      after st = apply_own t dur (decode_one r) (λ s. s) st

      turn : (n : ℕ) → 0 < n → (st : RenderState) → apply_tags t dur (tags_at ws at n) st ≡ apply_tags t dur (tags_at ws (at + 1) (n - 1)) (after st)
      turn zero y st = absurd (omega arith)
      turn (suc n) y st =
          let w : suc n - 1 ≡ n = omega arith in
          let e : r ≡ record_from ws at = i ∙ record_first ws at in
          rw (w, e) (plain_at t dur ws at n st (rw e at h))

      pub loop_plain : {next : ResetLeft} → next ≡ told r now → Looping t dur ws first count s (at + 1) (left - 1) next
      loop_plain p = record { end = omega (arith, l.end); less = omega (arith, l.less); whole = λ o m. l.whole o (λ st x. ap reset_to (turn left z st) ∙ m (after st) (own_told t dur r st h ∙ ap (told r) x ∙ sym p)) }

    -- a T that has come as far as k, with m records inside it
    module _ {m : ℕ} {k : Float} (h : r.kind ≡ t_kind) (j : m ≡ min r.w5 (left - 1)) (v : k ≡ factor (times_of r.w1 r.w2 r.w3) (f r.w4) t dur) where
      abbrev inside : RenderState → RenderState
      inside st = apply_tags t dur (tags_at ws (at + 1) m) st

      turn_t : (n : ℕ) → 0 < n → m ≡ min r.w5 (n - 1) → (st : RenderState) → apply_tags t dur (tags_at ws at n) st ≡ apply_tags t dur (tags_at ws (at + 1 + m) (n - 1 - m)) (between k st (inside st))
      turn_t zero y q st = absurd (omega arith)
      turn_t (suc n) y q st =
          let w : suc n - 1 ≡ n = omega arith in
          let e : r ≡ record_from ws at = i ∙ record_first ws at in
          rw (v, q, w, e) (around_at t dur ws at n st (rw e at h))

      loop_around : {next : ResetLeft} → ((st : RenderState) → reset_to st ≡ now → reset_to (between k st (inside st)) ≡ next) → Looping t dur ws first count s (at + 1 + m) (left - 1 - m) next
      loop_around g = record { end = omega (arith, l.end); less = omega (arith, l.less); whole = λ o p. l.whole o (λ st x. ap reset_to (turn_t left z j st) ∙ p (between k st (inside st)) (g st x)) }

      pub loop_begun : {next : ResetLeft} → lt Float.zero k ≡ true → Leaves t dur (tags_at ws (at + 1) m) now next → Looping t dur ws first count s (at + 1 + m) (left - 1 - m) next
      loop_begun b g = loop_around (λ st x. begun k st (inside st) b ∙ g st x)

      pub loop_not_begun : lt Float.zero k ≡ false → Looping t dur ws first count s (at + 1 + m) (left - 1 - m) now
      loop_not_begun b = loop_around (λ st x. not-begun k st (inside st) b ∙ x)
