use mathlib.Core.Path.{◌≡◌, refl, sym, ap, ◌∙◌}
use mathlib.Core.Bool.{Bool, true, false, not}
use native.Mathlib.Omega.{arith}
use lib.Dec.{eqb}
use borrow.Author.Rules.{rules}
use mir.Syntax.{w32}
use mir.Val.{SFits}
use mir.ValLaws.{to_z-of_z}
use Rattle.std.specs.Prelude.{Some}
use Rattle.tag.specs.Range.{in_range, rows}
use Rattle.tag.specs.WellFormed.{fault}
use Rattle.scan.specs.Scan.{pick}
use Rattle.tag.specs.Decode.{flag_of, decode_one, decoders}
use Rattle.state.specs.State.{identity}
use Rattle.state.specs.Apply.{faded, apply_own}
use Rattle.table.specs.Inner.{part}
use Rattle.table.proofs.ByKind.{unjoined}
use Rattle.words.proofs.Laws.{whole}
use Rattle.evaluators.specs.Inner.{told}
use Rattle.evaluators.proofs.Checking.{kind-refused, none-refused, t-refused, inner-refused, none_inside, nothing, plain_turn, t_turn, refused-is, applied_is}
use Prim.Native.Nat.{ℕ}
use Rattle.evaluators.proofs.+tags.Goals as goal
use Rattle.evaluators.proofs.+tags.Goals.{apply_tags-else-loop-at-test, apply_tags-in-1, apply_tags-in-10, apply_tags-in-11, apply_tags-in-12, apply_tags-in-13, apply_tags-in-14, apply_tags-in-15, apply_tags-in-16, apply_tags-in-17, apply_tags-in-18, apply_tags-in-19, apply_tags-in-2, apply_tags-in-20, apply_tags-in-21, apply_tags-in-22, apply_tags-in-23, apply_tags-in-24, apply_tags-in-25, apply_tags-in-26, apply_tags-in-27, apply_tags-in-28, apply_tags-in-29, apply_tags-in-3, apply_tags-in-30, apply_tags-in-31, apply_tags-in-32, apply_tags-in-33, apply_tags-in-34, apply_tags-in-35, apply_tags-in-36, apply_tags-in-37, apply_tags-in-38, apply_tags-in-39, apply_tags-in-4, apply_tags-in-40, apply_tags-in-41, apply_tags-in-42, apply_tags-in-43, apply_tags-in-44, apply_tags-in-45, apply_tags-in-46, apply_tags-in-47, apply_tags-in-48, apply_tags-in-49+else-n-eq0+else-is_some, apply_tags-in-49+then-n-eq0, apply_tags-in-5, apply_tags-in-6, apply_tags-in-7, apply_tags-in-8, apply_tags-in-9, apply_tags-then-loop-at-test+in_default, apply_tags-then-loop-at-test+in_default-10, apply_tags-then-loop-at-test+in_default-11, apply_tags-then-loop-at-test+in_default-12, apply_tags-then-loop-at-test+in_default-13, apply_tags-then-loop-at-test+in_default-14, apply_tags-then-loop-at-test+in_default-15, apply_tags-then-loop-at-test+in_default-16, apply_tags-then-loop-at-test+in_default-17, apply_tags-then-loop-at-test+in_default-18, apply_tags-then-loop-at-test+in_default-19, apply_tags-then-loop-at-test+in_default-2, apply_tags-then-loop-at-test+in_default-20, apply_tags-then-loop-at-test+in_default-21, apply_tags-then-loop-at-test+in_default-22, apply_tags-then-loop-at-test+in_default-23, apply_tags-then-loop-at-test+in_default-24, apply_tags-then-loop-at-test+in_default-25, apply_tags-then-loop-at-test+in_default-26, apply_tags-then-loop-at-test+in_default-27, apply_tags-then-loop-at-test+in_default-28, apply_tags-then-loop-at-test+in_default-29, apply_tags-then-loop-at-test+in_default-3, apply_tags-then-loop-at-test+in_default-30, apply_tags-then-loop-at-test+in_default-31, apply_tags-then-loop-at-test+in_default-32, apply_tags-then-loop-at-test+in_default-33, apply_tags-then-loop-at-test+in_default-34, apply_tags-then-loop-at-test+in_default-35, apply_tags-then-loop-at-test+in_default-36, apply_tags-then-loop-at-test+in_default-37, apply_tags-then-loop-at-test+in_default-38, apply_tags-then-loop-at-test+in_default-39, apply_tags-then-loop-at-test+in_default-4, apply_tags-then-loop-at-test+in_default-40, apply_tags-then-loop-at-test+in_default-41, apply_tags-then-loop-at-test+in_default-42, apply_tags-then-loop-at-test+in_default-43, apply_tags-then-loop-at-test+in_default-44, apply_tags-then-loop-at-test+in_default-45, apply_tags-then-loop-at-test+in_default-46, apply_tags-then-loop-at-test+in_default-47, apply_tags-then-loop-at-test+in_default-48, apply_tags-then-loop-at-test+in_default-49, apply_tags-then-loop-at-test+in_default-5, apply_tags-then-loop-at-test+in_default-50, apply_tags-then-loop-at-test+in_default-6, apply_tags-then-loop-at-test+in_default-7, apply_tags-then-loop-at-test+in_default-8, apply_tags-then-loop-at-test+in_default-9}

-- a flag that is not 0
flag-is : (w : ℕ) → not (eqb w 0) ≡ flag_of w
flag-is w = go (eqb w 0)
  where
    go : (b : Bool) → not b ≡ pick b false true
    go true = refl
    go false = refl

-- ---- a turn
pub apply_tags-loop-at-preserved : goal.apply_tags-loop-at-preserved
unfolding apply_own faded decode_one decoders in_range rows identity
apply_tags-loop-at-preserved t c =
    let s = c.args in
    let i = c.record_at-r.ensures in
    let h = c.loop-at-test.true in
    let l = c.loop-at.invariant in
    elim c.match-r.branch [
      | apply_tags-in-1 w ↦ let t-fits : SFits w32 s.t.now = search rules in let dur-fits : SFits w32 s.dur.now = search rules in plain_turn l h i 1 w.in-1.is (unjoined w.if-numbers_fit.ensures) refl (w.post-is ∙ rw (rw (to_z-of_z w32 s.t.now t-fits, to_z-of_z w32 s.dur.now dur-fits) at w.fad_alpha.ensures)) w.fault-is w.out-is w.at-is
      | apply_tags-in-2 w ↦ let t-fits : SFits w32 s.t.now = search rules in plain_turn l h i 2 w.in-2.is (unjoined w.if-fade_fits.ensures) refl (w.post-is ∙ rw (rw (to_z-of_z w32 s.t.now t-fits) at w.fade_by.ensures)) w.fault-is w.out-is w.at-is
      | apply_tags-in-3 w ↦ plain_turn l h i 3 w.in-3.is (unjoined w.if-pair_fits.ensures) refl (w.post-is ∙ rw w.pair.ensures) w.fault-is w.out-is w.at-is
      | apply_tags-in-4 w ↦ let t-fits : SFits w32 s.t.now = search rules in let dur-fits : SFits w32 s.dur.now = search rules in plain_turn l h i 4 w.in-4.is w.if-move_fits.ensures refl (w.post-is ∙ rw (w.moved.ensures, (rw (to_z-of_z w32 s.t.now t-fits, to_z-of_z w32 s.dur.now dur-fits) at w.advance_by-k.ensures))) w.fault-is w.out-is w.at-is
      | apply_tags-in-5 w ↦ plain_turn l h i 5 w.in-5.is (unjoined w.if-float_fits.ensures) refl (w.post-is ∙ rw w.radians-post.ensures) w.fault-is w.out-is w.at-is
      | apply_tags-in-6 w ↦ plain_turn l h i 6 w.in-6.is (unjoined w.if-float_fits-2.ensures) refl (w.post-is ∙ rw w.above_zero-post.ensures) w.fault-is w.out-is w.at-is
      | apply_tags-in-7 w ↦ plain_turn l h i 7 w.in-7.is (unjoined w.if-float_fits-3.ensures) refl (w.post-is ∙ rw w.hundredth-post.ensures) w.fault-is w.out-is w.at-is
      | apply_tags-in-8 w ↦ plain_turn l h i 8 w.in-8.is (unjoined w.if-float_fits-4.ensures) refl (w.post-is ∙ rw w.hundredth-post-in-8.ensures) w.fault-is w.out-is w.at-is
      | apply_tags-in-9 w ↦ plain_turn l h i 9 w.in-9.is (unjoined w.if-colour_fits.ensures) refl (w.post-is ∙ rw w.rgb.ensures) w.fault-is w.out-is w.at-is
      | apply_tags-in-10 w ↦ plain_turn l h i 10 w.in-10.is (unjoined w.if-float_fits-5.ensures) refl (w.post-is ∙ rw w.f32_of_word.ensures) w.fault-is w.out-is w.at-is
      | apply_tags-in-11 w ↦ plain_turn l h i 11 w.in-11.is (unjoined w.if-rect_fits.ensures) refl (w.post-is ∙ rw w.rect.ensures) w.fault-is w.out-is w.at-is
      | apply_tags-in-12 w ↦ plain_turn l h i 12 w.in-12.is w.if-drawing_fits.ensures refl w.post-is w.fault-is w.out-is w.at-is
      | apply_tags-in-13 w ↦ plain_turn l h i 13 w.in-13.is (unjoined w.if-float_fits-6.ensures) refl (w.post-is ∙ rw w.radians-post-in-13.ensures) w.fault-is w.out-is w.at-is
      | apply_tags-in-14 w ↦ plain_turn l h i 14 w.in-14.is (unjoined w.if-float_fits-7.ensures) refl (w.post-is ∙ rw w.radians-post-in-14.ensures) w.fault-is w.out-is w.at-is
      | apply_tags-in-15 w ↦ plain_turn l h i 15 w.in-15.is (unjoined w.if-pair_fits-2.ensures) refl (w.post-is ∙ rw w.pair-in-15.ensures) w.fault-is w.out-is w.at-is
      | apply_tags-in-16 w ↦ plain_turn l h i 16 w.in-16.is (unjoined w.if-float_fits-8.ensures) refl (w.post-is ∙ rw (w.splat.ensures, w.above_zero.ensures)) w.fault-is w.out-is w.at-is
      | apply_tags-in-17 w ↦ plain_turn l h i 17 w.in-17.is (unjoined w.if-float_fits-9.ensures) refl (w.post-is ∙ rw (w.with_x.ensures, w.above_zero-in-17.ensures)) w.fault-is w.out-is w.at-is
      | apply_tags-in-18 w ↦ plain_turn l h i 18 w.in-18.is (unjoined w.if-float_fits-10.ensures) refl (w.post-is ∙ rw (w.with_y.ensures, w.above_zero-in-18.ensures)) w.fault-is w.out-is w.at-is
      | apply_tags-in-19 w ↦ plain_turn l h i 19 w.in-19.is (unjoined w.if-float_fits-11.ensures) refl (w.post-is ∙ rw (w.splat-in-19.ensures, w.above_zero-in-19.ensures)) w.fault-is w.out-is w.at-is
      | apply_tags-in-20 w ↦ plain_turn l h i 20 w.in-20.is (unjoined w.if-float_fits-12.ensures) refl (w.post-is ∙ rw (w.with_x-in-20.ensures, w.f32_of_word-in-20.ensures)) w.fault-is w.out-is w.at-is
      | apply_tags-in-21 w ↦ plain_turn l h i 21 w.in-21.is (unjoined w.if-float_fits-13.ensures) refl (w.post-is ∙ rw (w.with_y-in-21.ensures, w.f32_of_word-in-21.ensures)) w.fault-is w.out-is w.at-is
      | apply_tags-in-22 w ↦ plain_turn l h i 22 w.in-22.is (unjoined w.if-number_fits.ensures) refl (w.post-is ∙ rw w.byte-post.ensures) w.fault-is w.out-is w.at-is
      | apply_tags-in-23 w ↦ plain_turn l h i 23 w.in-23.is (unjoined w.if-float_fits-14.ensures) refl (w.post-is ∙ rw w.f32_of_word-post.ensures) w.fault-is w.out-is w.at-is
      | apply_tags-in-24 w ↦ plain_turn l h i 24 w.in-24.is (unjoined w.if-float_fits-15.ensures) refl (w.post-is ∙ rw w.f32_of_word-post-in-24.ensures) w.fault-is w.out-is w.at-is
      | apply_tags-in-25 w ↦ plain_turn l h i 25 w.in-25.is (unjoined w.if-rect_fits-2.ensures) refl (w.post-is ∙ rw w.rect-in-25.ensures) w.fault-is w.out-is w.at-is
      | apply_tags-in-26 w ↦ plain_turn l h i 26 w.in-26.is w.if-drawing_fits-2.ensures refl w.post-is w.fault-is w.out-is w.at-is
      | apply_tags-in-27 w ↦ plain_turn l h i 27 w.in-27.is (unjoined w.if-colour_fits-2.ensures) refl (w.post-is ∙ rw w.rgb-in-27.ensures) w.fault-is w.out-is w.at-is
      | apply_tags-in-28 w ↦ plain_turn l h i 28 w.in-28.is (unjoined w.if-colour_fits-3.ensures) refl (w.post-is ∙ rw w.rgb-in-28.ensures) w.fault-is w.out-is w.at-is
      | apply_tags-in-29 w ↦ plain_turn l h i 29 w.in-29.is (unjoined w.if-colour_fits-4.ensures) refl (w.post-is ∙ rw w.rgb-in-29.ensures) w.fault-is w.out-is w.at-is
      | apply_tags-in-30 w ↦ plain_turn l h i 30 w.in-30.is (unjoined w.if-number_fits-2.ensures) refl (w.post-is ∙ rw w.all_alphas-post.ensures) w.fault-is w.out-is w.at-is
      | apply_tags-in-31 w ↦ plain_turn l h i 31 w.in-31.is (unjoined w.if-number_fits-3.ensures) refl (w.post-is ∙ rw w.byte.ensures) w.fault-is w.out-is w.at-is
      | apply_tags-in-32 w ↦ plain_turn l h i 32 w.in-32.is (unjoined w.if-number_fits-4.ensures) refl (w.post-is ∙ rw w.byte-in-32.ensures) w.fault-is w.out-is w.at-is
      | apply_tags-in-33 w ↦ plain_turn l h i 33 w.in-33.is (unjoined w.if-number_fits-5.ensures) refl (w.post-is ∙ rw w.byte-in-33.ensures) w.fault-is w.out-is w.at-is
      | apply_tags-in-34 w ↦ plain_turn l h i 34 w.in-34.is (unjoined w.if-number_fits-6.ensures) refl (w.post-is ∙ rw w.byte-in-34.ensures) w.fault-is w.out-is w.at-is
      | apply_tags-in-35 w ↦ plain_turn l h i 35 w.in-35.is (unjoined w.if-float_fits-16.ensures) refl (w.post-is ∙ rw w.f32_of_word-in-35.ensures) w.fault-is w.out-is w.at-is
      | apply_tags-in-36 w ↦ plain_turn l h i 36 w.in-36.is (unjoined w.if-number_fits-7.ensures) refl (w.post-is ∙ rw w.wrapped-post.ensures) w.fault-is w.out-is w.at-is
      | apply_tags-in-37 w ↦ plain_turn l h i 37 w.in-37.is (unjoined w.if-number_fits-8.ensures) refl (w.post-is ∙ rw w.aligned-post.ensures) w.fault-is w.out-is w.at-is
      | apply_tags-in-38 w ↦ plain_turn l h i 38 w.in-38.is (unjoined w.if-number_fits-9.ensures) refl (w.post-is ∙ rw (w.aligned-post-in-38.ensures, w.numpad.ensures)) w.fault-is w.out-is w.at-is
      | apply_tags-in-39 w ↦ plain_turn l h i 39 w.in-39.is w.if-font_fits.ensures refl (w.post-is ∙ rw w.name.ensures) w.fault-is w.out-is w.at-is
      | apply_tags-in-40 w ↦ plain_turn l h i 40 w.in-40.is (unjoined w.if-number_fits-10.ensures) refl (w.post-is ∙ rw w.byte-in-40.ensures) w.fault-is w.out-is w.at-is
      | apply_tags-in-41 w ↦ plain_turn l h i 41 w.in-41.is w.if-reset_fits.ensures refl (w.post-is ∙ rw (w.reset_of.ensures, w.identity-post.ensures)) w.fault-is w.out-is w.at-is
      | apply_tags-in-42 w ↦ plain_turn l h i 42 w.in-42.is (unjoined w.if-weight_fits.ensures) refl (w.post-is ∙ rw w.short.ensures) w.fault-is w.out-is w.at-is
      | apply_tags-in-43 w ↦ plain_turn l h i 43 w.in-43.is (unjoined w.if-number_fits-11.ensures) refl (w.post-is ∙ rw (flag-is _)) w.fault-is w.out-is w.at-is
      | apply_tags-in-44 w ↦ plain_turn l h i 44 w.in-44.is (unjoined w.if-number_fits-12.ensures) refl (w.post-is ∙ rw (flag-is _)) w.fault-is w.out-is w.at-is
      | apply_tags-in-45 w ↦ plain_turn l h i 45 w.in-45.is (unjoined w.if-number_fits-13.ensures) refl (w.post-is ∙ rw (flag-is _)) w.fault-is w.out-is w.at-is
      | apply_tags-in-46 w ↦ plain_turn l h i 46 w.in-46.is (unjoined w.if-numbers_fit-2.ensures) refl w.post-is w.fault-is w.out-is w.at-is
      | apply_tags-in-47 w ↦ let n : SFits w32 w.of_word.result = search rules in plain_turn l h i 47 w.in-47.is (unjoined w.if-shift_fits.ensures) refl (w.post-is ∙ rw (to_z-of_z w32 w.of_word.result n, w.of_word.ensures)) w.fault-is w.out-is w.at-is
      | apply_tags-in-48 w ↦ plain_turn l h i 48 w.in-48.is (unjoined w.if-number_fits-14.ensures) refl (w.post-is ∙ rw w.byte-in-48.ensures) w.fault-is w.out-is w.at-is
      | apply_tags-in-49+then-n-eq0 w ↦ let t-fits : SFits w32 s.t.now = search rules in let dur-fits : SFits w32 s.dur.now = search rules in let n = none_inside _ _ _ _ _ _ _ w.if-n-eq0.true in t_turn l h i w.in-49.is w.if-t_stands.ensures refl n.0 n.1 (rw (to_z-of_z w32 s.t.now t-fits, to_z-of_z w32 s.dur.now dur-fits) at w.factor-k.ensures) (w.post-is ∙ w.mix_state-post.ensures) (w.fault-is ∙ l.none) (w.out-is ∙ l.same) (omega (arith, w.at-is, w.if-n-eq0.true))
      | apply_tags-in-49+else-n-eq0+else-is_some w ↦ let t-fits : SFits w32 s.t.now = search rules in let dur-fits : SFits w32 s.dur.now = search rules in let a = w.apply_t-b.ensures in let z = nothing _ (sym w.if-is_some.ensures) in t_turn l h i w.in-49.is w.if-t_stands.ensures refl (sym (ap told z) ∙ a.ground) (a.state (ap told z)) (rw (to_z-of_z w32 s.t.now t-fits, to_z-of_z w32 s.dur.now dur-fits) at w.factor-k.ensures) (w.post-is ∙ w.mix_state-post-else-n-eq0.ensures) (w.fault-is ∙ z) (w.out-is ∙ a.words ∙ l.same) w.at-is
    ]

-- ---- where it ends
pub apply_tags-returns-then-is_some : goal.apply_tags-returns-then-is_some
apply_tags-returns-then-is_some t c =
    let l = c.loop-at.invariant in
    let e = c.apply_t-b.ensures in
    refused-is _ (sym c.if-is_some.ensures) (inner-refused l.checking c.loop-at-test.true c.record_at-r.ensures c.in-49.is c.if-t_stands.ensures refl _ e.ground (sym c.if-is_some.ensures)) (e.words ∙ l.same)

pub apply_tags-returns-then-at-end : goal.apply_tags-returns-then-at-end
unfolding in_range rows
apply_tags-returns-then-at-end t c =
    let s = c.args in
    let l = c.loop-at.invariant in
    let k = l.checking in
    let f : told (Some c.loop-at.at) ≡ fault s.deep s.first (part s.table.now s.first s.count) = elim c.loop-at-test.branch [
      | apply_tags-else-loop-at-test w ↦ absurd (omega (arith, w.loop-at-test.false, c.if-at-end.true))
      | apply_tags-then-loop-at-test+in_default-2 w ↦ kind-refused k w.loop-at-test.true 1 w.record_at-r.ensures w.in-1.is (unjoined w.if-numbers_fit.ensures) refl
      | apply_tags-then-loop-at-test+in_default-3 w ↦ kind-refused k w.loop-at-test.true 2 w.record_at-r.ensures w.in-2.is (unjoined w.if-fade_fits.ensures) refl
      | apply_tags-then-loop-at-test+in_default-4 w ↦ kind-refused k w.loop-at-test.true 3 w.record_at-r.ensures w.in-3.is (unjoined w.if-pair_fits.ensures) refl
      | apply_tags-then-loop-at-test+in_default-5 w ↦ kind-refused k w.loop-at-test.true 4 w.record_at-r.ensures w.in-4.is w.if-move_fits.ensures refl
      | apply_tags-then-loop-at-test+in_default-6 w ↦ kind-refused k w.loop-at-test.true 5 w.record_at-r.ensures w.in-5.is (unjoined w.if-float_fits.ensures) refl
      | apply_tags-then-loop-at-test+in_default-7 w ↦ kind-refused k w.loop-at-test.true 6 w.record_at-r.ensures w.in-6.is (unjoined w.if-float_fits-2.ensures) refl
      | apply_tags-then-loop-at-test+in_default-8 w ↦ kind-refused k w.loop-at-test.true 7 w.record_at-r.ensures w.in-7.is (unjoined w.if-float_fits-3.ensures) refl
      | apply_tags-then-loop-at-test+in_default-9 w ↦ kind-refused k w.loop-at-test.true 8 w.record_at-r.ensures w.in-8.is (unjoined w.if-float_fits-4.ensures) refl
      | apply_tags-then-loop-at-test+in_default-10 w ↦ kind-refused k w.loop-at-test.true 9 w.record_at-r.ensures w.in-9.is (unjoined w.if-colour_fits.ensures) refl
      | apply_tags-then-loop-at-test+in_default-11 w ↦ kind-refused k w.loop-at-test.true 10 w.record_at-r.ensures w.in-10.is (unjoined w.if-float_fits-5.ensures) refl
      | apply_tags-then-loop-at-test+in_default-12 w ↦ kind-refused k w.loop-at-test.true 11 w.record_at-r.ensures w.in-11.is (unjoined w.if-rect_fits.ensures) refl
      | apply_tags-then-loop-at-test+in_default-13 w ↦ kind-refused k w.loop-at-test.true 12 w.record_at-r.ensures w.in-12.is w.if-drawing_fits.ensures refl
      | apply_tags-then-loop-at-test+in_default-14 w ↦ kind-refused k w.loop-at-test.true 13 w.record_at-r.ensures w.in-13.is (unjoined w.if-float_fits-6.ensures) refl
      | apply_tags-then-loop-at-test+in_default-15 w ↦ kind-refused k w.loop-at-test.true 14 w.record_at-r.ensures w.in-14.is (unjoined w.if-float_fits-7.ensures) refl
      | apply_tags-then-loop-at-test+in_default-16 w ↦ kind-refused k w.loop-at-test.true 15 w.record_at-r.ensures w.in-15.is (unjoined w.if-pair_fits-2.ensures) refl
      | apply_tags-then-loop-at-test+in_default-17 w ↦ kind-refused k w.loop-at-test.true 16 w.record_at-r.ensures w.in-16.is (unjoined w.if-float_fits-8.ensures) refl
      | apply_tags-then-loop-at-test+in_default-18 w ↦ kind-refused k w.loop-at-test.true 17 w.record_at-r.ensures w.in-17.is (unjoined w.if-float_fits-9.ensures) refl
      | apply_tags-then-loop-at-test+in_default-19 w ↦ kind-refused k w.loop-at-test.true 18 w.record_at-r.ensures w.in-18.is (unjoined w.if-float_fits-10.ensures) refl
      | apply_tags-then-loop-at-test+in_default-20 w ↦ kind-refused k w.loop-at-test.true 19 w.record_at-r.ensures w.in-19.is (unjoined w.if-float_fits-11.ensures) refl
      | apply_tags-then-loop-at-test+in_default-21 w ↦ kind-refused k w.loop-at-test.true 20 w.record_at-r.ensures w.in-20.is (unjoined w.if-float_fits-12.ensures) refl
      | apply_tags-then-loop-at-test+in_default-22 w ↦ kind-refused k w.loop-at-test.true 21 w.record_at-r.ensures w.in-21.is (unjoined w.if-float_fits-13.ensures) refl
      | apply_tags-then-loop-at-test+in_default-23 w ↦ kind-refused k w.loop-at-test.true 22 w.record_at-r.ensures w.in-22.is (unjoined w.if-number_fits.ensures) refl
      | apply_tags-then-loop-at-test+in_default-24 w ↦ kind-refused k w.loop-at-test.true 23 w.record_at-r.ensures w.in-23.is (unjoined w.if-float_fits-14.ensures) refl
      | apply_tags-then-loop-at-test+in_default-25 w ↦ kind-refused k w.loop-at-test.true 24 w.record_at-r.ensures w.in-24.is (unjoined w.if-float_fits-15.ensures) refl
      | apply_tags-then-loop-at-test+in_default-26 w ↦ kind-refused k w.loop-at-test.true 25 w.record_at-r.ensures w.in-25.is (unjoined w.if-rect_fits-2.ensures) refl
      | apply_tags-then-loop-at-test+in_default-27 w ↦ kind-refused k w.loop-at-test.true 26 w.record_at-r.ensures w.in-26.is w.if-drawing_fits-2.ensures refl
      | apply_tags-then-loop-at-test+in_default-28 w ↦ kind-refused k w.loop-at-test.true 27 w.record_at-r.ensures w.in-27.is (unjoined w.if-colour_fits-2.ensures) refl
      | apply_tags-then-loop-at-test+in_default-29 w ↦ kind-refused k w.loop-at-test.true 28 w.record_at-r.ensures w.in-28.is (unjoined w.if-colour_fits-3.ensures) refl
      | apply_tags-then-loop-at-test+in_default-30 w ↦ kind-refused k w.loop-at-test.true 29 w.record_at-r.ensures w.in-29.is (unjoined w.if-colour_fits-4.ensures) refl
      | apply_tags-then-loop-at-test+in_default-31 w ↦ kind-refused k w.loop-at-test.true 30 w.record_at-r.ensures w.in-30.is (unjoined w.if-number_fits-2.ensures) refl
      | apply_tags-then-loop-at-test+in_default-32 w ↦ kind-refused k w.loop-at-test.true 31 w.record_at-r.ensures w.in-31.is (unjoined w.if-number_fits-3.ensures) refl
      | apply_tags-then-loop-at-test+in_default-33 w ↦ kind-refused k w.loop-at-test.true 32 w.record_at-r.ensures w.in-32.is (unjoined w.if-number_fits-4.ensures) refl
      | apply_tags-then-loop-at-test+in_default-34 w ↦ kind-refused k w.loop-at-test.true 33 w.record_at-r.ensures w.in-33.is (unjoined w.if-number_fits-5.ensures) refl
      | apply_tags-then-loop-at-test+in_default-35 w ↦ kind-refused k w.loop-at-test.true 34 w.record_at-r.ensures w.in-34.is (unjoined w.if-number_fits-6.ensures) refl
      | apply_tags-then-loop-at-test+in_default-36 w ↦ kind-refused k w.loop-at-test.true 35 w.record_at-r.ensures w.in-35.is (unjoined w.if-float_fits-16.ensures) refl
      | apply_tags-then-loop-at-test+in_default-37 w ↦ kind-refused k w.loop-at-test.true 36 w.record_at-r.ensures w.in-36.is (unjoined w.if-number_fits-7.ensures) refl
      | apply_tags-then-loop-at-test+in_default-38 w ↦ kind-refused k w.loop-at-test.true 37 w.record_at-r.ensures w.in-37.is (unjoined w.if-number_fits-8.ensures) refl
      | apply_tags-then-loop-at-test+in_default-39 w ↦ kind-refused k w.loop-at-test.true 38 w.record_at-r.ensures w.in-38.is (unjoined w.if-number_fits-9.ensures) refl
      | apply_tags-then-loop-at-test+in_default-40 w ↦ kind-refused k w.loop-at-test.true 39 w.record_at-r.ensures w.in-39.is w.if-font_fits.ensures refl
      | apply_tags-then-loop-at-test+in_default-41 w ↦ kind-refused k w.loop-at-test.true 40 w.record_at-r.ensures w.in-40.is (unjoined w.if-number_fits-10.ensures) refl
      | apply_tags-then-loop-at-test+in_default-42 w ↦ kind-refused k w.loop-at-test.true 41 w.record_at-r.ensures w.in-41.is w.if-reset_fits.ensures refl
      | apply_tags-then-loop-at-test+in_default-43 w ↦ kind-refused k w.loop-at-test.true 42 w.record_at-r.ensures w.in-42.is (unjoined w.if-weight_fits.ensures) refl
      | apply_tags-then-loop-at-test+in_default-44 w ↦ kind-refused k w.loop-at-test.true 43 w.record_at-r.ensures w.in-43.is (unjoined w.if-number_fits-11.ensures) refl
      | apply_tags-then-loop-at-test+in_default-45 w ↦ kind-refused k w.loop-at-test.true 44 w.record_at-r.ensures w.in-44.is (unjoined w.if-number_fits-12.ensures) refl
      | apply_tags-then-loop-at-test+in_default-46 w ↦ kind-refused k w.loop-at-test.true 45 w.record_at-r.ensures w.in-45.is (unjoined w.if-number_fits-13.ensures) refl
      | apply_tags-then-loop-at-test+in_default-47 w ↦ kind-refused k w.loop-at-test.true 46 w.record_at-r.ensures w.in-46.is (unjoined w.if-numbers_fit-2.ensures) refl
      | apply_tags-then-loop-at-test+in_default-48 w ↦ kind-refused k w.loop-at-test.true 47 w.record_at-r.ensures w.in-47.is (unjoined w.if-shift_fits.ensures) refl
      | apply_tags-then-loop-at-test+in_default-49 w ↦ kind-refused k w.loop-at-test.true 48 w.record_at-r.ensures w.in-48.is (unjoined w.if-number_fits-14.ensures) refl
      | apply_tags-then-loop-at-test+in_default-50 w ↦ t-refused k w.loop-at-test.true w.record_at-r.ensures w.in-49.is w.if-t_stands.ensures refl
      | apply_tags-then-loop-at-test+in_default w ↦ none-refused k w.loop-at-test.true w.record_at-r.ensures (λ a b. grind arith)
    ] in
    refused-is (Some c.loop-at.at) refl f l.same

pub apply_tags-returns-then-write : goal.apply_tags-returns-then-write
apply_tags-returns-then-write t c =
    applied_is c.loop-at.invariant c.if-at-end.false
    (rw c.if-write.true (whole _ _ _ _ _ c.loop-at.post c.clear.ensures.wide c.put_from_0.ensures.is c.put_from_18.ensures.is c.put_from_44.ensures.is c.put_from_70.ensures.is))

pub apply_tags-returns-else-write : goal.apply_tags-returns-else-write
apply_tags-returns-else-write t c =
    applied_is c.loop-at.invariant c.if-at-end.false (rw c.if-write.false refl)
