use mathlib.Core.Path.{refl, ◌∙◌}
use mathlib.Core.List.{[], ◌∷◌}
use native.Mathlib.Omega.{arith}
use Rattle.tag.specs.Range.{unused, float, range, time, weight, free, times_fit, part_fits, rows}
use Rattle.table.specs.Inner.{font_parts, style_part}
use Rattle.table.proofs.ByKind.{of-kinds, of-joined, of_none}
use Rattle.karaoke.proofs.fits.Goals.{in-10-1, in_default+else-r-lt1+then-r-lt25, in-22-1, in_default+else-r-lt1+else-r-lt25+else-r-lt30+then-r-lt35, in-9-1, in_default+else-r-lt1+else-r-lt25+then-r-lt30}
use Rattle.karaoke.proofs.fits.Goals as goal

pub returns-in-5 : goal.returns-in-5
unfolding rows
returns-in-5 c = c.float_fits.ensures ∙ of-kinds float unused unused unused unused unused unused (5 ∷ 6 ∷ 7 ∷ 8 ∷ 10 ∷ 13 ∷ 14 ∷ 16 ∷ 17 ∷ 18 ∷ 19 ∷ 20 ∷ 21 ∷ 23 ∷ 24 ∷ 35 ∷ []) refl _ (elim c.in-5-1.branch [ in-10-1 w ↦ grind arith | in_default+else-r-lt1+then-r-lt25 w ↦ grind arith ])

pub returns-in-9 : goal.returns-in-9
unfolding rows
returns-in-9 c = c.colour_fits.ensures ∙ of-kinds (range 0 255) (range 0 255) (range 0 255) unused unused unused unused (9 ∷ 27 ∷ 28 ∷ 29 ∷ []) refl _ (elim c.in-9-1.branch [ in-9-1 w ↦ grind arith | in_default+else-r-lt1+else-r-lt25+then-r-lt30 w ↦ grind arith ])

pub returns-in-22 : goal.returns-in-22
unfolding rows
returns-in-22 c = c.number_fits-in-22.ensures ∙ of-kinds (range 0 255) unused unused unused unused unused unused (22 ∷ 30 ∷ 31 ∷ 32 ∷ 33 ∷ 34 ∷ 38 ∷ 40 ∷ 48 ∷ []) refl _ (elim c.in-22-1.branch [ in-22-1 w ↦ grind arith | in_default+else-r-lt1+else-r-lt25+else-r-lt30+then-r-lt35 w ↦ grind arith ])

pub returns-in-43 : goal.returns-in-43
unfolding rows
returns-in-43 c = c.number_fits-in-43.ensures ∙ of-kinds (range 0 1) unused unused unused unused unused unused (43 ∷ 44 ∷ 45 ∷ []) refl _ (let h = c.in-43 in grind arith)

pub returns-in-3 : goal.returns-in-3
unfolding rows
returns-in-3 c = c.pair_fits.ensures ∙ of-kinds float float unused unused unused unused unused (3 ∷ 15 ∷ []) refl _ c.in-3.is

pub returns-in-4 : goal.returns-in-4
unfolding rows
returns-in-4 c = c.move_fits.ensures ∙ of-joined float float float float (range 0 1) time time (4 ∷ []) (λ r. times_fit r.w5 r.w6 r.w7) refl _ c.in-4.is

pub returns-in-1 : goal.returns-in-1
unfolding rows
returns-in-1 c = c.numbers_fit.ensures ∙ of-kinds (range 0 2147483647) (range 0 2147483647) unused unused unused unused unused (1 ∷ []) refl _ c.in-1.is

pub returns-in-2 : goal.returns-in-2
unfolding rows
returns-in-2 c = c.fade_fits.ensures ∙ of-kinds (range 0 255) (range 0 255) (range 0 255) time time time time (2 ∷ []) refl _ c.in-2.is

pub returns-in-11 : goal.returns-in-11
unfolding rows
returns-in-11 c = c.rect_fits.ensures ∙ of-kinds float float float float unused unused unused (11 ∷ 25 ∷ []) refl _ c.in-11.is

pub returns-in-12 : goal.returns-in-12
unfolding rows
returns-in-12 c = c.drawing_fits.ensures ∙ of-joined free free unused unused unused unused unused (12 ∷ 26 ∷ []) (λ r. part_fits r.w1 r.w2) refl _ c.in-12.is

pub returns-in-36 : goal.returns-in-36
unfolding rows
returns-in-36 c = c.number_fits.ensures ∙ of-kinds (range 0 3) unused unused unused unused unused unused (36 ∷ []) refl _ c.in-36.is

pub returns-in-37 : goal.returns-in-37
unfolding rows
returns-in-37 c = c.number_fits-in-37.ensures ∙ of-kinds (range 1 9) unused unused unused unused unused unused (37 ∷ []) refl _ c.in-37.is

pub returns-in-39 : goal.returns-in-39
unfolding rows
returns-in-39 c = c.font_fits.ensures ∙ of-joined free free free free unused unused unused (39 ∷ []) font_parts refl _ c.in-39.is

pub returns-in-41 : goal.returns-in-41
unfolding rows
returns-in-41 c = c.reset_fits.ensures ∙ of-joined (range 0 1) free free unused unused unused unused (41 ∷ []) (λ r. style_part r.w1 r.w2 r.w3) refl _ c.in-41.is

pub returns-in-42 : goal.returns-in-42
unfolding rows
returns-in-42 c = c.weight_fits.ensures ∙ of-kinds weight unused unused unused unused unused unused (42 ∷ []) refl _ c.in-42.is

pub returns-in-47 : goal.returns-in-47
unfolding rows
returns-in-47 c = c.shift_fits.ensures ∙ of-kinds time unused unused unused unused unused unused (47 ∷ []) refl _ c.in-47.is

pub returns-in_default : goal.returns-in_default
returns-in_default c = of_none _ (λ h k. let p = c.requires in omega (arith, p.0, p.1))

pub returns-in_default-2 : goal.returns-in_default-2
returns-in_default-2 c = of_none _ (λ h k. let p = c.requires in let a = p.0 in let b = p.1 in grind arith)
