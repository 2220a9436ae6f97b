-- What a stroke draws, from what it writes.
use mathlib.Core.Path.{◌≡◌, refl, ◌∙◌}
use mathlib.Core.List.{List, [], ◌∷◌, ◌++◌}
use mathlib.Core.Bool.{true}
use native.Mathlib.Omega.{arith}
use Rattle.path.specs.declared.PathCommand.{PathCommand}
use Rattle.path.specs.declared.PathCommand.TheVariants.{LineTo, CubicTo}
use Rattle.path.specs.declared.Point.{Point}
use Rattle.path.proofs.Emitting.{emits_none, emits-join}
use Rattle.float.specs.Float.{zero as f0}
use Rattle.pen.specs.declared.Ctrl.TheVariants.{Span, Three}
use Rattle.pen.specs.declared.Mode.TheVariants.{Spline}
use Rattle.pen.specs.declared.Pen.{Pen}
use Rattle.pen.specs.declared.Stroke.{Stroke}
use Rattle.pen.specs.Drawing.{f2, f4, bez, span_start, span_end, span_gives, spline_point, pen_of, gives}
use Rattle.pen.specs.Inner.{Writes, Strokes}

pub writes_none : (v : Stroke) (pen : Pen) → Writes v [] (record v { pen = pen })
writes_none v pen = record { same = refl; emits = emits_none v.words.now v.count }

pub writes-join : {u v w : Stroke} {a b : List PathCommand} → Writes u a v → Writes v b w → Writes u (a ++ b) w
writes-join e f = record { same = f.same ∙ e.same; emits = emits-join e.emits f.emits }

-- with another pen
pub writes-pen : {v w : Stroke} {cs : List PathCommand} (pen : Pen) → Writes v cs w → Writes v cs (record w { pen = pen })
writes-pen pen e = record { same = e.same; emits = e.emits }

pub strokes-none : (v : Stroke) (pen : Pen) → Strokes v (gives pen []) (record v { pen = pen })
strokes-none v pen = record { pen = refl; path = writes_none v pen; few = omega arith }

pub cubic-strokes : {v w : Stroke} {q r end : Point} {g : Pen} (b c p : Point) → q ≡ bez b f4 c f2 c f0 → r ≡ bez b f2 c f4 c f0 → end ≡ span_end b c p → Strokes v (gives g (CubicTo q r end ∷ [])) w
    → Strokes v (span_gives b c p) (record w { pen = pen_of end true (Spline (Span c p)) })
cubic-strokes {v} {w} b c p x y z e = record { pen = rw z; path = writes-pen {v = v} {w = w} _ (rw (← x, ← y, ← z) e.path); few = e.few }

pub strokes-three : {v u w : Stroke} {q : Point} {g : Pen} (a b c p : Point) → q ≡ span_start a b c → Strokes v (gives g (LineTo q ∷ [])) u → Strokes u (span_gives b c p) w
    → Strokes v (spline_point v.pen.cur v.pen.opened (Three a b c) p) w
strokes-three a b c p x e f = record { pen = f.pen; path = writes-join (rw x at e.path) f.path; few = omega (arith, e.path.emits.count, f.path.emits.count) }
