use lib.Ieee.{of_bits}
use Rattle.pen.proofs.Strokes.{strokes-none, strokes-three}
use Rattle.pen.proofs.Stroke.spline_point.Goals as goal

pub returns-in-One : goal.returns-in-One
returns-in-One c = rw c.in-One.is (strokes-none _ _)

pub returns-in-Two : goal.returns-in-Two
returns-in-Two c = rw c.in-Two.is (strokes-none _ _)

pub returns-in-Three : goal.returns-in-Three
unfolding of_bits
returns-in-Three c = rw c.in-Three.is (strokes-three _ _ _ _ c.bez.ensures c.draw.ensures c.span.ensures)
