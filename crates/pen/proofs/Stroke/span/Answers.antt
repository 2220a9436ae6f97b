use lib.Ieee.{of_bits}
use Rattle.pen.proofs.Strokes.{cubic-strokes}
use Rattle.pen.proofs.Stroke.span.Goals as goal

pub returns : goal.returns
unfolding of_bits
returns c = cubic-strokes c.args.b c.args.c c.args.p c.bez-q.ensures c.bez-r.ensures c.bez-end.ensures c.draw.ensures
