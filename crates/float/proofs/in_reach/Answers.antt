use lib.Ieee.{of_bits, neg}
use Rattle.float.specs.Float.{in_reach_lem}
use Rattle.float.proofs.in_reach.Goals as goal

pub returns-then-x : goal.returns-then-x
unfolding in_reach_lem of_bits neg
returns-then-x c = simp (← c.f32_of_word-x.ensures, c.if-x.true)

pub returns-else-x : goal.returns-else-x
unfolding in_reach_lem of_bits neg
returns-else-x c = simp (← c.f32_of_word-x.ensures, c.if-x.false)
