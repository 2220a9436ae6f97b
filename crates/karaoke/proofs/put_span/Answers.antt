use native.Mathlib.Omega.{arith}
use lib.ListN.{length-set}
use Rattle.karaoke.proofs.Filling.{put-at}
use Rattle.karaoke.proofs.put_span.Goals as goal

pub bounds-words-k-2 : goal.bounds-words-k-2
bounds-words-k-2 c = simp length-set (omega arith)

pub bounds-words-k-3 : goal.bounds-words-k-3
bounds-words-k-3 c = simp length-set (omega arith)

pub returns : goal.returns
returns c = rw c.from.ensures (put-at _ _ c.args.s c.requires)
