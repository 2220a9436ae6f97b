use mathlib.Core.Path.{◌≡◌}
use lib.ListN.{take, drop}
use Rattle.std.specs.Iterator.Adapters.{enumerate_source, enumerate_count}
use Rattle.karaoke.specs.Answer.{written}
use Rattle.karaoke.specs.Inner.{all_spans}
use Rattle.karaoke.specs.Left.{spans_left}
use Rattle.karaoke.proofs.karaoke_spans.Given as goal

abbrev pub invariant-loop-i : goal.invariant-loop-i
invariant-loop-i l = record {
  left : spans_left (enumerate_source l.i-iterator) ≡ drop (enumerate_count l.i-iterator) (all_spans l.table);
  list : l.list ≡ written (take (enumerate_count l.i-iterator) (all_spans l.table)) l.initial.list;
}
