-- 01, Karaoke: the spans of any tags begin at 0, each begins where the one before it ends, and none runs backwards.
use mathlib.Core.List.{List, [], ◌∷◌}
use Prim.Native.Nat.{◌≤◌}
use native.Mathlib.Omega.{arith}
use Rattle.tag.specs.Tag.{Tags}
use Rattle.karaoke.specs.declared.Ms.{Ms}
use Rattle.karaoke.specs.Karaoke.{ms, most_ms, in_ms, plus, Syllable, syllables, span_from, spans_from, karaoke_spans, Contiguous, over, next}

from-contiguous : (l : List Syllable) (m : Ms) → m.0 ≤ most_ms → Contiguous m (spans_from m l)
unfolding spans_from
from-contiguous [] m h = over
from-contiguous (s ∷ l) m h = next {s = span_from m s} (omega arith) (from-contiguous l (plus m (in_ms s.lasts)) (omega arith))

pub contiguous : (l : Tags) → Contiguous (ms 0) (karaoke_spans l)
unfolding karaoke_spans
contiguous l = from-contiguous (syllables l) (ms 0) (omega arith)
