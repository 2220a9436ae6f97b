-- What a walk over the spans of a table has still to give.
use Rattle.std.specs.Prelude.{List}
use Rattle.karaoke.specs.declared.KaraokeSpan.{KaraokeSpan}
use Rattle.karaoke.specs.declared.walk.Walk.{Walk}
use Rattle.karaoke.specs.Karaoke.{spans_from}
use Rattle.karaoke.specs.Inner.{beats_from}

-- those that the walk has still to give
abbrev pub spans_left : Walk → List KaraokeSpan
spans_left s = spans_from s.start_ms (beats_from s.table.now s.at)
