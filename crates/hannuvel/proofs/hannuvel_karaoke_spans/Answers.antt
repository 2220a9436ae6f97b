use Rattle.karaoke.proofs.Depth.{spans-stored}
use Rattle.karaoke.proofs.Spans.{contiguous}
use Rattle.hannuvel.proofs.Spans.{spans_say}
use Rattle.hannuvel.proofs.hannuvel_karaoke_spans.Goals as goal

pub returns : goal.returns
returns c =
    let a = c.write_spans.ensures in
    record { answered = spans_say _ _ (rw (← a.answer) c.packed.ensures); spans = a.words; contiguous = contiguous _; stored = spans-stored _ _ }
