use Rattle.read.specs.Reading.{less_braces}
use Rattle.read.proofs.Moved.{raw_said}
use Rattle.read.proofs.parse_raw_block.Goals as goal

pub returns : goal.returns
unfolding less_braces
returns c =
    let a = c.trim_start-a.ensures.is in
    let b = c.trim_end-b.ensures.is in
    let p = c.past-p.ensures.is in
    let q = c.brace_end-q.ensures.is in
    let y = raw_said c.args.text.now (rw (← a, ← b, ← p, ← q) c.read_span.ensures) in
    record { answered = y.0; as_alone = y.1 }
