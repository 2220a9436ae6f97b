use Rattle.numeral.proofs.f32_at.Goals as goal

pub returns : goal.returns
returns c = rw (← c.trim_start-a.ensures.is, ← c.trim_end.ensures.is) c.f32_of.ensures
