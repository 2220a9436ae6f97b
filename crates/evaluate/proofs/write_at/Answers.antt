use mir.Syntax.{w32}
use mir.ValLaws.{to_z-of_z}
use Rattle.evaluate.proofs.Ends.{fault_in-words, late_in_words}
use Rattle.evaluate.proofs.write_at.Goals as goal

pub returns-in-Some : goal.returns-in-Some
returns-in-Some c =
    rw (to_z-of_z w32 c.args.t c.ranges.t, to_z-of_z w32 c.args.dur c.ranges.dur) at (fault_in-words c.apply_all.ensures c.in-Some.is)

pub returns-in-None : goal.returns-in-None
returns-in-None c =
    rw (to_z-of_z w32 c.args.t c.ranges.t, to_z-of_z w32 c.args.dur c.ranges.dur) at (late_in_words c.apply_all.ensures c.in-None.is _ c.after_records-late.ensures c.is_ok.ensures.value)
