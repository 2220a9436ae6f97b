use Rattle.std.proofs.Common.{◌≡◌, ◌-◌}
use Rattle.float.specs.Float.{one}
use Rattle.power.specs.Power.{times}
use Rattle.power.proofs.whole.Given as goal

abbrev pub invariant-loop : goal.invariant-loop
invariant-loop l = times (l.n - l.counter) l.x l.p ≡ times l.n l.x one
