use Rattle.std.proofs.Common.{arith, rules}
use Rattle.std.proofs.lemmas.Int.{to_z-of_z}
use Rattle.marks.proofs.Own.{own_fad, own_fade, own_move, own_t, own_none, Quiet}
use Rattle.marks.proofs.after_own.Goals as goal

pub returns-in-1 : goal.returns-in-1
returns-in-1 c = grind (arith, to_z-of_z, own_fad)

pub returns-in-2 : goal.returns-in-2
returns-in-2 c = grind (arith, to_z-of_z, own_fade)

pub returns-in-4 : goal.returns-in-4
returns-in-4 c = grind (arith, to_z-of_z, own_move)

pub returns-in-49 : goal.returns-in-49
returns-in-49 c = grind (arith, to_z-of_z, own_t)

pub returns-in_default : goal.returns-in_default
returns-in_default c = let q : Quiet c.args.t c.args.dur c.args.r = record { no-fad = search rules; no-fade = search rules; no_move = search rules; no-t = search rules } in search (rules, own_none)
