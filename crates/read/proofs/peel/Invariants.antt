use Rattle.read.proofs.Peeling.{Peeling, from}
use Rattle.read.specs.Block.{peel_to}
use Prim.Native.Nat.{◌-◌, ◌≤◌}
use Rattle.read.proofs.peel.Given as goal

abbrev pub invariant-loop-w : goal.invariant-loop-w
invariant-loop-w l = (l.p ≤ l.i) × (l.i ≤ l.q) × (l.heads.count ≤ l.i - l.p) × Peeling (peel_to l.text l.p l.q) (from l.text l.q l.i) l.heads

abbrev pub decreases-loop-w : goal.decreases-loop-w
decreases-loop-w l = l.q - l.i
