use mathlib.Core.Path.{◌≡◌}
use Prim.Native.Nat.{◌-◌, ◌*◌, ◌^◌, ◌<◌, ◌≤◌}
use Rattle.decimal.proofs.ratio.Given as goal

abbrev pub invariant-loop-n : goal.invariant-loop-n
invariant-loop-n l = (l.n * 2 ^ l.e ≡ l.num * 2 ^ 149) × (l.n < 2 ^ 60) × (l.e ≤ 149)

abbrev pub decreases-loop-n : goal.decreases-loop-n
decreases-loop-n l = l.e

abbrev pub invariant-loop-d : goal.invariant-loop-d
invariant-loop-d l = (l.n * 2 ^ l.e * l.den ≡ l.num * 2 ^ 149 * l.d) × (0 < l.d) × (l.d * 8388608 ≤ l.n) × (l.n < 2 ^ 60)

abbrev pub decreases-loop-d : goal.decreases-loop-d
decreases-loop-d l = l.n - l.d
