use mathlib.Core.Path.{sym, ap, ◌∙◌, subst}
use Prim.Native.Nat.{ℕ, ◌+◌, ◌*◌, ◌^◌, ◌<◌, ◌≤◌}
use native.Mathlib.Nat.{le_trans, le_of_eq}
use mathlib.Core.Bool.{not}
use lib.Dec.{T}
use lib.Ieee.{binary32, nan_bits, of_bits}
use native.Mathlib.Omega.{arith}
use Rattle.decimal.proofs.Law.{exponent-low, exponent-high, double, halve, q_hi, read_back, clean}
use Rattle.decimal.proofs.ratio.Goals as goal
use Rattle.decimal.proofs.ratio.Goals.{After-half_even, At-loop-d, At-loop-n}

low-e : (c : At-loop-n) → 149 < 60 + c.loop-n.e
low-e c = exponent-low c.args.num c.loop-n.n c.loop-n.e c.requires.0 c.loop-n.invariant.1 c.loop-n.invariant.0

high-e : (c : At-loop-d) → 23 + c.loop-d.e < 60 + 149
high-e c =
    let start = c.before.before.before in
    exponent-high start.args.num start.args.den c.loop-n.n c.loop-d.d c.loop-d.e start.requires.2 c.loop-d.invariant.1 start.requires.1 c.loop-d.invariant.0 c.loop-d.invariant.2

few : (c : After-half_even) → c.half_even.result ≤ 2 ^ 24
few c =
    let l2 = c.before.before in
    let start = l2.before.before.before in
    le_trans (le_of_eq c.half_even.ensures)
    (q_hi start.args.num start.args.den l2.loop-n.n l2.loop-d.d l2.loop-d.e start.requires.2 l2.loop-d.invariant.1 l2.loop-d.invariant.0 l2.loop-d.invariant.2 c.loop-d-test.false (high-e l2))

pub loop-n-preserved : goal.loop-n-preserved
loop-n-preserved c = (double c.loop-n.n c.loop-n.e _ (omega (arith, low-e c.before)) c.loop-n.invariant.0, omega arith, omega arith)

pub loop-d-init : goal.loop-d-init
loop-d-init c = (
  ap (λ (x : ℕ). x * c.args.den) c.loop-n.invariant.0,
  c.requires.2,
  c.loop-n-test.false,
  c.loop-n.invariant.1,
)

pub loop-d-preserved : goal.loop-d-preserved
loop-d-preserved c = (
  halve c.loop-n.n c.loop-d.e c.args.den _ c.loop-d.d c.loop-d.invariant.0,
  omega arith,
  omega arith,
  c.loop-d.invariant.3,
)

pub float_from_bits-result : goal.float_from_bits-result
float_from_bits-result c = subst (λ (x : ℕ). T (not (nan_bits binary32 (c.loop-d.e * 8388608 + x)))) (sym c.half_even.ensures)
    (let l2 = c.before.before in
    let start = l2.before.before.before in
    clean start.args.num start.args.den l2.loop-n.n l2.loop-d.d l2.loop-d.e start.requires.2 l2.loop-d.invariant.1 l2.loop-d.invariant.0 l2.loop-d.invariant.2 c.loop-d-test.false (high-e l2))

pub returns : goal.returns
returns c = ap (λ (x : ℕ). of_bits binary32 (c.loop-d.e * 8388608 + x)) c.half_even.ensures
    ∙ (let l2 = c.before.before in
    let start = l2.before.before.before in
    read_back start.args.num start.args.den l2.loop-n.n l2.loop-d.d l2.loop-d.e start.requires.2 l2.loop-d.invariant.1 l2.loop-d.invariant.0 l2.loop-d.invariant.2 c.loop-d-test.false (high-e l2))

pub overflow_add-e : goal.overflow_add-e
overflow_add-e c = record { fits = omega (arith, high-e c.before) }

pub overflow_mul-result : goal.overflow_mul-result
overflow_mul-result c = record { fits = omega (arith, high-e c.before) }

pub overflow_add-result : goal.overflow_add-result
overflow_add-result c = record { fits = omega (arith, few c, high-e c.before.before) }
