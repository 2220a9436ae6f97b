use Rattle.std.proofs.Common.{◌≡◌, ℕ, ◌+◌, ◌*◌, ◌/◌, ◌%◌, ◌^◌, ◌<◌, ◌≤◌, sym, ap, ◌∙◌, arith}
use Rattle.decimal.proofs.Law.{of_bits_at, clean_at}
use Rattle.root.specs.Root.{square}
use Rattle.root.specs.Inner.{wide}
use Rattle.root.proofs.Law.{even_power, odd_power, Rounded, rounded}
use Rattle.root.proofs.root_of.Goals as goal
use Rattle.root.proofs.root_of.Goals.{After-nearest_root-r, Joined-w-eq0, then-w-eq0, else-w-eq0}

-- what n is where the two arms meet
scaled : (c : Joined-w-eq0) → (c.if-w-eq0.n * square (2 ^ ((c.args.w / 2 ^ 23 + 101) / 2)) ≡ wide c.args.w) × (2 ^ 46 ≤ c.if-w-eq0.n) × (c.if-w-eq0.n < 2 ^ 48)
scaled c =
    let w = c.args.w in
    let m = w % 2 ^ 23 + 2 ^ 23 in
    let u = w / 2 ^ 23 in
    elim c.if-w-eq0.branch [
      | then-w-eq0 h ↦ (ap (λ (n : ℕ). n * square (2 ^ ((u + 101) / 2))) h.n-is ∙ even_power m u h.if-w-eq0.true, omega (arith, h.n-is), omega (arith, h.n-is))
      | else-w-eq0 h ↦ (ap (λ (n : ℕ). n * square (2 ^ ((u + 101) / 2))) h.n-is ∙ odd_power m u (omega (arith, h.if-w-eq0.false)), omega (arith, h.n-is), omega (arith, h.n-is))
    ]

-- what r is
near : (c : After-nearest_root-r) → Rounded (wide c.args.w) ((c.args.w / 2 ^ 23 + 101) / 2) c.nearest_root-r.result
near c =
    let s = scaled c.before.before in
    rounded _ _ _ s.0 s.1 s.2 c.nearest_root-r.result c.nearest_root-r.ensures

pub nearest_root-r-requires : goal.nearest_root-r-requires
nearest_root-r-requires c = (omega (arith, (scaled c.before).1), omega (arith, (scaled c.before).2), omega arith)

pub overflow_cast-result : goal.overflow_cast-result
overflow_cast-result c = record { fits = omega (arith, (near c).1) }

pub overflow_add-result-2 : goal.overflow_add-result-2
overflow_add-result-2 c = record { fits = omega (arith, (near c).1) }

pub float_from_bits-result : goal.float_from_bits-result
float_from_bits-result c = let f = near c in clean_at _ _ f.0 f.1 (omega arith)

pub returns : goal.returns
returns c =
    let f = near c in
    of_bits_at c.nearest_root-r.result _ f.0 f.1 (omega arith) ∙ sym f.2
