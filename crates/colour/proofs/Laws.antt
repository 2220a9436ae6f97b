-- A `0x` lies inside: all that skipping needs to know of it.
use mathlib.Core.List.{List}
use mathlib.Core.Logic.{⊎_elim}
use Prim.Native.Nat.{ℕ, ◌+◌, ◌-◌, ◌≤◌, ◌<◌}
use native.Mathlib.Omega.{arith}
use lib.ListN.{get_or}
use lib.Dec.{eqb}
use borrow.Author.Tests.{le-leb, lt-leb}
use Rattle.scan.proofs.Laws.{le_or_lt, picked, skip_stop, skip_go}
use Rattle.colour.specs.Colour.{zero_xat}

pub zero_x_fits : (s : List ℕ) (i e : ℕ) → zero_xat s i e ≤ e - i
unfolding zero_xat
zero_x_fits s i e =
    ⊎_elim
    (λ (h : 2 ≤ e - i).
    let z : 0 ≤ e - i = omega arith in
    rw (le-leb 2 (e - i) h) (picked (λ j. j ≤ e - i) (eqb (get_or s i 0) 48) _ _ (picked (λ j. j ≤ e - i) (eqb (get_or s (i + 1) 0) 120) 2 0 h z) z))
    (λ (h : e - i < 2). rw (lt-leb 2 (e - i) h) (omega arith))
    (le_or_lt 2 (e - i))

-- one step past a `0x`
pub ruleset skips = (skip_stop, skip_go, zero_x_fits)
