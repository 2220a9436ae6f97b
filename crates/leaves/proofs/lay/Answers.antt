use mathlib.Core.Path.{◌≡◌, refl, ap, ◌∙◌}
use mathlib.Core.List.{List}
use Prim.Native.Nat.{ℕ}
use native.Mathlib.Omega.{arith}
use lib.ListN.{set, length-set}
use lib.Seq.{paste, paste-zero}
use borrow.Author.Rules.{rules}
use Rattle.leaves.proofs.Laws.{lay_step}
use Rattle.leaves.proofs.lay.Goals as goal

pub loop-i-init : goal.loop-i-init
loop-i-init c = (paste-zero c.args.out.now 0 c.args.words, refl)

pub loop-i-preserved : goal.loop-i-preserved
loop-i-preserved c =
    let l = c.loop-i in
    let a = c.args in
    (rw l.invariant.0 (lay_step a.out.now a.words l.i (search rules) (search rules)), simp length-set l.invariant.1)

pub returns : goal.returns
returns c =
    let l = c.loop-i in
    let a = c.args in
    let e : l.i ≡ 7 = omega arith in
    ap (λ (x : List ℕ). set x 7 a.place) (l.invariant.0 ∙ ap (λ (k : ℕ). paste a.out.now 0 a.words k) e)
