use mathlib.Core.List.{List}
use mathlib.Core.Bool.{Bool, true, false}
use Prim.Native.Nat.{ℕ}
use mir.Syntax.{w32}
use mir.ValLaws.{to_z-of_z}
use Rattle.read.proofs.Parts.{SpanIn, whole_in, braces_in}
use Rattle.animate.specs.Claim.{read_span}
use Rattle.animate.proofs.Agree.{agreed}
use Rattle.animate.proofs.two_controllers.Goals as goal

-- both calls read inside the text
span-in : (b : Bool) (s : List ℕ) → SpanIn s (read_span b s)
span-in true s = braces_in s
span-in false s = whole_in s

pub returns : goal.returns
returns c =
    let a = c.args in
    let p = rw (to_z-of_z w32 a.t c.ranges.t, to_z-of_z w32 a.u c.ranges.u, to_z-of_z w32 a.dur c.ranges.dur) at c.controller-first.ensures in
    let q = rw (to_z-of_z w32 a.t c.ranges.t, to_z-of_z w32 a.u c.ranges.u, to_z-of_z w32 a.dur c.ranges.dur) at c.controller-second.ensures in
    record { agreed = agreed a.text.now (read_span a.raw a.text.now) (span-in a.raw a.text.now) a.t a.u a.dur p q; ran_a = p; ran_b = q }
