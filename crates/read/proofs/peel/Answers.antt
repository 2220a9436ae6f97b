use Rattle.read.proofs.Peeling.{behind_end, peeling_stop, peeling_word, peeling_end}
use borrow.Author.Tests.{eq-eqb, ne_eqb, lt-ltb}
use borrow.Author.Rules.{rules}
use native.Mathlib.Omega.{arith}
use mathlib.Core.Path.{◌≡◌, sym, ap, ◌∙◌}
use Rattle.numeral.specs.Numeral.{f32_at, word_of_f32, too_long}
use Rattle.read.specs.declared.Heads.{Heads}
use Rattle.read.proofs.peel.Goals as goal
use Rattle.read.proofs.peel.Goals.{then-k-q-via-then-k-q, then-k-q-via-else-k-q+then-text-k-eq92}

pub returns-in_default : goal.returns-in_default
returns-in_default c =
    let l = c.loop-w in
    let z : c.too_long.result ≡ too_long (word_of_f32 (f32_at c.args.text.now l.i c.span-k.result)) = rw (← c.f32_at.ensures) c.too_long.ensures in
    rw z (peeling_end (peeling_stop c.args.text.now c.args.q l.i c.span-k.result c.span-k.ensures.is l.invariant.3 (λ w e. c.in_default.not-Word w (c.f32_at.ensures ∙ e))) (search rules) (search rules))

pub returns-then-k-q : goal.returns-then-k-q
returns-then-k-q c =
    let l = c.loop-w in
    let w = peeling_word c.args.text.now c.args.q l.i c.span-k.result c.span-k.ensures.is l.invariant.3 _ (sym c.f32_at.ensures ∙ c.in-Word.is) in
    elim c.then-k-q.branch [ then-k-q-via-then-k-q v ↦ peeling_end (rw (← c.push.ensures, behind_end _ _ _ v.if-k-q.true c.span-k.ensures.high) at w) (search rules) (search rules) | then-k-q-via-else-k-q+then-text-k-eq92 v ↦ peeling_end (rw (← c.push.ensures, lt-ltb _ _ v.if-k-q.false, eq-eqb _ _ v.if-text-k-eq92.true) at w) (search rules) (search rules) ]

pub loop-w-preserved : goal.loop-w-preserved
loop-w-preserved c =
    let l = c.loop-w in
    let w = peeling_word c.args.text.now c.args.q l.i c.span-k.result c.span-k.ensures.is l.invariant.3 _ (sym c.f32_at.ensures ∙ c.in-Word.is) in
    (search rules, search rules, omega (arith, ap (λ (h : Heads). h.count) c.push.ensures), rw (← c.push.ensures, lt-ltb _ _ c.if-k-q.false, ne_eqb _ _ c.if-text-k-eq92.false, ← c.trim_start-i-in-loop-w.ensures.is) at w)
