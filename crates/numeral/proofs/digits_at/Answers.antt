use mathlib.Core.Path.{◌≡◌, sym, subst}
use Prim.Native.Nat.{◌<◌}
use Rattle.numeral.specs.declared.Decimal.{Decimal}
use Rattle.numeral.specs.Numeral.{most, split_at, digits_of}
use Rattle.numeral.proofs.Exponent.{valued}
use Rattle.numeral.proofs.digits_at.Goals as goal

pub returns : goal.returns
unfolding split_at
returns c =
    let p = c.before.before in
    let e = p.before.before.before.before.before in
    let s = e.args.text.now in
    let at : Decimal = record { from = p.past-from.result; whole = p.span-whole.result; fraction = p.past-fraction.result; end = p.span-end.result } in
    let q : at ≡ split_at s e.args.a e.args.b = simp (p.span-end.ensures.is, p.past-fraction.ensures.is, p.span-whole.ensures.is, p.past-from.ensures.is) in
    subst (λ (d : Decimal). c.value-2.result ≡ digits_of s d) q (valued s at (subst (λ (d : Decimal). digits_of s d < most) (sym q) e.requires.2) _ _ c.value.ensures c.value-2.ensures)
