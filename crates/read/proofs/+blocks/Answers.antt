use mathlib.Core.Path.{◌≡◌, refl, sym, ◌∙◌, ap}
use native.Mathlib.Omega.{arith}
use borrow.Author.Rules.{rules}
use Rattle.tag.specs.Tag.{count}
use Rattle.rows.specs.Rows.{laid_rows}
use Rattle.tag.specs.Table.{encode}
use Rattle.plain.specs.Names.{key_at, t_key}
use Rattle.read.proofs.Walk.{parse-end, parse-skip, parse_bare, parse_tag, tag_t, t-none, less_left, count_step, next_past}
use Rattle.read.specs.Inner.{Seen}
use Rattle.read.proofs.Seen.{peel_word}
use Rattle.read.proofs.Turn.{plain-told, t-told, turning_start, turning_turn, turning_end}
use Rattle.read.proofs.+blocks.Goals as goal

-- parse_one
pub parse_one-returns-then-key-eq116 : goal.parse_one-returns-then-key-eq116
parse_one-returns-then-key-eq116 t c =
    let e : key_at _ _ _ ≡ t_key = sym c.key_at-key.ensures ∙ c.if-key-eq116.true in
    rw (tag_t _ _ _ c.args.h e) c.parse_t.ensures

pub parse_one-returns : goal.parse_one-returns
parse_one-returns t c = plain-told _ _ _ c.args.h _ _ _ (λ z. c.if-key-eq116.false (c.key_at-key.ensures ∙ z)) c.plain_tag.ensures

-- parse_overrides_depth
pub parse_overrides_depth-loop-i-init : goal.parse_overrides_depth-loop-i-init
parse_overrides_depth-loop-i-init t c = (search rules, search rules, search rules, turning_start _ _)

pub parse_overrides_depth-loop-i-preserved-then-h-i : goal.parse_overrides_depth-loop-i-preserved-then-h-i
parse_overrides_depth-loop-i-preserved-then-h-i t c =
    let l = c.loop-i in
    let a = c.args in
    let h = c.head_at-h in
    let k = parse_bare a.depth a.text.now l.i a.to h.result c.loop-i-test.true c.if-text-i-ne92.false h.ensures.0.is c.if-h-i.true in
    (search rules, search rules, search rules, rw k at l.invariant.3)

pub parse_overrides_depth-loop-i-smaller : goal.parse_overrides_depth-loop-i-smaller
parse_overrides_depth-loop-i-smaller t c =
    let h = c.head_at-h.ensures in
    less_left _ _ _ (next_past _ _ _ _ _ h.1 (rw h.0.end_is h.0.low) h.0.order h.0.next_low) h.0.high

pub parse_overrides_depth-loop-i-preserved : goal.parse_overrides_depth-loop-i-preserved
parse_overrides_depth-loop-i-preserved t c =
    let l = c.loop-i in
    let a = c.args in
    let h = c.head_at-h in
    let o = c.parse_one in
    let k = parse_tag a.depth a.text.now l.i a.to h.result c.loop-i-test.true c.if-text-i-ne92.false h.ensures.0.is c.if-h-i.false in
    (search rules, search rules, rw (ap (λ (x : Seen). x.n) c.then-out.ensures) (count_step _ _ _ _ _ _ _ _ l.invariant.0 l.invariant.2 o.ensures.few h.ensures.1 (rw h.ensures.0.end_is h.ensures.0.low) h.ensures.0.order h.ensures.0.next_low), turning_turn (rw k at l.invariant.3) (omega (arith, c.min-start.ensures)) o.ensures c.then-out.ensures)

pub parse_overrides_depth-loop-i-preserved-then-text-i-ne92 : goal.parse_overrides_depth-loop-i-preserved-then-text-i-ne92
parse_overrides_depth-loop-i-preserved-then-text-i-ne92 t c =
    let l = c.loop-i in
    let a = c.args in
    let k = parse-skip a.depth a.text.now l.i a.to c.loop-i-test.true c.if-text-i-ne92.true in
    (search rules, search rules, search rules, rw k at l.invariant.3)

pub parse_overrides_depth-returns : goal.parse_overrides_depth-returns
parse_overrides_depth-returns t c =
    let l = c.loop-i in
    let a = c.args in
    let k = parse-end a.depth a.text.now l.i a.to c.loop-i-test.false in
    turning_end (rw k at l.invariant.3) (search rules)

-- parse_t
pub parse_t-returns-then-depth-eq0 : goal.parse_t-returns-then-depth-eq0
unfolding encode laid_rows count
parse_t-returns-then-depth-eq0 t c = rw (t-none _ _ _ _ c.if-depth-eq0.true) (record { out = refl; table = refl; few = search rules })

pub parse_t-new-requires : goal.parse_t-new-requires
parse_t-new-requires t c =
    peel_word _ _ _ _ (search rules) (search rules) c.peel-l.ensures

pub parse_t-within-requires : goal.parse_t-within-requires
parse_t-within-requires t c = omega (arith, c.parse_overrides_depth-o.ensures.few, c.requires)

pub parse_t-returns : goal.parse_t-returns
parse_t-returns t c =
    t-told _ _ _ _ _ _ _ _ _ _ _ _ c.if-depth-eq0.false c.peel-l.ensures c.parse_overrides_depth-o.ensures (omega (arith, c.min-start.ensures)) c.t_record.ensures c.put.ensures (rw c.new.ensures at c.within.ensures)
