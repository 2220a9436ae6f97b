-- Of what `hannuvel_style_in_force` returns, the functions of include/hannuvel.h give back the ground, the extra and the value, and the value has the
-- part's offset and length.
use mathlib.Core.Path.{◌≡◌, refl}
use mathlib.Core.Bool.{Bool}
use mathlib.Core.List.{List}
use Prim.Native.Nat.{ℕ, ◌+◌, ◌-◌, ◌*◌, ◌/◌, ◌%◌, ◌^◌, ◌<◌}
use native.Mathlib.Omega.{arith}
use native.Mathlib.Nat.{le_trans, lt_of_le_of_lt, mod-eq_of_lt, mod-lt, div-eq_of_lt, mul-add-div_right, mul-add-mod_self_right, add-zero}
use lib.Dec.{lit<, lit≤}
use lib.IntN.{ℤ}
use Rattle.scan.specs.Scan.{pick}
use Rattle.scan.proofs.Laws.{picked}
use Rattle.refusal.specs.Refusal.{Checked, number_of, place_of}
use Rattle.refusal.specs.declared.Refusal.{Refusal}
use Rattle.std.specs.Prelude.{Result, Ok, Err}
use Rattle.tag.specs.Decode.{tags_of}
use Rattle.tag.specs.Depth.{AtLessDepth}
use Rattle.tag.proofs.Deeper.{stored_by}
use Rattle.table.specs.Ground.{call_ground}
use Rattle.state.specs.declared.RenderState.{RenderState}
use Rattle.state.specs.Apply.{evaluate_at}
use Rattle.state.specs.State.{reset_to}
use Rattle.evaluate.specs.Evaluate.{Evaluated, evaluated_or, evaluated_to, evaluated}
use Rattle.evaluate.proofs.Depth.{evaluated-stored}
use Rattle.std.specs.Result.{result_and}
use Rattle.style.specs.Style.{texts_ground, named, shown}
use Rattle.style.specs.declared.Place.{Place}
use Rattle.style.proofs.Places.{Short, texts_short, Fits, named-fits}
use Rattle.hannuvel.specs.Packed.{word_value, Says}
use Rattle.hannuvel.specs.InForce.{style_of, style_at_to, style_at, ground_of, StyleCall}
use Rattle.hannuvel.specs.Inner.{packed, answer_word, style_word}
use Rattle.hannuvel.proofs.Unpacked.{unpacked, plain, Low, call_low}

-- the first ground of the texts and of the call, or what \r has left
module _ (ws : List ℕ) (t dur : ℤ) (block own : List ℕ) where
  pub style_is : style_at ws t dur block own ≡ result_and (result_and (texts_ground block own) (call_ground ws t dur)) (named (reset_to (evaluate_at t dur (tags_of ws))) block own)
  unfolding evaluated_to
  style_is = go (texts_ground block own) (call_ground ws t dur) (evaluate_at t dur (tags_of ws))
    where
      go : (c d : Checked) (st : RenderState) → result_and c (style_of (evaluated_or d st) block own) ≡ result_and (result_and c d) (named (reset_to st) block own)
      go (Ok _) (Ok _) st = refl
      go (Ok _) (Err r) st = refl
      go (Err r) d st = refl

-- an offset and a length in one word
two_small : (a b : ℕ) → a < 2 ^ 16 → b < 2 ^ 16 → a * 2 ^ 16 + b < 2 ^ 32
two_small a b h k = omega arith

bit_small : (b : Bool) → pick b 1 0 < 2 ^ 16
bit_small b = picked (λ (n : ℕ). n < 2 ^ 16) b 1 0 (lit< tt) (lit< tt)

pub part-packed : (b : Bool) (from size : ℕ) → let x = from % 2 ^ 16 * 2 ^ 16 + size % 2 ^ 16 in pick b 1 0 * 2 ^ 32 + x ≡ packed 0 (pick b 1 0) x
part-packed b from size =
    let x = from % 2 ^ 16 * 2 ^ 16 + size % 2 ^ 16 in
    let k : x < 2 ^ 32 = two_small (from % 2 ^ 16) (size % 2 ^ 16) (mod-lt from (lit< tt)) (mod-lt size (lit< tt)) in
    rw (mod-eq_of_lt {n = pick b 1 0} {m = 2 ^ 16} (bit_small b), mod-eq_of_lt {n = x} {m = 2 ^ 32} k) (omega arith)

-- the call's answer fits
evaluated-fits : (c : Checked) (st : RenderState) (block own : List ℕ) → Low c → Short block own (Ok tt) → Fits (style_of (evaluated_or c st) block own)
evaluated-fits (Ok _) st block own l s = named-fits (reset_to st) block own s
evaluated-fits (Err r) st block own l s = le_trans l (lit≤ tt)

unless-fits : (block own : List ℕ) (c : Checked) (p : Result Place Refusal) → Short block own c → (Short block own (Ok tt) → Fits p) → Fits (result_and c p)
unless-fits block own (Ok _) p s f = f s
unless-fits block own (Err r) p s f = s

answer-fits : (ws : List ℕ) (t dur : ℤ) (block own : List ℕ) → Fits (style_at ws t dur block own)
unfolding evaluated_to
answer-fits ws t dur block own =
    unless-fits block own (texts_ground block own) (style_of (evaluated ws t dur) block own) (texts_short block own)
    (λ (s : Short block own (Ok tt)). evaluated-fits (call_ground ws t dur) (evaluate_at t dur (tags_of ws)) block own (call_low ws t dur) s)

style_stored : (ws : List ℕ) (t dur : ℤ) (block own : List ℕ) → AtLessDepth ws (λ k. style_at_to k ws t dur block own) (λ g. result_and (texts_ground block own) (Err g))
style_stored ws t dur block own d h = stored_by (λ (e : Evaluated). result_and (texts_ground block own) (style_of e block own)) (evaluated-stored ws t dur d h)

-- so nothing of it is cut off
style_whole : (a : Result Place Refusal) → Fits a → let p = shown a in Says (answer_word style_word a) (ground_of a) (pick p.of_block 1 0) (p.from * 2 ^ 16 + (p.to - p.from))
style_whole (Ok p) f =
    let low : p.from < 2 ^ 16 = lt_of_le_of_lt (le_trans f.0 f.1) (lit< tt) in
    let high : p.to < 2 ^ 16 = lt_of_le_of_lt f.1 (lit< tt) in
    let short : p.to - p.from < 2 ^ 16 = omega arith in
    rw (mod-eq_of_lt low, mod-eq_of_lt short)
    (unpacked 0 (pick p.of_block 1 0) (p.from * 2 ^ 16 + (p.to - p.from)) (bit_small p.of_block) (two_small p.from (p.to - p.from) low short))
style_whole (Err r) f = plain (number_of r) (place_of r) f

-- value >> 16 is the offset and value & 0xFFFF the length
part_back : (a : Result Place Refusal) (r : ℕ) → Fits a → (let p = shown a in Says r (ground_of a) (pick p.of_block 1 0) (p.from * 2 ^ 16 + (p.to - p.from))) → let p = shown a in ground_of a ≡ Ok tt → (word_value r / 2 ^ 16 ≡ p.from) × (word_value r % 2 ^ 16 ≡ p.to - p.from)
part_back (Ok p) r f u e =
    let high : p.to < 2 ^ 16 = lt_of_le_of_lt f.1 (lit< tt) in
    let short : p.to - p.from < 2 ^ 16 = omega arith in
    let v = u.value in
    let some : 0 < 2 ^ 16 = lit< tt in
    (rw (v, mul-add-div_right some p.from (p.to - p.from), div-eq_of_lt short, add-zero), rw (v, mul-add-mod_self_right p.from (2 ^ 16) (p.to - p.from), mod-eq_of_lt short))
part_back (Err g) r f u e = cc

pub style_says : (ws : List ℕ) (t dur : ℤ) (block own : List ℕ) {r : ℕ} → r ≡ answer_word style_word (style_at ws t dur block own) → StyleCall ws t dur block own r
style_says ws t dur block own w =
    let a = style_at ws t dur block own in
    let f = answer-fits ws t dur block own in
    let p = shown a in
    let said : Says _ (ground_of a) (pick p.of_block 1 0) (p.from * 2 ^ 16 + (p.to - p.from)) = rw w (style_whole a f) in
    record { answered = said; part = part_back a _ f said; stored = style_stored ws t dur block own }
