-- Of what each call returns, the three functions of include/hannuvel.h give back the ground, the extra and the value whole: nothing is cut off.
use mathlib.Core.Path.{◌≡◌, refl, sym, ap, ◌∙◌}
use mathlib.Core.List.{List}
use Prim.Native.Nat.{ℕ, ◌+◌, ◌*◌, ◌/◌, ◌%◌, ◌^◌, ◌≤◌, ◌<◌}
use native.Mathlib.Omega.{arith}
use native.Mathlib.Nat.{le_refl, le_trans, lt_of_le_of_lt, add-mul, mul_assoc, mul_comm, mod-eq_of_lt, div-eq_of_lt, mul-add-div_right, mul-add-mod_self_right, div-div-eq-div-mul, add-zero}
use lib.Dec.{lit<, lit≤}
use lib.IntN.{ℤ}
use lib.ListN.{length, length-take, length-drop}
use Rattle.std.specs.Result.{result_and}
use Rattle.scan.specs.Scan.{both}
use Rattle.scan.proofs.Laws.{picked}
use Rattle.float.specs.Float.{to_word, of_word}
use Rattle.float.proofs.Words.{of_word-to_word}
use Rattle.refusal.specs.Refusal.{Checked, number_of, place_of, most_bytes, most_places, text_ground}
use Rattle.refusal.specs.declared.Refusal.{Refusal}
use Rattle.refusal.specs.declared.Refusal.TheVariants.{TimeOutOfRange}
use Rattle.std.specs.Prelude.{Ok, Err, Option, Some, None}
use Rattle.refusal.specs.Answer.{Answer, beside, first_ground}
use Rattle.refusal.proofs.Laws.{Few, Within, place_in, value-small}
use Rattle.read.specs.Reading.{answer}
use Rattle.tag.specs.declared.Record.{Record}
use Rattle.tag.specs.WellFormed.{records_of, holds, table_ground, AtFault, range, deep, past, later, inner, behind}
use Rattle.tag.specs.Decode.{tags_of}
use Rattle.tag.proofs.Formed.{Named, record-at-fault, too_many, broken_last, ground-first}
use Rattle.table.specs.Ground.{in_time, time_ground, Fine, call_ground_to, call_ground}
use Rattle.state.specs.declared.RenderState.{RenderState}
use Rattle.state.specs.Apply.{evaluate_at}
use Rattle.evaluate.specs.Evaluate as Evaluate
use Rattle.evaluate.specs.Evaluate.{evaluated_or, evaluated_to, evaluated}
use Rattle.marks.specs.Marks.{next_mark}
use Rattle.marks.proofs.Depth.{marked-stored}
use Rattle.marks.specs.Answer as Marks
use Rattle.marks.specs.Answer.{Marked, marked_to, marked, mark_of, Exact}
use Rattle.read.specs.declared.Span.{Span}
use Rattle.read.proofs.Parts.{SpanIn}
use Rattle.read.proofs.Places.{few_read, ground-within}
use Rattle.drawing.specs.Answer as Drawing
use Rattle.drawing.proofs.Places as Drawn
use Rattle.drawing.proofs.Places.{few-drawn}
use Rattle.clips.specs.declared.Clip.{Clip}
use Rattle.clips.specs.Clip.{clip, clip_parts, clip_of}
use Rattle.clips.proofs.Places as Clips
use Rattle.hannuvel.specs.Packed.{Unpacks, Says, SaysAnswer, ClipCall}
use Rattle.hannuvel.specs.Instant.{mark_extra, mark_value, Names, MarkingCall}
use Rattle.hannuvel.specs.Inner.{packed, answer_word, no_word, count_word, clip_word, mark_word, SignedMark}
use Rattle.hannuvel.proofs.Instant.{signed-fits, word_small}

-- ---- three numbers in one, the second below b and the last below a

module _ (a b g e v : ℕ) (small : e < b) (low : v < a) where
  abbrev joined : ℕ
  joined = g * (a * b) + e * a + v

  regrouped : joined ≡ (g * b + e) * a + v
  regrouped = simp (add-mul, mul_assoc, mul_comm a b)

  without_low : joined / a ≡ g * b + e
  without_low =
      let p : 0 < a = omega arith in
      rw (regrouped, mul-add-div_right p (g * b + e) v, div-eq_of_lt low, add-zero)

  ground-back : joined / (a * b) ≡ g
  ground-back =
      let p : 0 < b = omega arith in
      rw (← div-div-eq-div-mul joined a b, without_low, mul-add-div_right p g e, div-eq_of_lt small, add-zero)

  extra-back : joined / a % b ≡ e
  extra-back = rw (without_low, mul-add-mod_self_right g b e, mod-eq_of_lt small)

  value-back : joined % a ≡ v
  value-back = rw (regrouped, mul-add-mod_self_right (g * b + e) a v, mod-eq_of_lt low)

pub unpacked : (g e v : ℕ) → e < 2 ^ 16 → v < 2 ^ 32 → Unpacks (packed g e v) g e v
unpacked g e v small low =
    rw (mod-eq_of_lt small, mod-eq_of_lt low)
    (record { ground = ground-back (2 ^ 32) (2 ^ 16) g e v small low; extra = extra-back (2 ^ 32) (2 ^ 16) g e v small low; value = value-back (2 ^ 32) (2 ^ 16) g e v small low })

-- with no extra, and a value of at most 12,288
pub plain : (g v : ℕ) → v ≤ most_bytes → Unpacks (packed g 0 v) g 0 v
plain g v h = unpacked g 0 v (lit< tt) (lt_of_le_of_lt h (lit< tt))

-- a ground whose place is at most 12,288, or an extra and a value that fit
pub says : (c : Checked) (e v : ℕ) → place_in c ≤ most_bytes → (c ≡ Ok tt → (e < 2 ^ 16) × (v < 2 ^ 32)) → Says (answer_word (λ x. packed 0 e v) c) c e v
says (Ok _) e v l h = unpacked 0 e v (h refl).0 (h refl).1
says (Err r) e v l h = plain (number_of r) (place_of r) l

-- ---- the calls that fill a table

-- an answer that counts at most 1,024, its place or count within the text s
answer_says : (s : List ℕ) (a : Answer) {r : ℕ} → Few a → Within s a → r ≡ answer_word count_word a → SaysAnswer r a
answer_says s (Ok n) f h e = rw e (plain 0 n (value-small s (Ok n) f h))
answer_says s (Err g) f h e = rw e (plain (number_of g) (place_of g) (value-small s (Err g) f h))

-- both reading calls
pub reading_says : (s : List ℕ) (x : Span) (places : ℕ) {r : ℕ} → SpanIn s x → r ≡ answer_word count_word (answer s x places) → SaysAnswer r (answer s x places)
reading_says s x places inside e = answer_says s (answer s x places) (few_read s x places) (ground-within s x places inside) e

pub drawing_says : (s : List ℕ) (exponent places : ℕ) {r : ℕ} → r ≡ answer_word count_word (Drawing.answer s exponent places) → SaysAnswer r (Drawing.answer s exponent places)
drawing_says s exponent places e = answer_says s (Drawing.answer s exponent places) (few-drawn s exponent places) (Drawn.ground-within s exponent places) e

-- ---- clip arguments

clip-small : (k : Checked) (c : Clip) → Clips.Within (result_and k (Ok c)) → let p = beside k (clip 1 0 0) c in Says (answer_word clip_word (result_and k (Ok c))) k p.from p.scale
clip-small (Ok _) c h = unpacked 0 c.from c.scale (lt_of_le_of_lt h.0 (lit< tt)) h.1
clip-small (Err r) c h = plain (number_of r) (place_of r) h

pub clip_says : (s : List ℕ) {r : ℕ} → r ≡ answer_word clip_word (clip_of s) → ClipCall s r
clip_says s e = rw e (clip-small (text_ground s) (clip_parts s) (Clips.clip-within s))

-- ---- tables

-- ground 5 names a record among the first 1,024, or the one behind them
fault-inside : {d : ℕ} {l : List Record} {i : ℕ} → AtFault d l i → i < length l
fault-inside (range h) = omega arith
fault-inside (deep h) = omega arith
fault-inside (past h k) = omega arith
fault-inside (later h f) = let g = fault-inside f in omega arith
fault-inside (inner {r = r} {l = l} h f) = let g = fault-inside f in omega (arith, length-take (holds r) l)
fault-inside (behind {r = r} {l = l} h f) = let g = fault-inside f in omega (arith, length-drop (holds r) l)

named-place : (ws : List ℕ) {d : ℕ} {b : Refusal} → Named ws d b → place_of b ≤ most_places
named-place ws (record-at-fault f) = rw f.is (omega (arith, fault-inside f.fault, length-take most_places (records_of ws)))
named-place ws (too_many f h) = le_refl most_places
named-place ws (broken_last f h e) = h

abbrev pub Low : Checked → Type 0
Low (Ok _) = Unit
Low (Err r) = place_of r ≤ most_places

pub table-low : (ws : List ℕ) (c : Checked) → table_ground ws ≡ c → Low c
table-low ws (Ok _) e = tt
table-low ws (Err r) e = named-place ws (ground-first ws r e)

first-low : (a b : Checked) → Low a → Low b → Low (first_ground a b)
first-low (Ok _) b h k = k
first-low (Err r) b h k = h

pub call_low : (ws : List ℕ) (t dur : ℤ) → Low (call_ground ws t dur)
unfolding call_ground_to time_ground
call_low ws t dur = first-low (table_ground ws) (time_ground t dur) (table-low ws (table_ground ws) refl) (picked Low (both (in_time t) (in_time dur)) (Ok tt) (Err TimeOutOfRange) tt (lit≤ tt))

-- `hannuvel_evaluate_at`
low_says : (c : Checked) (st : RenderState) → Low c → Says (answer_word no_word c) (Evaluate.ground_of (evaluated_or c st)) 0 0
low_says (Ok u) st l = says (Ok u) 0 0 (lit≤ tt) (λ e. (lit< tt, lit< tt))
low_says (Err r) st l = says (Err r) 0 0 (le_trans l (lit≤ tt)) (λ e. (lit< tt, lit< tt))

evaluated-ground : (c : Checked) (st : RenderState) → answer_word no_word (Evaluate.ground_of (evaluated_or c st)) ≡ answer_word no_word c
evaluated-ground (Ok _) st = refl
evaluated-ground (Err r) st = refl

module _ (ws : List ℕ) (t dur : ℤ) {r : ℕ} where
  pub evaluated_says : {c : Checked} → c ≡ Evaluate.ground_of (evaluated ws t dur) → r ≡ answer_word no_word c → Says r (Evaluate.ground_of (evaluated ws t dur)) 0 0
  unfolding evaluated_to
  evaluated_says e w =
      let g = call_ground ws t dur in
      let st = evaluate_at t dur (tags_of ws) in
      rw (w, e, evaluated-ground g st) (low_says g st (call_low ws t dur))

-- `hannuvel_next_mark`
marked_says : (c : Checked) (m : Option ℤ) → Low c → SignedMark (mark_of (result_and c (Ok m))) → let a = result_and c (Ok m) in Says (answer_word mark_word a) (Marks.ground_of a) (mark_extra (mark_of a)) (mark_value (mark_of a))
marked_says (Ok _) None l s = unpacked 0 1 0 (lit< tt) (lit< tt)
marked_says (Ok _) (Some a) l s = unpacked 0 0 (to_word a) (lit< tt) (word_small a s)
marked_says (Err r) m l s = plain (number_of r) (place_of r) (le_trans l (lit≤ tt))

-- a mark that is an i32 is named whole
names : {r : ℕ} (m : Option ℤ) → SignedMark m → Says r (Ok tt) (mark_extra m) (mark_value m) → Names r m
names None s u = u
names (Some a) s u = (u, ap of_word u.value ∙ of_word-to_word a (signed-fits a s))

module _ (ws : List ℕ) (t dur : ℤ) {r : ℕ} {m : Marked} (e : m ≡ marked ws t dur) (w : r ≡ answer_word mark_word m) (s : SignedMark (mark_of m)) where
  said : Says r (Marks.ground_of (marked ws t dur)) (mark_extra (mark_of (marked ws t dur))) (mark_value (mark_of (marked ws t dur)))
  unfolding marked_to
  said = rw (w, e) (marked_says (call_ground ws t dur) (next_mark t dur (tags_of ws)) (call_low ws t dur) (rw e at s))

  pub marking : (Fine ws t dur → Exact ws t dur m) → MarkingCall ws t dur r
  marking x = record {
    answered = said;
    exact = λ f. let y = x f in record { names = names (next_mark t dur (tags_of ws)) (rw y.answer at s) (rw (sym e ∙ y.answer) at said); earliest = y.earliest };
    stored = marked-stored ws t dur;
  }
