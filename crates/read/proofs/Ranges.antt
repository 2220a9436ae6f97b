-- What a reading writes is a well-formed table that decodes to the block's tags.
use mathlib.Core.Path.{◌≡◌, refl}
use mathlib.Core.List.{List}
use mathlib.Core.Logic.{inl}
use Prim.Native.Nat.{ℕ, ◌+◌, ◌≤◌}
use native.Mathlib.Omega.{arith}
use native.Mathlib.Nat.{le_refl, le_trans}
use lib.Ieee.{Float, of_bits, to_bits}
use Rattle.refusal.specs.Refusal.{most_bytes, text_ground}
use Rattle.std.specs.Prelude.{Ok, Option, Some, None}
use Rattle.float.specs.Float.{one, in_reach_lem}
use Rattle.numeral.proofs.Reach.{Bounded}
use Rattle.lists.specs.Lists.{first_of}
use Rattle.tag.specs.Tag.{most_depth, count}
use Rattle.tag.specs.Table.{bits}
use Rattle.tag.specs.Range as Range
use Rattle.tag.specs.Range.{rows, in_range}
use Rattle.tag.specs.WellFormed.{All, all, more}
use Rattle.tag.specs.Decode.{f}
use Rattle.tag.proofs.Decoding.{BackT, Sound, empty, single, nest, sound_append}
use Rattle.plain.specs.Plain.{One}
use Rattle.read.specs.declared.Span.{Span}
use Rattle.read.specs.Block.{one_got, head_times, head_accel, parse}
use Rattle.read.specs.Reading.{block_of}
use Rattle.read.proofs.Words.{Fits, float_fits, cut_fits, cut-back, sound_tag}
use Rattle.read.proofs.Fine.{Fine, nothing, late, tag, away, plain-fine}
use Rattle.refusal.proofs.Laws.{good-short}
use Rattle.read.proofs.Parts.{parse_has, SpanIn}

one-fits : Fits Range.float (bits one)
unfolding of_bits to_bits in_reach_lem
one-fits = refl

one-back : f (bits one) ≡ one
unfolding of_bits to_bits
one-back = refl

-- the numbers of a \t
t-back : {l : List Float} → All Bounded l → (n : ℕ) → BackT (head_times l) (head_accel l) n
unfolding in_range rows
t-back all n = record { range = rw one-fits; times = refl; accel = one-back }
t-back (more a all) n = record { range = rw (float_fits a); times = refl; accel = a.back }
t-back (more a (more b all)) n = record { range = rw (cut_fits a, cut_fits b, one-fits); times = rw (cut-back a, cut-back b); accel = one-back }
t-back (more a (more b (more c l))) n = record { range = rw (cut_fits a, cut_fits b, float_fits c); times = rw (cut-back a, cut-back b); accel = c.back }

one_sound : {s : List ℕ} {top p q : ℕ} {o : One} (d i : ℕ) → Fine s top p q o → (one_got i o).far ≡ None → Sound d (one_got i o).tags
one_sound d i nothing f = empty
one_sound d i (late k a b v) f = empty
one_sound d i (tag {x = x} h) f = single (sound_tag x h) empty
one_sound d i (away h v) f = absurd (let z : ◌≡◌ {A = ℕ} 0 1 = cc in omega arith)

first_nowhere : (a b : Option ℕ) → first_of a b ≡ None → (a ≡ None) × (b ≡ None)
first_nowhere None b e = (refl, e)
first_nowhere (Some p) b e = absurd (let z : ◌≡◌ {A = ℕ} 0 1 = cc in omega arith)

-- where ground 4 does not stand, every tag's record is in range and read back as it, and \t nest at most d deep
pub sound : (d : ℕ) (s : List ℕ) (i e : ℕ) → i ≤ e → e ≤ most_bytes → (parse d s i e).far ≡ None → Sound d (parse d s i e).tags
sound d s i e =
    let top = e in
    λ h. parse_has s top (λ d i e g. e ≤ most_bytes → g.far ≡ None → Sound d g.tags)
    (λ d i e l h f. empty)
    (λ d i k e g h a b u v l f.
    let w = first_nowhere g.far h.far f in
    sound_append (u (le_trans b l) w.0) (v l w.1))
    (λ d i m p q e z a b c l m₁ n₁ h f. one_sound d i (plain-fine s top p q c (le_trans l h) m₁ n₁ (i + 1) m (omega arith)) f)
    (λ d i p q e l g z a b u v h f. nest (t-back u.heads (count g.tags)) (v (le_trans b h) f) empty)
    d i e h (le_refl e) (inl refl)

-- of the part x of the text that either call reads
pub block_sound : (s : List ℕ) (x : Span) → SpanIn s x → text_ground s ≡ Ok tt → (block_of s x).far ≡ None → Sound most_depth (block_of s x).tags
block_sound s x inside e f = sound most_depth s x.from x.to inside.order (le_trans inside.high (good-short s e)) f
