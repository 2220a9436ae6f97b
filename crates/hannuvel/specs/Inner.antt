-- Numbers as the code packs them. The remainders cut nothing off: Rattle.hannuvel.proofs.Unpacked.
use Rattle.std.specs.Prelude.{ℕ, ◌+◌, ◌-◌, ◌*◌, ◌%◌, ◌^◌, ◌<◌, ℤ, pos, negsuc, Float, Option, Some, None, Result, Ok, Err}
use Rattle.scan.specs.Scan.{pick}
use Rattle.refusal.specs.Refusal.{number_of, place_of}
use Rattle.refusal.specs.declared.Refusal.{Refusal}
use Rattle.rows.specs.Rows.{bits}
use Rattle.clips.specs.declared.Clip.{Clip}
use Rattle.style.specs.declared.Place.{Place}
use Rattle.hannuvel.specs.Instant.{mark_extra, mark_value}

abbrev pub packed : ℕ → ℕ → ℕ → ℕ
packed number extra value = number * 2 ^ 48 + extra % 2 ^ 16 * 2 ^ 32 + value % 2 ^ 32

abbrev pub refusal_word : Refusal → ℕ
refusal_word r = packed (number_of r) 0 (place_of r)

-- the number of an answer: what `word` makes of its value, or the refusal
abbrev pub answer_word : {A : Type 0} → (A → ℕ) → Result A Refusal → ℕ
answer_word word (Ok x) = word x
answer_word word (Err r) = refusal_word r

-- ---- the words of values

-- of a call that has nothing to say
abbrev pub no_word : Unit {0} → ℕ
no_word x = 0

abbrev pub count_word : ℕ → ℕ
count_word n = packed 0 0 n

abbrev pub clip_word : Clip → ℕ
clip_word c = packed 0 c.from c.scale

abbrev pub mark_word : Option ℤ → ℕ
mark_word m = packed 0 (mark_extra m) (mark_value m)

abbrev pub progress_word : Float → ℕ
progress_word x = packed 0 0 (bits x)

abbrev pub style_word : Place → ℕ
style_word p = packed 0 (pick p.of_block 1 0) (p.from % 2 ^ 16 * 2 ^ 16 + (p.to - p.from) % 2 ^ 16)

-- an i32
abbrev pub Signed : ℤ → Type 0
Signed (pos n) = n < 2 ^ 31
Signed (negsuc n) = n < 2 ^ 31

abbrev pub SignedMark : Option ℤ → Type 0
SignedMark None = Unit
SignedMark (Some a) = Signed a
