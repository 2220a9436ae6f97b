-- A clip argument: Rust's `split_clip_arg`.
use Rattle.std.specs.Prelude.{◌≡◌, List, ℕ, ◌+◌, ltb, eqb, length, Result, Ok, Err, MatchResult}
use Rattle.std.specs.Borrow.{Bor}
use Rattle.std.specs.Result.{result_and, result_unwrap_or}
use Rattle.scan.specs.Scan.{pick, other, span_to, trim_start, trim_end}
use Rattle.numeral.specs.Numeral.{whole_number}
use Rattle.refusal.specs.declared.Refusal.{Refusal}
use Rattle.refusal.specs.Refusal.{text_ground}
use Rattle.refusal.specs.Answer.{beside, Stands}
use Rattle.clips.specs.declared.Clip.{Clip}
use Rattle.clips.specs.declared.ClipArg.{ClipArg}
use Rattle.clips.specs.Part.{IsPart}

-- what no u32 is as large as
abbrev pub too_large : ℕ
too_large = 4294967296

-- 01: "the scale (at least 1)"
abbrev pub at_least_one : ℕ → ℕ
at_least_one n = pick (eqb n 0) 1 n

abbrev pub clip : ℕ → ℕ → ℕ → Clip
clip scale from to = record { scale = scale; from = from; to = to }

-- where the argument begins, less leading blanks, and its first comma, or the end
abbrev pub argument : List ℕ → ℕ
argument s = trim_start s 0 (length s)

abbrev pub comma : List ℕ → ℕ
comma s = span_to (other 44) s (argument s) (length s)

-- what stands before the comma, blanks around it dropped, as a whole number: digits alone, and at least one
abbrev pub head : List ℕ → ℕ
head s = whole_number 10 s (argument s) (trim_end s (argument s) (comma s))

-- the scale before the first comma and what is behind it, where that is a u32; else 1 and the argument; leading blanks dropped
unfoldable pub clip_parts : List ℕ → Clip
clip_parts s =
    let all = clip 1 (argument s) (length s) in
    let some = clip (at_least_one (head s)) (trim_start s (comma s + 1) (length s)) (length s) in
    pick (ltb (comma s) (length s)) (pick (ltb (head s) too_large) some all) all

-- `split_clip_arg`, by places: grounds 1 and 2
abbrev pub clip_of : List ℕ → Result Clip Refusal
clip_of s = result_and (text_ground s) (Ok (clip_parts s))

-- "Beside it stand .. scale 1 or an empty part"
abbrev pub refused : Clip
refused = clip 1 0 0

-- the same with these beside a refusal
abbrev pub parts_of : List ℕ → Clip
parts_of s = beside (text_ground s) refused (clip_parts s)

-- what stands for the answer to a text: its ground, and its parts or, beside one, these
abbrev pub ClipStands : List ℕ → Result Clip Refusal → Type 0
ClipStands s r = Stands (text_ground s) refused (clip_parts s) (result_and r (Ok tt)) (result_unwrap_or r refused)

-- 01: "hands back the rest of the argument itself": r is the rest of the text t, the caller's own bytes where they lie
abbrev pub IsRest : Bor (List ℕ) → Bor (List ℕ) → Type 0
IsRest t r = IsPart t (parts_of t.now).from (parts_of t.now).to r

-- of an argument with nothing against it: the rest of the text t and the scale
pub record IsArg (t : Bor (List ℕ)) (a : ClipArg) : Type 0 where
  pub rest : IsRest t a.rest
  pub size : a.scale ≡ (parts_of t.now).scale
  pub ground : text_ground t.now ≡ Ok tt

-- of one refused: ground 1 or 2, and beside it scale 1 and an empty part of the text t, which `clip_scale` and `clip_rest` give
pub record IsRefused (t : Bor (List ℕ)) (e : Refusal) : Type 0 where
  pub ground : text_ground t.now ≡ Err e
  pub beside : parts_of t.now ≡ refused

-- what `split_clip_arg` says of its answer to the text t
abbrev pub Splits : Bor (List ℕ) → Result ClipArg Refusal → Type 0
Splits t r = MatchResult r (IsArg t) (IsRefused t)
