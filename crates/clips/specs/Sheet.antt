-- Worked examples, by computation: a clip argument, its scale and its rest.
use Rattle.std.specs.Prelude.{◌≡◌, refl, List, [], ◌∷◌, map, ℕ, Result, Ok, Err}
use Prim.Native.String.{String}
use Rattle.scan.specs.Scan.{bytes, span, skip, skip_back, blank_at, blank_before}
use Rattle.numeral.specs.Numeral.{value, whole_number}
use Rattle.refusal.specs.Refusal.{text_ground}
use Rattle.refusal.specs.declared.Refusal.{Refusal}
use Rattle.refusal.specs.declared.Refusal.TheVariants.{NotAscii}
use Rattle.clips.specs.declared.Clip.{Clip}
use Rattle.clips.specs.Part.{between}
use Rattle.clips.specs.Clip.{clip, clip_parts, clip_of, parts_of}

-- the bytes that are handed back
abbrev rest_of : List ℕ → Clip → List ℕ
rest_of s c = between s c.from c.to

-- that each clip argument has its parts
abbrev pub Splits : List (String × Result Clip Refusal) → Type 0
Splits rows = map (λ (r : String × Result Clip Refusal). clip_of (bytes r.0)) rows ≡ map (λ (r : String × Result Clip Refusal). r.1) rows

-- and hands back its rest
abbrev pub Rests : List (String × String) → Type 0
Rests rows = map (λ (r : String × String). rest_of (bytes r.0) (parts_of (bytes r.0))) rows ≡ map (λ (r : String × String). bytes r.1) rows

-- 01, Sheet: `2,m 0 0`: scale 2; `0,m`: 1; `,m`: 1, rest `,m`
pub clips : Splits (
    ("2,m 0 0", Ok (clip 2 2 7)) ∷
    ("0,m", Ok (clip 1 2 3)) ∷
    (",m", Ok (clip 1 0 2)) ∷
    (" 007 , m", Ok (clip 7 7 8)) ∷
    ("4294967295,m", Ok (clip 4294967295 11 12)) ∷
    (" 4294967296,m", Ok (clip 1 1 13)) ∷
    ("+2,m", Ok (clip 1 0 4)) ∷
    ("\t m 0 0", Ok (clip 1 2 7)) ∷
    ("2,\u{80}", Err (NotAscii 2)) ∷
    [])
unfolding span skip skip_back blank_at blank_before value whole_number clip_parts text_ground
clips = refl

-- beside a refusal scale 1 and an empty part
pub refused_parts : parts_of (bytes "2,\u{80}") ≡ clip 1 0 0
unfolding span skip skip_back blank_at blank_before value whole_number clip_parts text_ground
refused_parts = refl

pub rests : Rests (("2, m 0 0", "m 0 0") ∷ (",m", ",m") ∷ (" m 0, 0 ", "m 0, 0 ") ∷ ("3,", "") ∷ [])
unfolding span skip skip_back blank_at blank_before value whole_number clip_parts text_ground
rests = refl
