-- The place, the offset and the scale that the answer to a clip argument names lie within its limits.
use mathlib.Core.List.{List}
use Prim.Native.Nat.{ℕ, ◌+◌, ◌≤◌, ◌<◌}
use native.Mathlib.Omega.{arith}
use native.Mathlib.Nat.{le_trans}
use lib.Dec.{eqb, lit<}
use lib.ListN.{length}
use Rattle.std.specs.Prelude.{Result, Ok, Err}
use Rattle.std.specs.Result.{result_and}
use Rattle.scan.specs.Scan.{below, span_to}
use Rattle.scan.proofs.Laws.{picked}
use Rattle.scan.proofs.Bounds.{tested, trim_start-high}
use Rattle.refusal.specs.declared.Refusal.{Refusal}
use Rattle.refusal.specs.Refusal.{Checked, place_of, most_bytes, text_ground}
use Rattle.clips.specs.declared.Clip.{Clip}
use Rattle.clips.specs.Clip.{too_large, clip, argument, comma, head, clip_parts, clip_of}

-- the rest begins in a text of at most 12,288 bytes and the scale is a u32; a ground's place lies in such a text
abbrev pub Within : Result Clip Refusal → Type 0
Within (Ok c) = (c.from ≤ most_bytes) × (c.scale < too_large)
Within (Err r) = place_of r ≤ most_bytes

parts_within : (s : List ℕ) → length s ≤ most_bytes → Within (Ok (clip_parts s))
unfolding clip_parts
parts_within s l =
    tested Fits (comma s) (length s)
    (λ (m : comma s < length s). tested Fits (head s) too_large
    (λ (k : head s < too_large). (le_trans (trim_start-high s (comma s + 1) (length s) (omega arith)) l, picked (λ (n : ℕ). n < too_large) (eqb (head s) 0) 1 (head s) (lit< tt) k))
    (λ (k : too_large ≤ head s). all))
    (λ (m : length s ≤ comma s). all)
  where
    Fits : Clip → Type 0
    Fits c = Within (Ok c)

    all : Fits (clip 1 (argument s) (length s))
    all = (le_trans (trim_start-high s 0 (length s) (omega arith)) l, lit< tt)

pub clip-within : (s : List ℕ) → Within (clip_of s)
unfolding text_ground
clip-within s =
    let a = span_to (below 128) s 0 (length s) in
    tested Lies most_bytes (length s)
    (λ (l : most_bytes < length s). omega arith)
    (λ (l : length s ≤ most_bytes). tested Lies a (length s) (λ (k : a < length s). omega arith) (λ (k : length s ≤ a). parts_within s l))
  where
    Lies : Checked → Type 0
    Lies c = Within (result_and c (Ok (clip_parts s)))
