-- The records of a table, one by one, and parts of them.
use mathlib.Core.Path.{◌≡◌, refl, sym, ap, ◌∙◌}
use mathlib.Core.List.{List, [], ◌∷◌}
use Prim.Native.Nat.{ℕ, zero, suc, ◌+◌, ◌-◌, ◌*◌, ◌≤◌, ◌<◌}
use native.Mathlib.Omega.{arith}
use native.Mathlib.Nat.{div-add-mod', mod-lt}
use lib.ListN.{length, get_or, take, drop, length-take, length-drop}
use lib.Seq.{get_or-drop, drop-drop, drop-cons, take-take, take-nil}
use Rattle.tag.specs.declared.Record.{Record}
use Rattle.tag.specs.Table.{width, places_of}
use Rattle.tag.specs.WellFormed.{record_at, records_to, records_of}
use Rattle.table.specs.Inner.{record_in, part, Inside}

-- the record that `record_at` reads is the first of what lies from it on
pub record_first : (t : List ℕ) (at : ℕ) → record_in t at ≡ record_at (drop (width * at) t)
record_first t at =
    let z : width * at ≡ at * width = omega arith in
    let o : at * width + 0 ≡ at * width = omega arith in
    let g = get_or-drop (at * width) t in
    rw (z, g 0 0, g 1 0, g 2 0, g 3 0, g 4 0, g 5 0, g 6 0, g 7 0, o)

length_to : (n : ℕ) (t : List ℕ) → length (records_to n t) ≡ n
unfolding records_to
length_to zero t = refl
length_to (suc n) t = ap suc (length_to n (drop width t))

pub length-records : (t : List ℕ) → length (records_of t) ≡ places_of t
length-records t = length_to (places_of t) t

to_at : (n : ℕ) (t : List ℕ) (at : ℕ) (d : Record) → at < n → get_or (records_to n t) at d ≡ record_at (drop (width * at) t)
unfolding records_to
to_at zero t at d h = absurd (omega arith)
to_at (suc n) t zero d h = refl
to_at (suc n) t (suc at) d h =
    let z : width * suc at ≡ width + width * at = omega arith in
    to_at n (drop width t) at d (omega arith) ∙ rw (z, drop-drop (width * at) width t)

-- it has the index at among the whole records
pub record-at : (t : List ℕ) (at : ℕ) (d : Record) → at < places_of t → get_or (records_of t) at d ≡ record_in t at
record-at t at d h = to_at (places_of t) t at d h ∙ sym (record_first t at)

pub drop-records : (t : List ℕ) (at : ℕ) → at < places_of t → drop at (records_of t) ≡ record_in t at ∷ drop (at + 1) (records_of t)
drop-records t at h =
    let z : suc at ≡ at + 1 = omega arith in
    let l = length-records t in
    let c = drop-cons (records_of t) at (record_in t at) (omega arith) in
    c ∙ rw (record-at t at (record_in t at) h, z)

-- ---- n records from one on

pub inside-places : (t : List ℕ) (at n : ℕ) → Inside t at n → at + n ≤ places_of t
inside-places t at n h = let d = div-add-mod' (length t) width in omega (arith, mod-lt (length t) {m = width} (omega arith))

pub part-more : (t : List ℕ) (at n : ℕ) → at < places_of t → 0 < n → part t at n ≡ record_in t at ∷ part t (at + 1) (n - 1)
part-more t at zero h g = absurd (omega arith)
part-more t at (suc n) h g = let z : suc n - 1 ≡ n = omega arith in rw (drop-records t at h, z)

pub length_part : (t : List ℕ) (at n : ℕ) → at + n ≤ places_of t → length (part t at n) ≡ n
length_part t at n h = omega (arith, length-take n (drop at (records_of t)), length-drop at (records_of t), length-records t)

pub take_part : (t : List ℕ) (at n m : ℕ) → m ≤ n → take m (part t at n) ≡ part t at m
take_part t at n m h = take-take m n (drop at (records_of t)) h

drop-take : (m n : ℕ) (l : List Record) → m ≤ n → drop m (take n l) ≡ take (n - m) (drop m l)
drop-take zero n l h = let z : n - 0 ≡ n = omega arith in rw z
drop-take (suc m) zero l h = absurd (omega arith)
drop-take (suc m) (suc n) [] h = let z = take-nil {A = Record} (suc n - suc m) in sym z
drop-take (suc m) (suc n) (x ∷ l) h = let z : suc n - suc m ≡ n - m = omega arith in rw z (drop-take m n l (omega arith))

pub drop-part : (t : List ℕ) (at n m : ℕ) → m ≤ n → drop m (part t at n) ≡ part t (at + m) (n - m)
drop-part t at n m h = drop-take m n (drop at (records_of t)) h ∙ rw (drop-drop m at (records_of t))
