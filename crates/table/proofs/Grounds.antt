-- Grounds 5 and 6: what no ground says of a call, and back.
use mathlib.Core.Path.{◌≡◌, refl}
use mathlib.Core.List.{List}
use mathlib.Core.Bool.{Bool, true, false}
use mathlib.Core.Logic.{⊎_elim}
use Prim.Native.Nat.{ℕ, ◌≤◌, min}
use native.Mathlib.Omega.{arith}
use lib.IntN.{ℤ, pos, negsuc, nat_abs}
use lib.Dec.{leb}
use lib.Seq.{take_all}
use borrow.Author.Tests.{leb-true}
use Rattle.scan.specs.Scan.{pick, both}
use Rattle.scan.proofs.Laws.{le_or_lt}
use Rattle.float.specs.Float.{reach}
use Rattle.refusal.specs.Refusal.{Checked, most_places}
use Rattle.std.specs.Prelude.{Ok, Err}
use Rattle.refusal.specs.declared.Refusal.TheVariants.{TableMalformed, TimeOutOfRange}
use Rattle.tag.specs.Tag.{most_depth}
use Rattle.tag.specs.Table.{places_of}
use Rattle.refusal.specs.Answer.{first_ground}
use Rattle.tag.specs.WellFormed.{records_of, broken, fault, excess, front, table_ground_to, table_ground}
use Rattle.tag.proofs.Formed.{bad_good, first_good, ground-formed, formed-ground}
use Rattle.table.specs.Inner.{part}
use Rattle.table.specs.Ground.{in_time, time_ground, Fine, call_ground_to, call_ground}
use Rattle.table.proofs.Slices.{length-records}

-- ---- ground 5 in the code's words

pub excess-places : (t : List ℕ) → excess t ≡ pick (leb (places_of t) most_places) (pick (broken t) (Err (TableMalformed (places_of t))) (Ok tt)) (Err (TableMalformed most_places))
unfolding excess
excess-places t = rw (length-records t)

-- the first 1,024 records, or all
part-front : (t : List ℕ) → part t 0 (min (places_of t) most_places) ≡ front t
part-front t =
    let l = length-records t in
    ⊎_elim
    (λ h. let z : min (places_of t) most_places ≡ places_of t = omega arith in
    rw (z, take_all (places_of t) (records_of t) (omega arith), take_all most_places (records_of t) (omega arith)))
    (λ h. let z : min (places_of t) most_places ≡ most_places = omega arith in rw z)
    (le_or_lt (places_of t) most_places)

pub table_found : (t : List ℕ) (n : ℕ) (c : Checked) → n ≡ min (places_of t) most_places → c ≡ fault most_depth 0 (part t 0 n) → first_ground c (excess t) ≡ table_ground t
unfolding table_ground_to
table_found t n c h e = rw (e, h, part-front t)

-- ---- ground 6

pub times_found : (t dur : ℤ) (a b v : Bool) → a ≡ in_time t → b ≡ in_time dur → v ≡ both a b → pick v (Ok tt) (Err TimeOutOfRange) ≡ time_ground t dur
unfolding time_ground
times_found t dur a b v h g e = rw (e, h, g)

-- within ±1,000,000,000
pub in_time-size : (z : ℤ) → in_time z ≡ true → nat_abs z ≤ reach
in_time-size (pos n) e = leb-true n reach e
in_time-size (negsuc n) e = let h = leb-true n 999999999 (as_is (leb n 999999999) e) in omega arith
  where
    as_is : (b : Bool) → pick b true false ≡ true → b ≡ true
    as_is true e = refl
    as_is false e = e

-- ---- a call

times-good : (a b : Bool) → pick {A = Checked} (both a b) (Ok tt) (Err TimeOutOfRange) ≡ Ok tt → (a ≡ true) × (b ≡ true)
times-good true true e = (refl, refl)
times-good true false e = absurd (bad_good e)
times-good false b e = absurd (bad_good e)

pub good-fine : (ws : List ℕ) (t dur : ℤ) → call_ground ws t dur ≡ Ok tt → Fine ws t dur
unfolding call_ground_to time_ground
good-fine ws t dur e =
    let f = first_good (table_ground ws) (time_ground t dur) e in
    let g = times-good (in_time t) (in_time dur) f.1 in
    record { formed = ground-formed ws f.0; instant = g.0; duration = g.1 }

pub fine-good : (ws : List ℕ) (t dur : ℤ) → Fine ws t dur → call_ground ws t dur ≡ Ok tt
unfolding call_ground_to time_ground
fine-good ws t dur f = rw (formed-ground ws f.formed, f.instant, f.duration)
