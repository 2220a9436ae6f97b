-- The next mark of all records, found record by record.
use mathlib.Core.Path.{◌≡◌, refl, sym, ap, ◌∙◌}
use mathlib.Core.List.{List, [], ◌∷◌, ◌++◌}
use Prim.Native.Nat.{ℕ, ◌+◌, ◌≤◌, ◌<◌}
use native.Mathlib.Omega.{arith}
use lib.IntN.{ℤ}
use lib.ListN.{drop, drop_of_length-le}
use Rattle.std.specs.Prelude.{Option, None}
use Rattle.tag.specs.declared.Record.{Record}
use Rattle.tag.specs.Table.{places_of}
use Rattle.tag.specs.WellFormed.{records_of}
use Rattle.tag.specs.Decode.{decode_one, tags_of}
use Rattle.table.specs.Inner.{record_in}
use Rattle.table.proofs.Slices.{length-records, drop-records}
use Rattle.marks.specs.Marks.{Interval, own_marks, after_in, least, first_after, next_mark}
use Rattle.marks.specs.Inner.{record_marks}
use Rattle.marks.proofs.Laws.{least_assoc}
use Rattle.marks.proofs.Flat.{flat}

module _ (t dur : ℤ) where
  first-append : (a b : List Interval) → first_after t (a ++ b) ≡ least (first_after t a) (first_after t b)
  unfolding first_after
  first-append [] b = refl
  first-append (i ∷ a) b = rw (first-append a b) (sym (least_assoc (after_in t i) (first_after t a) (first_after t b)))

  -- from the record with the index at on
  abbrev pub from : List ℕ → ℕ → Option ℤ
  from ws at = first_after t (record_marks dur (drop at (records_of ws)))

  pub from_more : (ws : List ℕ) (at : ℕ) → at < places_of ws → from ws at ≡ least (first_after t (own_marks dur (decode_one (record_in ws at)))) (from ws (at + 1))
  unfolding record_marks
  from_more ws at h =
      ap (λ (l : List Record). first_after t (record_marks dur l)) (drop-records ws at h)
      ∙ first-append (own_marks dur (decode_one (record_in ws at))) (record_marks dur (drop (at + 1) (records_of ws)))

  pub from_end : (ws : List ℕ) (at : ℕ) → places_of ws ≤ at → from ws at ≡ None
  unfolding record_marks first_after
  from_end ws at h = ap (λ (l : List Record). first_after t (record_marks dur l)) (drop_of_length-le (records_of ws) {i = at} (omega (arith, length-records ws)))

  pub from_start : (ws : List ℕ) → from ws 0 ≡ next_mark t dur (tags_of ws)
  unfolding next_mark
  from_start ws = ap (first_after t) (sym (flat dur (records_of ws)))
