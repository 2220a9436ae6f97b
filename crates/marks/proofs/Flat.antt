-- A table's marks need no recursion: they are those of its records, one after the other.
use mathlib.Core.Path.{◌≡◌, refl, sym, ap, ◌∙◌}
use mathlib.Core.Bool.{Bool, true, false}
use mathlib.Core.List.{List, [], ◌∷◌, ◌++◌, append_assoc}
use Prim.Native.Nat.{ℕ, zero, suc, ◌≤◌}
use native.Mathlib.Nat.{le_refl}
use native.Mathlib.Omega.{arith}
use lib.Dec.{eqb}
use lib.IntN.{ℤ}
use lib.ListN.{length, take, drop, length-take, length-drop, take-append-drop}
use borrow.Author.Tests.{eqb-true}
use Rattle.scan.specs.Scan.{pick}
use Rattle.tag.specs.declared.Record.{Record}
use Rattle.tag.specs.Tag.{AnimatedTag, Tags, none, and, inside}
use Rattle.tag.specs.WellFormed.{t_kind, holds}
use Rattle.tag.specs.Decode.{decoders, decode_one, decode_t, decode_in, decode}
use Rattle.tag.proofs.Tags.{fold_own}
use Rattle.tag.proofs.Decoding.{inside_one}
use Rattle.marks.specs.Marks.{Interval, own_marks, marks}
use Rattle.marks.specs.Inner.{record_marks}

module _ (dur : ℤ) where
  -- a T's own marks are those of its record alone
  own_t : (r : Record) (l : Tags) → r.kind ≡ t_kind → own_marks dur (decode_one r) ≡ own_marks dur (decode_t r l)
  unfolding decode_one decoders
  own_t r l e = rw e

  marks-and : (x : AnimatedTag) (l : Tags) → marks dur (and x l) ≡ (own_marks dur x ++ marks dur (inside x)) ++ marks dur l
  unfolding marks
  marks-and x l = ap (λ (a : List Interval). a ++ marks dur l) (fold_own (λ y inner. own_marks dur y ++ inner) [] ◌++◌ x)

  marks-none : marks dur none ≡ []
  unfolding marks
  marks-none = refl

  pub records-append : (a b : List Record) → record_marks dur (a ++ b) ≡ record_marks dur a ++ record_marks dur b
  unfolding record_marks
  records-append [] b = refl
  records-append (r ∷ a) b = rw (records-append a b) (sym (append_assoc (own_marks dur (decode_one r)) (record_marks dur a) (record_marks dur b)))

  no_record : record_marks dur [] ≡ []
  unfolding record_marks
  no_record = refl

  append_nil : (l : List Interval) → l ++ [] ≡ l
  append_nil [] = refl
  append_nil (i ∷ l) = ap (λ (k : List Interval). i ∷ k) (append_nil l)

  abbrev own : Record → List Interval
  own r = own_marks dur (decode_one r)

  -- a T's record with all that follows it
  with_inside : (r : Record) (l : List Record) (inner rest : Tags) → r.kind ≡ t_kind → marks dur inner ≡ record_marks dur (take (holds r) l) → marks dur rest ≡ record_marks dur (drop (holds r) l) → marks dur (and (decode_t r inner) rest) ≡ record_marks dur (r ∷ l)
  unfolding record_marks
  with_inside r l inner rest e a b =
      marks-and (decode_t r inner) rest
      ∙ ap (λ (k : List Interval). (k ++ marks dur inner) ++ marks dur rest) (sym (own_t r inner e))
      ∙ rw (a, b) (append_assoc (own r) (record_marks dur (take (holds r) l)) (record_marks dur (drop (holds r) l)))
      ∙ ap (λ (k : List Interval). own r ++ k) (sym (records-append (take (holds r) l) (drop (holds r) l)) ∙ ap (record_marks dur) (take-append-drop (holds r) l))

  with_none : (r : Record) (l : List Record) (rest : Tags) → marks dur rest ≡ record_marks dur l → marks dur (and (decode_one r) rest) ≡ record_marks dur (r ∷ l)
  unfolding record_marks
  with_none r l rest a =
      marks-and (decode_one r) rest
      ∙ rw (inside_one r, marks-none, a) (ap (λ (k : List Interval). k ++ record_marks dur l) (append_nil (own r)))

  flat_in : (n : ℕ) (l : List Record) → length l ≤ n → marks dur (decode_in n l) ≡ record_marks dur l
  unfolding decode_in
  flat_in zero [] h = marks-none ∙ sym no_record
  flat_in zero (r ∷ l) h = absurd (omega arith)
  flat_in (suc n) [] h = marks-none ∙ sym no_record
  flat_in (suc n) (r ∷ l) h =
      go _ _ _ (eqb r.kind t_kind) refl
      (flat_in n (take (holds r) l) (omega (arith, length-take (holds r) l)))
      (flat_in n (drop (holds r) l) (omega (arith, length-drop (holds r) l)))
      (flat_in n l (omega arith))
    where
      go : (inner rest plain : Tags) (t : Bool) → eqb r.kind t_kind ≡ t → marks dur inner ≡ record_marks dur (take (holds r) l) → marks dur rest ≡ record_marks dur (drop (holds r) l) → marks dur plain ≡ record_marks dur l → marks dur (pick t (and (decode_t r inner) rest) (and (decode_one r) plain)) ≡ record_marks dur (r ∷ l)
      go inner rest plain true e a b c = with_inside r l inner rest (eqb-true r.kind t_kind e) a b
      go inner rest plain false e a b c = with_none r l plain c

  -- the marks of the tags that records stand for, at every depth
  pub flat : (l : List Record) → marks dur (decode l) ≡ record_marks dur l
  flat l = flat_in (length l) l (le_refl _)
