-- What the inner functions say, in the code's words: nothing here is a promise to a caller.
use Rattle.std.specs.Prelude.{List, Bool, true, ℕ, ◌+◌, ◌-◌, ◌*◌, ◌≤◌, leb, ltb, eqb, length, get_or, take, drop, Err}
use Rattle.scan.specs.Scan.{pick, both, within}
use Rattle.refusal.specs.Refusal.{Checked}
use Rattle.refusal.specs.declared.Refusal.TheVariants.{TableMalformed}
use Rattle.tag.specs.declared.Record.{Record}
use Rattle.tag.specs.Tag.{most_depth}
use Rattle.tag.specs.Table.{width, rec}
use Rattle.tag.specs.Range.{WordClass, unused, row_fits, time_word, times_fit, part_fits, in_range}
use Rattle.tag.specs.WellFormed.{records_of, t_kind, holds, fault}

-- the record with the index at, and n records from it on
abbrev pub record_in : List ℕ → ℕ → Record
record_in t at =
    let i = at * width in
    rec (get_or t i 0) (get_or t (i + 1) 0) (get_or t (i + 2) 0) (get_or t (i + 3) 0) (get_or t (i + 4) 0) (get_or t (i + 5) 0) (get_or t (i + 6) 0) (get_or t (i + 7) 0)

abbrev pub part : List ℕ → ℕ → ℕ → List Record
part t at n = take n (drop at (records_of t))

-- so many records are there
abbrev pub Inside : List ℕ → ℕ → ℕ → Type 0
Inside t at n = width * (at + n) ≤ length t

-- what seven words may be; those that are not named are unused
abbrev pub words_fit : WordClass → WordClass → WordClass → WordClass → WordClass → WordClass → WordClass → Record → Bool
words_fit a b c d e f g r = row_fits (record { c1 = a; c2 = b; c3 = c; c4 = d; c5 = e; c6 = f; c7 = g; join = λ x. true }) r

abbrev pub one_fits : WordClass → Record → Bool
one_fits a r = words_fit a unused unused unused unused unused unused r

abbrev pub two_fit : WordClass → WordClass → Record → Bool
two_fit a b r = words_fit a b unused unused unused unused unused r

-- the flag of \move and \t and the two times that it says are there, or 0
abbrev pub flag_times : ℕ → ℕ → ℕ → Bool
flag_times f a b = both (both (within 0 1 f) (both (time_word a) (time_word b))) (times_fit f a b)

-- \fn: both parts, and one of them not empty; \r: no name, or one that is not empty
abbrev pub font_parts : Record → Bool
font_parts r = both (part_fits r.w1 r.w2) (both (part_fits r.w3 r.w4) (ltb 0 (r.w2 + r.w4)))

abbrev pub style_part : ℕ → ℕ → ℕ → Bool
style_part f o n = pick (eqb f 0) (both (eqb o 0) (eqb n 0)) (both (part_fits o n) (ltb 0 n))

-- the words of r as a record of the kind k
abbrev pub of_kind : ℕ → Record → Record
of_kind k r = rec k r.w1 r.w2 r.w3 r.w4 r.w5 r.w6 r.w7

-- a record is not at fault by its own words, with so many records behind it and d more levels of T allowed
abbrev pub stands : ℕ → ℕ → Record → Bool
stands left d r = pick (eqb r.kind t_kind) (both (in_range r) (both (ltb 0 d) (leb (holds r) left))) (in_range r)

-- the same of a T
abbrev pub t_stands : ℕ → ℕ → Record → Bool
t_stands left d r = both (in_range (of_kind t_kind r)) (both (ltb 0 d) (leb (holds r) left))

-- the T r with the index at that is in no other, with n records behind it: itself at fault, or the first at fault inside it
unfoldable pub fault_of_t : List ℕ → ℕ → ℕ → Record → Checked
fault_of_t t at n r = pick (both (in_range (of_kind t_kind r)) (leb (holds r) n)) (fault (most_depth - 1) (at + 1) (part t (at + 1) (holds r))) (Err (TableMalformed at))
