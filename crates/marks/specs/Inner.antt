-- The marks of a table, record by record, as the code goes through them.
use Rattle.std.specs.Prelude.{ℕ, List, [], ◌∷◌, ◌++◌, ℤ, pos}
use Rattle.std.specs.Int.Signed.{le_z}
use Rattle.scan.specs.Scan.{pick}
use Rattle.tag.specs.declared.Record.{Record}
use Rattle.tag.specs.Decode.{decode_one}
use Rattle.marks.specs.Marks.{Interval, ramp, single, own_marks}

-- the last instant of an i32, after which there is no other
abbrev pub most : ℕ
most = 2147483647

-- a way and a stage: a ramp, or one mark where its end does not come after its start
abbrev pub stretch : ℤ → ℤ → ℤ → Interval
stretch a b one = pick (le_z b a) (single one) (ramp a b)

-- each record's own marks, those inside a T's record following it
unfoldable pub record_marks : ℤ → List Record → List Interval
record_marks dur [] = []
record_marks dur (r ∷ l) = own_marks dur (decode_one r) ++ record_marks dur l
