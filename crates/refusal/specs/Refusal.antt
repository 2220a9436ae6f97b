-- 01, Grounds for turning a call down: the number of each, and the place or count stated beside it, else 0.
use Rattle.std.specs.Prelude.{List, ℕ, ltb, length, Result, Ok, Err}
use Rattle.scan.specs.Scan.{pick, below, span_to}
use Rattle.refusal.specs.declared.Refusal.{Refusal}
use Rattle.refusal.specs.declared.Refusal.TheVariants.{TextTooLong, NotAscii, NumeralTooLong, FadeTooFar, TableMalformed, TimeOutOfRange, ScaleTooLarge, NameBeyondText, NoRoom}

abbrev pub number_of : Refusal → ℕ
number_of TextTooLong = 1
number_of (NotAscii p) = 2
number_of (NumeralTooLong p) = 3
number_of (FadeTooFar p) = 4
number_of (TableMalformed p) = 5
number_of TimeOutOfRange = 6
number_of ScaleTooLarge = 7
number_of NameBeyondText = 8
number_of (NoRoom n) = 9

abbrev pub place_of : Refusal → ℕ
place_of TextTooLong = 0
place_of (NotAscii p) = p
place_of (NumeralTooLong p) = p
place_of (FadeTooFar p) = p
place_of (TableMalformed p) = p
place_of TimeOutOfRange = 0
place_of ScaleTooLarge = 0
place_of NameBeyondText = 0
place_of (NoRoom n) = n

-- what a check finds: nothing against a call, or a ground
abbrev pub Checked : Type 0
Checked = Result (Unit {0}) Refusal

-- the limits
abbrev pub most_bytes : ℕ
most_bytes = 12288

abbrev pub most_places : ℕ
most_places = 1024

-- grounds 1 and 2, on the text given
unfoldable pub text_ground : List ℕ → Checked
text_ground s =
    let a = span_to (below 128) s 0 (length s) in
    pick (ltb most_bytes (length s)) (Err TextTooLong) (pick (ltb a (length s)) (Err (NotAscii a)) (Ok tt))
