-- Worked examples, by computation: 01's sheet, and the marks of \fad where it goes out for longer than the line lasts.
use Rattle.std.specs.Prelude.{◌≡◌, refl, List, [], ◌∷◌, map, ℤ, pos, negsuc, Option, Some, None}
use Rattle.std.specs.Float.Ieee.{of_bits}
use Rattle.std.specs.Float.{binary32}
use Rattle.float.specs.Float.{one}
use Rattle.tag.specs.Tag.{times, absent, Tags, none, and, Fad, Fade, Fs, T}
use Rattle.marks.specs.Marks.{next_mark}

-- the next marks after some instants, in a line of that duration
abbrev after : ℤ → Tags → List ℤ → List (Option ℤ)
after dur l ts = map (λ t. next_mark t dur l) ts

-- `\fs20\t(500,500,\fs40)`: one mark, 500
jump : after (pos 2000) (and (Fs (of_bits binary32 0x41A00000)) (and (T (times (pos 500) (pos 500)) one (and (Fs (of_bits binary32 0x42200000)) none)) none)) (negsuc 0 ∷ pos 0 ∷ pos 499 ∷ pos 500 ∷ pos 501 ∷ [])
    ≡ Some (pos 500) ∷ Some (pos 500) ∷ Some (pos 500) ∷ None ∷ None ∷ []
unfolding next_mark
jump = refl

-- `\fad(200,300)`, duration 1000: after 200 is 701, after 1000 none
fad : after (pos 1000) (and (Fad 200 300) none) (negsuc 4 ∷ pos 0 ∷ pos 199 ∷ pos 200 ∷ pos 701 ∷ pos 999 ∷ pos 1000 ∷ [])
    ≡ Some (pos 1) ∷ Some (pos 1) ∷ Some (pos 200) ∷ Some (pos 701) ∷ Some (pos 702) ∷ Some (pos 1000) ∷ None ∷ []
unfolding next_mark
fad = refl

-- `\fad(0,300)`, duration 100: 0 and 1, and 1 to 100
short : after (pos 100) (and (Fad 0 300) none) (negsuc 0 ∷ pos 0 ∷ pos 1 ∷ pos 99 ∷ pos 100 ∷ [])
    ≡ Some (pos 0) ∷ Some (pos 1) ∷ Some (pos 2) ∷ Some (pos 100) ∷ None ∷ []
unfolding next_mark
short = refl

-- the same where the line lasts no time, or less than none: 0 and 1
no-time : after (negsuc 9) (and (Fad 0 300) none) (negsuc 9 ∷ negsuc 0 ∷ pos 0 ∷ pos 1 ∷ [])
    ≡ Some (pos 0) ∷ Some (pos 0) ∷ Some (pos 1) ∷ None ∷ []
unfolding next_mark
no-time = refl

-- \t inside \t, the inner over the whole line of 40: the earlier of the two each time; \fade with a stage that goes back, one mark at its start
nested : after (pos 40) (and (T (times (pos 10) (pos 12)) one (and (T absent one none) none)) none) (negsuc 0 ∷ pos 11 ∷ pos 39 ∷ pos 40 ∷ [])
    ≡ Some (pos 1) ∷ Some (pos 12) ∷ Some (pos 40) ∷ None ∷ []
unfolding next_mark
nested = refl

back : after (pos 40) (and (Fade 0 0 0 (pos 30) (pos 20) (negsuc 4) (negsuc 2)) none) (negsuc 9 ∷ negsuc 3 ∷ negsuc 2 ∷ pos 30 ∷ [])
    ≡ Some (negsuc 3) ∷ Some (negsuc 2) ∷ Some (pos 30) ∷ None ∷ []
unfolding next_mark
back = refl
