-- What holds of every answer: its place or count lies within the text, and it counts at most 1,024.
use mathlib.Core.Path.{◌≡◌, refl}
use mathlib.Core.List.{List}
use mathlib.Core.Bool.{Bool, true, false}
use mathlib.Core.Logic.{⊎_elim}
use Prim.Native.Nat.{ℕ, ◌≤◌, ◌<◌, min}
use native.Mathlib.Omega.{arith}
use lib.Dec.{lit≤, leb}
use native.Mathlib.Nat.{le_trans}
use lib.ListN.{length}
use borrow.Author.Tests.{lt-ltb, leb-true}
use Rattle.scan.specs.Scan.{pick, below, span_to}
use Rattle.scan.proofs.Laws.{picked, le_or_lt}
use Rattle.scan.proofs.Bounds.{tested}
use Rattle.refusal.specs.declared.Refusal.TheVariants.{NoRoom}
use Rattle.std.specs.Prelude.{Ok, Err}
use Rattle.refusal.specs.Refusal.{Checked, place_of, most_bytes, most_places, text_ground}
use Rattle.refusal.specs.Answer.{Answer, ground_of, answer_value, room_for, unless_bad}

-- a text with no ground 1 is short
pub good-short : (s : List ℕ) → text_ground s ≡ Ok tt → length s ≤ most_bytes
unfolding text_ground
good-short s e =
    ⊎_elim
    (λ (h : length s ≤ most_bytes). h)
    (λ (h : most_bytes < length s). absurd (let z : ◌≡◌ {A = ℕ} 0 1 = cc (rw (lt-ltb most_bytes (length s) h) at e) in omega arith))
    (le_or_lt (length s) most_bytes)

-- ---- 01, Grounds: "Each gives its number and the stated place or count (else 0)": that is no more than the text has bytes, and no more than 12,288

abbrev pub place_in : Checked → ℕ
place_in (Ok _) = 0
place_in (Err r) = place_of r

abbrev pub Within : List ℕ → Answer → Type 0
Within s a = (place_in (ground_of a) ≤ length s) × (place_in (ground_of a) ≤ most_bytes)

-- ground 9, where no more are needed than the text has bytes
pub room_within : (s : List ℕ) (n places : ℕ) → length s ≤ most_bytes → n ≤ length s → Within s (room_for n places)
room_within s n places l h = picked (Within s) (leb n (min places most_places)) _ _ (omega arith, omega arith) (omega arith, omega arith)

-- grounds 1 and 2, and what is answered where the text is not too long
pub text-within : (s : List ℕ) (a : Answer) → (length s ≤ most_bytes → Within s a) → Within s (unless_bad (text_ground s) a)
unfolding text_ground
text-within s a h =
    let k = span_to (below 128) s 0 (length s) in
    tested Lies most_bytes (length s)
    (λ (l : most_bytes < length s). (omega arith, omega arith))
    (λ (l : length s ≤ most_bytes). tested Lies k (length s) (λ (m : k < length s). (omega arith, omega arith)) (λ (m : length s ≤ k). h l))
  where
    Lies : Checked → Type 0
    Lies c = Within s (unless_bad c a)

-- ---- an answer counts at most 1,024

abbrev pub Few : Answer → Type 0
Few (Ok n) = n ≤ most_places
Few (Err r) = Unit

pub room-few : (n places : ℕ) → Few (room_for n places)
room-few n places = go (leb n (min places most_places)) refl
  where
    go : (b : Bool) → leb n (min places most_places) ≡ b → Few (pick b (Ok n) (Err (NoRoom n)))
    go true e = omega (arith, leb-true n (min places most_places) e)
    go false e = tt

pub unless-few : (c : Checked) (a : Answer) → Few a → Few (unless_bad c a)
unless-few (Ok _) a h = h
unless-few (Err r) a h = tt

-- so its value is at most 12,288
pub value-small : (s : List ℕ) (a : Answer) → Few a → Within s a → answer_value a ≤ most_bytes
value-small s (Ok n) f h = le_trans f (lit≤ tt)
value-small s (Err r) f h = h.1
