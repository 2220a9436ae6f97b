-- Every place and count that the answer to a drawing names lies within the text.
use mathlib.Core.Path.{◌≡◌, refl}
use mathlib.Core.List.{List}
use Prim.Native.Nat.{ℕ, ◌≤◌}
use native.Mathlib.Omega.{arith}
use lib.Dec.{ltb}
use lib.ListN.{length}
use Rattle.scan.proofs.Laws.{picked}
use Rattle.std.specs.Prelude.{Ok, Err}
use Rattle.refusal.specs.Refusal.{Checked, most_bytes, text_ground}
use Rattle.refusal.specs.Answer.{Answer, first_ground, room_for, unless_bad}
use Rattle.refusal.proofs.Laws.{Within, room_within, text-within, Few, room-few, unless-few}
use Rattle.tokens.specs.Tokens.{from, tokens_ground}
use Rattle.tokens.proofs.Places.{few-tokens, place_inside}
use Rattle.pen.specs.Drawing.{scale_of}
use Rattle.drawing.specs.Answer.{most_exponent, exponent_ground, ground, drawing, answer}
use Rattle.pen.proofs.Counting.{few_commands}

-- one check behind another
unless-both : (c d : Checked) (a : Answer) → unless_bad (first_ground c d) a ≡ unless_bad c (unless_bad d a)
unless-both (Ok _) d a = refl
unless-both (Err r) d a = refl

module _ (s : List ℕ) (exponent places : ℕ) where
  abbrev room : Answer
  room = room_for (length (drawing s exponent)) places

  -- grounds 3, 7 and 9, of a text that is not too long
  after_text : length s ≤ most_bytes → Within s (unless_bad (first_ground (tokens_ground (from s 0)) (exponent_ground exponent)) room)
  after_text l = go (tokens_ground (from s 0)) refl
    where
      go : (c : Checked) → tokens_ground (from s 0) ≡ c → Within s (unless_bad (first_ground c (exponent_ground exponent)) room)
      go (Err r) e =
          let h = place_inside s 0 r e in
          (omega arith, omega arith)
      go (Ok _) e =
          let h = few_commands (scale_of exponent) (from s 0) in
          let k = few-tokens s 0 in
          picked (λ (c : Checked). Within s (unless_bad c room)) (ltb most_exponent exponent) _ _
          (omega arith, omega arith)
          (room_within s (length (drawing s exponent)) places l (omega arith))

  -- the place or count of an answer
  pub ground-within : Within s (answer s exponent places)
  unfolding answer ground
  ground-within = rw (unless-both (text_ground s) (first_ground (tokens_ground (from s 0)) (exponent_ground exponent)) room) (text-within s _ after_text)

  -- an answer counts at most 1,024 commands
  pub few-drawn : Few (answer s exponent places)
  unfolding answer
  few-drawn = unless-few (ground s exponent) room (room-few (length (drawing s exponent)) places)
