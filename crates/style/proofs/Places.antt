-- The style in force lies within its text, and that in a text of at most 12,288 bytes.
use mathlib.Core.Path.{◌≡◌, refl}
use mathlib.Core.Bool.{Bool, true, false}
use mathlib.Core.List.{List}
use Prim.Native.Nat.{ℕ, ◌+◌, ◌≤◌}
use native.Mathlib.Omega.{arith}
use native.Mathlib.Nat.{le_trans}
use lib.Dec.{leb, lit≤}
use lib.ListN.{length}
use borrow.Author.Tests.{leb-true}
use Rattle.std.specs.Prelude.{Option, Some, None, Result, Ok, Err}
use Rattle.std.specs.Result.{result_and}
use Rattle.scan.specs.Scan.{pick}
use Rattle.scan.proofs.Laws.{picked}
use Rattle.refusal.specs.Refusal.{Checked, number_of, place_of, most_bytes, text_ground}
use Rattle.refusal.specs.declared.Refusal.{Refusal}
use Rattle.refusal.specs.declared.Refusal.TheVariants.{NameBeyondText}
use Rattle.refusal.proofs.Laws.{good-short, text-within}
use Rattle.state.specs.declared.Part.{Part}
use Rattle.state.specs.declared.RenderState.{RenderState}
use Rattle.state.specs.State.{reset_to}
use Rattle.style.specs.declared.Place.{Place}
use Rattle.style.specs.Style.{place, shown, own_name, given_name, named, lower_ground, texts_ground, style_in, InItsText}

module _ (block own : List ℕ) where
  -- an answer's place lies within its text, and so does the part beside a refusal
  abbrev pub Lies : Result Place Refusal → Type 0
  Lies r = InItsText block own (shown r)

  none_within : (r : Refusal) → Lies (Err r)
  none_within r = record { order = omega arith; high = omega arith }

  own_within : Lies (Ok (own_name own))
  own_within = record { order = omega arith; high = omega arith }

  given-within : (p : Part) → Lies (given_name p (length block))
  given-within p = go (leb (p.offset + p.size) (length block)) refl
    where
      go : (t : Bool) → leb (p.offset + p.size) (length block) ≡ t → Lies (pick t (Ok (place true p.offset (p.offset + p.size))) (Err NameBeyondText))
      go true e = record { order = omega arith; high = leb-true _ _ e }
      go false e = none_within NameBeyondText

  pub named-within : (o : Option (Option Part)) → Lies (named o block own)
  named-within (Some (Some p)) = given-within p
  named-within (Some None) = own_within
  named-within None = own_within

  unless-within : (c : Checked) (r : Result Place Refusal) → Lies r → Lies (result_and c r)
  unless-within (Ok _) r w = w
  unless-within (Err g) r w = none_within g

  pub style_within : (st : RenderState) → Lies (style_in st block own)
  style_within st = unless-within (texts_ground block own) _ (named-within (reset_to st))

-- a ground's place lies in a text of at most 12,288 bytes
text-low : (s : List ℕ) (r : Refusal) → text_ground s ≡ Err r → place_of r ≤ most_bytes
text-low s r e = (rw e at (text-within s (Ok 0) (λ l. (omega arith, omega arith)))).1

module _ (block own : List ℕ) where
  -- and a text with none has no more
  abbrev pub Short : Checked → Type 0
  Short (Ok _) = (length block ≤ most_bytes) × (length own ≤ most_bytes)
  Short (Err r) = place_of r ≤ most_bytes

  pub texts_short : Short (texts_ground block own)
  texts_short = go (text_ground block) (text_ground own) refl refl
    where
      go : (c d : Checked) → text_ground block ≡ c → text_ground own ≡ d → Short (lower_ground c d)
      go (Ok _) (Ok _) e f = (good-short block e, good-short own f)
      go (Ok _) (Err q) e f = text-low own q f
      go (Err r) (Ok _) e f = text-low block r e
      go (Err r) (Err q) e f = picked Short (leb (number_of r) (number_of q)) _ _ (text-low block r e) (text-low own q f)

-- of such texts a part ends so low; ground 8 has the place 0
abbrev pub Fits : Result Place Refusal → Type 0
Fits (Ok p) = (p.from ≤ p.to) × (p.to ≤ most_bytes)
Fits (Err r) = place_of r ≤ most_bytes

pub named-fits : (o : Option (Option Part)) (block own : List ℕ) → Short block own (Ok tt) → Fits (named o block own)
named-fits (Some (Some p)) block own s = go (leb (p.offset + p.size) (length block)) refl
  where
    go : (t : Bool) → leb (p.offset + p.size) (length block) ≡ t → Fits (pick t (Ok (place true p.offset (p.offset + p.size))) (Err NameBeyondText))
    go true e = (omega arith, le_trans (leb-true _ _ e) s.0)
    go false e = lit≤ tt
named-fits (Some None) block own s = (omega arith, s.1)
named-fits None block own s = (omega arith, s.1)
