-- Worked examples, by computation: which of the two texts, and which part of it.
use Rattle.std.specs.Prelude.{◌≡◌, refl, false, true, List, [], ◌∷◌, map, ℕ, pos, Result, Ok, Err}
use Prim.Native.String.{String}
use Rattle.float.specs.Float.{one}
use Rattle.scan.specs.Scan.{bytes, span}
use Rattle.refusal.specs.Refusal.{text_ground}
use Rattle.refusal.specs.declared.Refusal.{Refusal}
use Rattle.refusal.specs.declared.Refusal.TheVariants.{TextTooLong, NotAscii, NameBeyondText}
use Rattle.tag.specs.Tag.{Tags, none, and, R, T, plain, named, times}
use Rattle.state.specs.Apply.{apply_own, apply_tags, evaluate_at}
use Rattle.style.specs.declared.Place.{Place}
use Rattle.style.specs.Style.{lower_ground, place, shown, style_in}

-- tags, the block that they stand in, the line's own style name, and the style in force at 500 in a line of 1,000
abbrev Row : Type 0
Row = Tags × (String × (String × Result Place Refusal))

abbrev answer : Row → Result Place Refusal
answer r = style_in (evaluate_at (pos 500) (pos 1000) r.0) (bytes r.1.0) (bytes r.1.1.0)

abbrev pub InForce : List Row → Type 0
InForce rows = map answer rows ≡ map (λ (r : Row). r.1.1.1) rows

-- \r with the name at an offset, of a length
abbrev to : ℕ → ℕ → Tags → Tags
to a n l = and (R (named (record { offset = a; size = n }))) l

pub styles : InForce (
    (none, ("\\i1", ("Default", Ok (place false 0 7)))) ∷
    (and (R plain) none, ("\\r", ("Default", Ok (place false 0 7)))) ∷
    (to 2 3 none, ("\\rAlt", ("Default", Ok (place true 2 5)))) ∷
    (to 2 3 (and (R plain) none), ("\\rAlt\\r", ("Default", Ok (place false 0 7)))) ∷
    (and (R plain) (to 4 3 none), ("\\r\\rAlt", ("Default", Ok (place true 4 7)))) ∷
    (and (T (times (pos 0) (pos 400)) one (to 5 3 none)) none, ("\\t(\\rAlt)", ("", Ok (place true 5 8)))) ∷
    -- a block shorter than the one that was read, and a name that no u32 could end
    (to 2 3 none, ("\\rAl", ("Default", Err NameBeyondText))) ∷
    (to 4294967295 4294967295 none, ("\\rAlt", ("Default", Err NameBeyondText))) ∷
    -- of equal numbers the block's; a place in the name counts in the name; both before ground 8
    (to 2 3 none, ("\\rA\u{80}", ("\u{80}", Err (NotAscii 3)))) ∷
    (to 2 9 none, ("\\rAlt", ("ab\u{80}", Err (NotAscii 2)))) ∷
    [])
unfolding evaluate_at apply_tags apply_own span text_ground
styles = refl

-- beside a refusal an empty part of the name
pub refused_parts : map shown (map answer (
    (to 2 3 none, ("\\rAl", ("Default", Err NameBeyondText))) ∷
    (to 4294967295 4294967295 none, ("\\rAlt", ("Default", Err NameBeyondText))) ∷
    (to 2 3 none, ("\\rA\u{80}", ("\u{80}", Err (NotAscii 3)))) ∷
    (to 2 9 none, ("\\rAlt", ("ab\u{80}", Err (NotAscii 2)))) ∷
    [])) ≡ place false 0 0 ∷ place false 0 0 ∷ place false 0 0 ∷ place false 0 0 ∷ []
unfolding evaluate_at apply_tags apply_own span text_ground
refused_parts = refl

-- 1 for the name before 2 for the block, 1 for the block before 2 for the name
pub lengths_first : (lower_ground (Err (NotAscii 3)) (Err TextTooLong) ≡ Err TextTooLong) × (lower_ground (Err TextTooLong) (Err (NotAscii 0)) ≡ Err TextTooLong)
lengths_first = (refl, refl)
