-- `hannuvel_style_in_force`: the style in force in the state that the call evaluates.
use Rattle.std.specs.Prelude.{◌≡◌, List, ℕ, ◌+◌, ◌-◌, ◌*◌, ◌/◌, ◌%◌, ◌^◌, ℤ, Result, Ok, Err}
use Rattle.std.specs.Result.{result_and}
use Rattle.scan.specs.Scan.{pick}
use Rattle.refusal.specs.declared.Refusal.{Refusal}
use Rattle.refusal.specs.Refusal.{Checked}
use Rattle.tag.specs.Tag.{most_depth}
use Rattle.tag.specs.Depth.{AtLessDepth}
use Rattle.state.specs.State.{reset_to}
use Rattle.evaluate.specs.Evaluate.{Evaluated, evaluated_to}
use Rattle.style.specs.Style.{texts_ground, named, shown}
use Rattle.style.specs.declared.Place.{Place}
use Rattle.hannuvel.specs.Packed.{word_value, Says}

abbrev pub style_of : Evaluated → List ℕ → List ℕ → Result Place Refusal
style_of (Ok st) block own = named (reset_to st) block own
style_of (Err r) block own = Err r

-- grounds by number: 1 and 2 of the block and of the name, 5 and 6 of evaluation, then 8; as a controller that allows T nested at most d deep has it
abbrev pub style_at_to : ℕ → List ℕ → ℤ → ℤ → List ℕ → List ℕ → Result Place Refusal
style_at_to d ws t dur block own = result_and (texts_ground block own) (style_of (evaluated_to d ws t dur) block own)

-- at the depth that is allowed here
abbrev pub style_at : List ℕ → ℤ → ℤ → List ℕ → List ℕ → Result Place Refusal
style_at ws t dur block own = style_at_to most_depth ws t dur block own

-- the answer's ground
abbrev pub ground_of : Result Place Refusal → Checked
ground_of (Ok p) = Ok tt
ground_of (Err r) = Err r

-- What the call says: the number r. Its extra is 1 for a part of the block and 0 for one of the own name, and its value has the offset at
-- which the part begins in the upper half, its length in the lower. And 02, N7, of controllers that allow T nested less deep.
pub record StyleCall (ws : List ℕ) (t dur : ℤ) (block own : List ℕ) (r : ℕ) : Type 0 where
  pub answered : let a = style_at ws t dur block own in let p = shown a in Says r (ground_of a) (pick p.of_block 1 0) (p.from * 2 ^ 16 + (p.to - p.from))
  pub part : let a = style_at ws t dur block own in let p = shown a in ground_of a ≡ Ok tt → (word_value r / 2 ^ 16 ≡ p.from) × (word_value r % 2 ^ 16 ≡ p.to - p.from)
  pub stored : AtLessDepth ws (λ k. style_at_to k ws t dur block own) (λ g. result_and (texts_ground block own) (Err g))
