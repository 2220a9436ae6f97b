use Rattle.pen.proofs.Counting.{left}
use Rattle.pen.specs.Drawing.{draw as draw_of}
use Rattle.path.specs.Inner.{Emits}
use Rattle.tokens.specs.Tokens.{from, tokens_ground}
use lib.ListN.{length}
use mathlib.Core.List.{List}
use Prim.Native.Nat.{ℕ, ◌≤◌, ◌-◌, ◌*◌}
use mathlib.Core.Path.{◌≡◌}
use Rattle.machine.proofs.draw.Given as goal

abbrev pub invariant-loop-t : goal.invariant-loop-t
invariant-loop-t l = record {
  same : l.stroke.words.ghost_name ≡ l.initial.stroke.words.ghost_name;
  place : l.at ≤ length l.text;
  few : l.stroke.count ≤ 2 * l.at;
  kept : length l.stroke.words.now ≡ length l.fn.path;
  left : (v : List ℕ) (m : ℕ) → Emits l.stroke.words.now l.stroke.count (left l.scale l.stroke.pen (from l.text l.at)) m v → Emits l.fn.path 0 (draw_of l.scale (from l.text 0)) m v;
  ground : tokens_ground (from l.text 0) ≡ tokens_ground (from l.text l.at);
}

abbrev pub decreases-loop-t : goal.decreases-loop-t
decreases-loop-t l = length l.text - l.at
