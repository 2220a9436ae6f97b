use Prim.Native.Nat.{◌+◌, ◌-◌, ◌*◌, ◌≤◌}
use Rattle.read.specs.Block.{parse}
use Rattle.read.specs.Inner.{seen_of}
use Rattle.read.proofs.Turn.{Turning}
use Rattle.read.proofs.+blocks.Given as goal

-- parse_overrides_depth
abbrev pub invariant-parse_overrides_depth-loop-i : goal.invariant-parse_overrides_depth-loop-i
invariant-parse_overrides_depth-loop-i l = (l.from ≤ l.i) × (l.i ≤ l.to) × (l.out.n ≤ l.i - l.from) × Turning l.initial.table (parse l.depth l.text l.from l.to) (parse l.depth l.text l.i l.to) l.table (seen_of l.out)

abbrev pub decreases-parse_overrides_depth-loop-i : goal.decreases-parse_overrides_depth-loop-i
decreases-parse_overrides_depth-loop-i l = l.to - l.i

-- with each \t a level less is allowed; on one level a block asks for its tags, a tag for a \t
abbrev pub decreases-parse_one : goal.decreases-parse_one
decreases-parse_one l = 3 * l.depth + 1

abbrev pub decreases-parse_overrides_depth : goal.decreases-parse_overrides_depth
decreases-parse_overrides_depth l = 3 * l.depth + 2

abbrev pub decreases-parse_t : goal.decreases-parse_t
decreases-parse_t l = 3 * l.depth
