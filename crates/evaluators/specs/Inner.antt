-- The tags of a part of a table, and what the loop over its records leaves, in the code's words.
use Rattle.std.specs.Prelude.{◌≡◌, Bool, true, false, List, ℕ, ◌*◌, min, ℤ, Option, None, Some, drop, Ok, Err}
use Rattle.refusal.specs.Refusal.{Checked}
use Rattle.refusal.specs.declared.Refusal.TheVariants.{TableMalformed}
use Rattle.tag.specs.declared.Record.{Record}
use Rattle.tag.specs.Tag.{Tags}
use Rattle.tag.specs.Table.{width}
use Rattle.tag.specs.WellFormed.{record_at, records_to, holds, fault}
use Rattle.tag.specs.Decode.{decode}
use Rattle.table.specs.Inner.{part}
use Rattle.state.specs.declared.RenderState.{RenderState}
use Rattle.state.specs.Apply.{apply_tags}
use Rattle.words.specs.Words.{state_words}

-- the record with the index at
abbrev pub record_from : List ℕ → ℕ → Record
record_from ws at = record_at (drop (width * at) ws)

-- the tags of the n records from at on
unfoldable pub tags_at : List ℕ → ℕ → ℕ → Tags
tags_at ws at n = decode (records_to n (drop (width * at) ws))

-- how many of the records behind a T are inside it, where n are there
abbrev pub inside_of : Record → ℕ → ℕ
inside_of r n = min (holds r) n

-- what `fault` says: none at fault, or the one with the index n
abbrev pub told : Option ℕ → Checked
told None = Ok tt
told (Some n) = Err (TableMalformed n)

-- the lent words afterwards: those of the state, where they are asked for and no record is at fault
abbrev pub words_if : Bool → Checked → RenderState → List ℕ → List ℕ
words_if false c st v = v
words_if true (Err r) st v = v
words_if true (Ok _) st v = state_words st

-- what the loop over count records leaves, d more levels of T being allowed: the state r, what `fault` says, x, and the lent words v before and u after
pub record Applied (t dur : ℤ) (ws : List ℕ) (first count d : ℕ) (st : RenderState) (write : Bool) (v : List ℕ) (r : RenderState) (x : Option ℕ) (u : List ℕ) : Type 0 where
  pub ground : told x ≡ fault d first (part ws first count)
  pub state : told x ≡ Ok tt → r ≡ apply_tags t dur (tags_at ws first count) st
  pub words : u ≡ words_if write (told x) r v
