-- 01, Braces: "its offsets still count from the text given". What a block gives that stands k bytes further on in a longer text.
use Rattle.std.specs.Prelude.{◌≡◌, List, ℕ, ◌+◌, ◌-◌, eqb, take, drop, Option, Some, None}
use Rattle.scan.specs.Scan.{pick}
use Rattle.read.specs.declared.Span.{Span}
use Rattle.tag.specs.Tag.{Part, AnimatedTag, Tags, none, and, fold_tag, map_own, map_parts}
use Rattle.refusal.specs.Refusal.{text_ground}
use Rattle.refusal.specs.Answer.{Answer, unless_bad}
use Rattle.read.specs.Block.{Got}
use Rattle.read.specs.Reading.{whole_text, block_of, kept_tags, read_ground}

-- an empty part has offset 0 wherever it stands
abbrev pub moved_part : ℕ → Part → Part
moved_part k x = pick (eqb x.size 0) x (record { offset = k + x.offset; size = x.size })

-- a tag's own parts, and a \t moves all inside it
unfoldable pub moved_tag : ℕ → AnimatedTag → AnimatedTag
moved_tag k x = fold_tag (map_own (moved_part k)) none and x

unfoldable pub moved_tags : ℕ → Tags → Tags
moved_tags k l = map_parts (moved_part k) l

abbrev pub moved_found : ℕ → Option ℕ → Option ℕ
moved_found k None = None
moved_found k (Some p) = Some (k + p)

-- all that a block gives
abbrev pub moved : ℕ → Got → Got
moved k g = record { tags = moved_tags k g.tags; long = moved_found k g.long; far = moved_found k g.far }

-- the part x of a text, as a text of its own
abbrev pub inner_text : List ℕ → Span → List ℕ
inner_text s x = take (x.to - x.from) (drop x.from s)

-- What a call that reads the part x of the text s into a table says: block and answer r are those of that part alone, places moved on, counts not;
-- grounds 1 and 2 look at the text given.
pub record AsAlone (s : List ℕ) (x : Span) (places : ℕ) (r : Answer) : Type 0 where
  pub block : let i = inner_text s x in block_of s x ≡ moved x.from (block_of i (whole_text i))
  pub answer :
      let i = inner_text s x in
      let g = block_of i (whole_text i) in
      r ≡ unless_bad (text_ground s) (read_ground (moved_found x.from g.long) (moved_found x.from g.far) (kept_tags g) places)
