-- What the inner functions say, in the code's words: nothing here is a promise to a caller.
use Rattle.std.specs.Prelude.{◌≡◌, List, [], ◌∷◌, ℕ, ◌+◌, ◌≤◌, ◌<◌, eqb, Float, get_or, set, Option, Some, None}
use Rattle.scan.specs.Scan.{pick}
use Rattle.lists.specs.Lists.{first_of}
use Rattle.tag.specs.Table.{rec, bits, encode, laid}
use Rattle.tag.specs.declared.Record.{Record}
use Rattle.plain.specs.Inner.{cut_word}
use Rattle.plain.specs.declared.Kept.{Kept}
use Rattle.plain.specs.declared.Kept.TheVariants.{No, Long, Tag, Far}
use Rattle.read.specs.declared.Head.{Head}
use Rattle.read.specs.declared.Heads.{Heads}
use Rattle.read.specs.declared.Peeled.{Peeled}
use Rattle.read.specs.declared.Found.{Found}
use Rattle.read.specs.declared.Out.{Out}
use Rattle.read.specs.Block.{Got, Peel}
use Rattle.read.specs.Reading.{kept_tags, brace_end}

-- ---- a tag

-- a tag's places: what a definition names, in order, up to e
pub record HeadIn (name i e : ℕ) (d r : Head) : Type 0 where
  pub is : r ≡ d
  pub name_is : r.name ≡ name
  pub end_is : r.end ≡ i
  pub low : i ≤ r.p
  pub order : r.p ≤ r.q
  pub next_low : r.q ≤ r.next
  pub high : r.next ≤ e

-- ---- the numbers of a \t as words, and its record

-- one number more: the first three are kept
abbrev pub headed : Heads → ℕ → Heads
headed h w = record { count = h.count + 1; words = set h.words h.count w }

-- all the numbers of a list
unfoldable pub heads_from : Heads → List Float → Heads
heads_from h [] = h
heads_from h (x ∷ l) = heads_from (headed h (bits x)) l

abbrev pub no_heads : Heads
no_heads = record { count = 0; words = 0 ∷ 0 ∷ 0 ∷ [] }

abbrev pub one_bits : ℕ
one_bits = 0x3F800000

abbrev pub nth_word : Heads → ℕ → ℕ
nth_word h n = get_or h.words n 0

-- the record of a \t with n records inside
unfoldable pub t_words : Heads → ℕ → Record
t_words h n =
    pick (eqb h.count 0) (rec 49 0 0 0 one_bits n 0 0)
    (pick (eqb h.count 1) (rec 49 0 0 0 (nth_word h 0) n 0 0)
    (pick (eqb h.count 2) (rec 49 1 (cut_word (nth_word h 0)) (cut_word (nth_word h 1)) one_bits n 0 0)
    (rec 49 1 (cut_word (nth_word h 0)) (cut_word (nth_word h 1)) (nth_word h 2) n 0 0)))

-- what peeling says of its result r
pub record Peels (p q : ℕ) (l : Peel) (r : Peeled) : Type 0 where
  pub heads : r.heads ≡ heads_from no_heads l.heads
  pub rest : r.rest ≡ l.rest
  pub long : r.long ≡ l.long
  pub low : p ≤ r.rest
  pub high : r.rest ≤ q

-- ---- places as words

-- the word that stands for no place
abbrev pub no_place : ℕ
no_place = 4294967295

-- the place that a word stands for
abbrev pub found_of : Found → Option ℕ
found_of f = pick (eqb f.0 no_place) None (Some f.0)

-- a place that a word can stand for
abbrev pub InWord : Option ℕ → Type 0
InWord None = Unit
InWord (Some p) = p < no_place

-- ---- what readers give

-- how many records there are, where the first numeral is that is too long, and where the first \fade whose times lie too far off
pub record Seen : Type 0 where
  pub n : ℕ
  pub long : Option ℕ
  pub far : Option ℕ

-- what the code's result stands for
abbrev pub seen_of : Out → Seen
seen_of o = record { n = o.n; long = found_of o.long; far = found_of o.far }

-- a plain tag
abbrev pub kept_records : Kept → List Record
kept_records No = []
kept_records (Long p) = []
kept_records (Tag r) = r ∷ []
kept_records (Far r) = r ∷ []

abbrev pub kept_got : ℕ → Kept → Seen
kept_got i No = record { n = 0; long = None; far = None }
kept_got i (Long p) = record { n = 0; long = Some p; far = None }
kept_got i (Tag r) = record { n = 1; long = None; far = None }
kept_got i (Far r) = record { n = 1; long = None; far = Some i }

-- what is said of a plain tag's result r and of the table, t before and u after
pub record Keeps (i : ℕ) (k : Kept) (t : List ℕ) (r : Out) (u : List ℕ) : Type 0 where
  pub out : seen_of r ≡ kept_got i k
  pub table : u ≡ laid t (kept_records k)
  pub few : r.n ≤ 1

-- one reader behind another
abbrev pub joined_out : Seen → Seen → Seen
joined_out a b = record { n = a.n + b.n; long = first_of a.long b.long; far = first_of a.far b.far }

-- a \t around what is inside it
abbrev pub around_out : Option ℕ → Seen → Seen
around_out l o = record { n = o.n + 1; long = first_of l o.long; far = o.far }

-- what a result has to stand for: all that a text gives, its tags counted
abbrev pub seen_in : Got → Seen
seen_in g = record { n = kept_tags g; long = g.long; far = g.far }

-- what a reader of the cycle says of its result r and of the table, t before and u after
pub record Told (t : List ℕ) (g : Got) (most : ℕ) (r : Out) (u : List ℕ) : Type 0 where
  pub out : seen_of r ≡ seen_in g
  pub table : u ≡ laid t (encode g.tags)
  pub few : r.n ≤ most

-- ---- braces

pub record BraceEnd (s : List ℕ) (p b r : ℕ) : Type 0 where
  pub is : r ≡ brace_end s p b
  pub low : p ≤ r
  pub high : r ≤ b
