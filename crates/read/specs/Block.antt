-- A block's tags: Rust's `parse_overrides`, `read_param`, `parse_one`, `parse_t`, `peel_leading_numbers`, by positions of the whole text s.
-- 01, Reading.
use Rattle.std.specs.Prelude.{List, [], ◌∷◌, ℕ, zero, suc, ◌+◌, ◌-◌, ltb, eqb, Float, get_or, Option, Some, None}
use Rattle.scan.specs.Scan.{pick, digit, letter, none_of, other, span_to, past, trim_start, closing_to}
use Rattle.float.specs.Float.{one}
use Rattle.numeral.specs.Numeral.{F32, number, too_long_lem, f32_at}
use Rattle.lists.specs.Lists.{first_of}
use Rattle.tag.specs.Tag.{Tags, and, append, Times, absent, times, T}
use Rattle.plain.specs.Names.{key_at, t_key}
use Rattle.plain.specs.Plain.{One, no, long, kept, far, plain_at, time_of}
use Rattle.read.specs.declared.Head.{Head}

-- what a text gives: the tags kept, the first numeral that is too long, the first \fade whose times lie too far off
pub record Got : Type 0 where
  pub tags : Tags
  pub long : Option ℕ
  pub far : Option ℕ

abbrev pub nothing : Got
nothing = record { tags = Tags.none; long = None; far = None }

abbrev pub join : Got → Got → Got
join a b = record { tags = append a.tags b.tags; long = first_of a.long b.long; far = first_of a.far b.far }

-- what one plain tag gives, its backslash at i
abbrev pub one_got : ℕ → One → Got
one_got i no = nothing
one_got i (long p) = record { tags = Tags.none; long = Some p; far = None }
one_got i (kept x) = record { tags = and x Tags.none; long = None; far = None }
one_got i (far x) = record { tags = and x Tags.none; long = None; far = Some i }

-- `read_param` at i: a parameter in parentheses, up to the one that closes them, else all that is left; or up to the next backslash
unfoldable pub param_at : List ℕ → ℕ → ℕ → ℕ → Head
param_at s name i e =
    let c = closing_to s (i + 1) e 1 in
    let d = span_to (other 92) s i e in
    let b : Head = record { name = name; end = i; p = i; q = d; next = d } in
    pick (ltb i e) (pick (eqb (get_or s i 0) 40) (record { name = name; end = i; p = i + 1; q = c; next = pick (ltb c e) (c + 1) c }) b) b

-- where the name of a tag ends that starts at i: a digit may lead, letters follow
abbrev pub name_end : List ℕ → ℕ → ℕ → ℕ
name_end s i e = span_to letter s (past (digit 10) s i e) e

-- the tag whose backslash is at i: its name, its parameter, and the place behind both
abbrev pub head_at : List ℕ → ℕ → ℕ → Head
head_at s i e = param_at s (i + 1) (name_end s (i + 1) e) e

-- the numbers in front of a \t's tags, the place where these begin, and a numeral that is too long
pub record Peel : Type 0 where
  pub heads : List Float
  pub rest : ℕ
  pub long : Option ℕ

abbrev pub peeled : ℕ → Peel
peeled i = record { heads = []; rest = i; long = None }

abbrev pub with_head : Float → Peel → Peel
with_head x l = record { heads = x ∷ l.heads; rest = l.rest; long = l.long }

-- what the head from i on gives: it ends at k, before q, at the byte b; `more` is what comes behind a comma
abbrev pub peel_head : F32 → ℕ → ℕ → ℕ → ℕ → Peel → Peel
peel_head F32.none i q k b more = peeled i
peel_head (too_long_lem p) i q k b more = record { heads = []; rest = i; long = Some p }
peel_head (number x) i q k b more = with_head x (pick (ltb k q) (pick (eqb b 92) (peeled k) more) (peeled q))

abbrev pub head_end : List ℕ → ℕ → ℕ → ℕ
head_end s i q = span_to (none_of 44 92) s i q

-- `peel_leading_numbers` from i to q, at most n of them
unfoldable pub peel : List ℕ → ℕ → ℕ → ℕ → Peel
peel s q zero i = peeled i
peel s q (suc n) i =
    let k = head_end s i q in
    let more = peel s q n (trim_start s (k + 1) q) in
    peel_head (f32_at s i k) i q k (get_or s k 0) more

abbrev pub peel_to : List ℕ → ℕ → ℕ → Peel
peel_to s p q = let i = trim_start s p q in peel s q (suc (q - i)) i

-- the numbers of a \t: accel alone, both times, or both times and accel
abbrev pub head_times : List Float → Times
head_times [] = absent
head_times (x ∷ []) = absent
head_times (x ∷ (y ∷ l)) = times (time_of x) (time_of y)

abbrev pub head_accel : List Float → Float
head_accel [] = one
head_accel (x ∷ []) = x
head_accel (x ∷ (y ∷ [])) = one
head_accel (x ∷ (y ∷ (z ∷ l))) = z

-- a \t, from its numbers and what is inside it
abbrev pub t_of : Peel → Got → Got
t_of l g = record { tags = and (T (head_times l.heads) (head_accel l.heads) g.tags) Tags.none; long = first_of l.long g.long; far = g.far }

-- the tag whose backslash is at i; `inner` is what a \t's parameter gives
unfoldable pub tag_at : (ℕ → ℕ → Got) → List ℕ → ℕ → Head → Got
tag_at inner s i h =
    let t = inner h.p h.q in
    let x = one_got i (plain_at s h.name h.end h.p h.q) in
    pick (eqb (key_at s h.name h.end) t_key) t x

-- the tags from i to e, over at most n bytes; a backslash with no name behind it is passed over
unfoldable pub walk : (ℕ → ℕ → Got) → List ℕ → ℕ → ℕ → ℕ → Got
walk inner s e zero i = nothing
walk inner s e (suc n) i =
    let h = head_at s i e in
    let skip = walk inner s e n (i + 1) in
    let tag = join (tag_at inner s i h) (walk inner s e n h.next) in
    pick (ltb i e) (pick (eqb (get_or s i 0) 92) (pick (eqb h.end (i + 1)) skip tag) skip) nothing

-- the tags from i to e
abbrev pub tags_in : (ℕ → ℕ → Got) → List ℕ → ℕ → ℕ → Got
tags_in inner s i e = walk inner s e (e - i) i

-- `parse_t`, with d more levels of \t allowed: its numbers, and the tags behind them with one level less
unfoldable pub t_at : ℕ → List ℕ → ℕ → ℕ → Got
t_at zero s p q = nothing
t_at (suc d) s p q = let l = peel_to s p q in t_of l (tags_in (t_at d s) s l.rest q)

-- `parse_overrides_depth` from i to e, with d more levels of \t allowed
unfoldable pub parse : ℕ → List ℕ → ℕ → ℕ → Got
parse d s i e = tags_in (t_at d s) s i e
