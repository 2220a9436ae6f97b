-- Tags whose records can be read back: their records are a well-formed table, which decodes to them.
use mathlib.Core.Path.{◌≡◌, refl, sym, ap, ◌∙◌}
use mathlib.Core.List.{List, [], ◌∷◌, ◌++◌, map}
use mathlib.Core.Bool.{false}
use Prim.Native.Nat.{ℕ, zero, suc, ◌+◌, ◌*◌, ◌%◌, ◌≤◌}
use native.Mathlib.Omega.{arith}
use native.Mathlib.Nat.{le_refl}
use lib.Ieee.{Float}
use lib.ListN.{length, get_or, take, drop, replicate, length-append, get_or-map}
use lib.Seq.{take_at, drop_at}
use borrow.Author.Tests.{eq-eqb, ne_eqb}
use Rattle.refusal.specs.Refusal.{most_places}
use Rattle.tag.specs.declared.Record.{Record}
use Rattle.tag.specs.Tag.{most_depth, Times, AnimatedTag, T, Tags, none, and, append, inside, count}
use Rattle.tag.specs.Table.{width, bits, times_flag, times_start, times_end, t_record, head, encode, table_words, places_of}
use Rattle.tag.specs.WellFormed.{records_to, records_of, broken, All, all, more, InRange, t_kind, holds, Nested, end, plain, around, WellFormed}
use Rattle.tag.specs.Decode.{f, times_of, decoders, nothing, decode_one, decode_t, decode_in, tags_of}
use Rattle.tag.proofs.Tags.{encode-and, records_own, encode-none, count-length}
use Rattle.tag.proofs.Table.{length-words}
use Rattle.tag.proofs.Formed.{all_append}

-- a tag that is no \t: its record is in range and read back as it
pub record Back (x : AnimatedTag) : Type 0 where
  pub single : inside x ≡ none
  pub kind : (head x).kind ≡ t_kind → ⊥
  pub range : InRange (head x)
  pub back : decode_one (head x) ≡ x

-- the numbers of a \t with n records inside
pub record BackT (t : Times) (x : Float) (n : ℕ) : Type 0 where
  pub range : InRange (t_record t x n)
  pub times : times_of (times_flag t) (times_start t) (times_end t) ≡ t
  pub accel : f (bits x) ≡ x

-- tags of these, \t nested at most d deep
pub data Sound : ℕ → Tags → Type 0 where
  empty : {d : ℕ} → Sound d none
  single : {d : ℕ} {x : AnimatedTag} {l : Tags} → Back x → Sound d l → Sound d (and x l)
  nest : {d : ℕ} {t : Times} {x : Float} {l rest : Tags} → BackT t x (count l) → Sound d l → Sound (suc d) rest → Sound (suc d) (and (T t x l) rest)

pub sound_append : {d : ℕ} {a b : Tags} → Sound d a → Sound d b → Sound d (append a b)
unfolding append
sound_append empty k = k
sound_append (single h n) k = single h (sound_append n k)
sound_append (nest h n m) k = nest h n (sound_append m k)

-- ---- their records

single-records : (x : AnimatedTag) → inside x ≡ none → (l : Tags) → encode (and x l) ≡ head x ∷ encode l
single-records x h l = encode-and x l ∙ rw (records_own x, h, encode-none)

nest-records : (t : Times) (x : Float) (l rest : Tags) → encode (and (T t x l) rest) ≡ t_record t x (count l) ∷ (encode l ++ encode rest)
nest-records t x l rest = encode-and (T t x l) rest ∙ rw (records_own (T t x l))

pub sound_ranges : {d : ℕ} {l : Tags} → Sound d l → All InRange (encode l)
sound_ranges empty = rw encode-none all
sound_ranges (single {x = x} {l = l} h n) = rw (single-records x h.single l) (more h.range (sound_ranges n))
sound_ranges (nest {t = t} {x = x} {l = l} {rest = rest} h n m) = rw (nest-records t x l rest) (more h.range (all_append (sound_ranges n) (sound_ranges m)))

-- a T around its own records
nested-t : (d : ℕ) (r : Record) (a b : List Record) → r.kind ≡ t_kind → length a ≡ holds r → Nested d a → Nested (suc d) b → Nested (suc d) (r ∷ (a ++ b))
nested-t d r a b k c m n =
    let q : holds r ≤ length (a ++ b) = omega (arith, length-append a b) in
    let u : Nested d (take (holds r) (a ++ b)) = rw (take_at a b (holds r) c) m in
    let v : Nested (suc d) (drop (holds r) (a ++ b)) = rw (drop_at a b (holds r) c) n in
    around k q u v

pub sound_nested : {d : ℕ} {l : Tags} → Sound d l → Nested d (encode l)
sound_nested empty = rw encode-none end
sound_nested (single {x = x} {l = l} h n) = rw (single-records x h.single l) (plain h.kind (sound_nested n))
sound_nested (nest {d = d} {t = t} {x = x} {l = l} {rest = rest} h n m) = rw (nest-records t x l rest) (nested-t d (t_record t x (count l)) (encode l) (encode rest) refl (sym (count-length l)) (sound_nested n) (sound_nested m))

-- ---- a record alone has nothing inside

same_everywhere : {A : Type 0} (n i : ℕ) (a : A) → get_or (replicate n a) i a ≡ a
same_everywhere zero i a = refl
same_everywhere (suc n) zero a = refl
same_everywhere (suc n) (suc i) a = same_everywhere n i a

inside-all : (r : Record) → map (λ (f : Record → AnimatedTag). inside (f r)) (nothing ∷ decoders) ≡ replicate 50 none
unfolding decoders
inside-all r = refl

pub inside_one : (r : Record) → inside (decode_one r) ≡ none
unfolding decode_one
inside_one r =
    sym (get_or-map (λ (f : Record → AnimatedTag). inside (f r)) (nothing ∷ decoders) r.kind nothing)
    ∙ ap (λ (l : List Tags). get_or l r.kind none) (inside-all r)
    ∙ same_everywhere 50 r.kind none

-- ---- and back

decode-none : (n : ℕ) → decode_in n [] ≡ none
unfolding decode_in
decode-none zero = refl
decode-none (suc n) = refl

pub decode-single : (n : ℕ) (r : Record) (l : List Record) → (r.kind ≡ t_kind → ⊥) → decode_in (suc n) (r ∷ l) ≡ and (decode_one r) (decode_in n l)
unfolding decode_in
decode-single n r l h = rw (ne_eqb r.kind t_kind h)

pub decode-nest : (n : ℕ) (r : Record) (l : List Record) → r.kind ≡ t_kind → decode_in (suc n) (r ∷ l) ≡ and (decode_t r (decode_in n (take (holds r) l))) (decode_in n (drop (holds r) l))
unfolding decode_in
decode-nest n r l h = rw (eq-eqb r.kind t_kind h)

abbrev Backs : Tags → Type 0
Backs l = (n : ℕ) → length (encode l) ≤ n → decode_in n (encode l) ≡ l

back-single : (x : AnimatedTag) (l : Tags) → Back x → Backs l → Backs (and x l)
back-single x l h k n g = go n (rw e at g)
  where
    e : encode (and x l) ≡ head x ∷ encode l
    e = single-records x h.single l

    go : (n : ℕ) → suc (length (encode l)) ≤ n → decode_in n (encode (and x l)) ≡ and x l
    go zero g = absurd (omega arith)
    go (suc n) g = rw (e, decode-single n (head x) (encode l) h.kind, h.back, k n (omega arith))

back-nest : (t : Times) (x : Float) (l rest : Tags) → BackT t x (count l) → Backs l → Backs rest → Backs (and (T t x l) rest)
back-nest t x l rest h k m n g = go n (rw e at g)
  where
    e : encode (and (T t x l) rest) ≡ t_record t x (count l) ∷ (encode l ++ encode rest)
    e = nest-records t x l rest

    a : take (count l) (encode l ++ encode rest) ≡ encode l
    a = take_at (encode l) (encode rest) (count l) (sym (count-length l))

    b : drop (count l) (encode l ++ encode rest) ≡ encode rest
    b = drop_at (encode l) (encode rest) (count l) (sym (count-length l))

    go : (n : ℕ) → suc (length (encode l ++ encode rest)) ≤ n → decode_in n (encode (and (T t x l) rest)) ≡ and (T t x l) rest
    go zero g = absurd (omega arith)
    go (suc n) g =
        let w : length (encode l) + length (encode rest) ≤ n = omega (arith, length-append (encode l) (encode rest)) in
        rw (e, decode-nest n (t_record t x (count l)) (encode l ++ encode rest) refl, a, b, k n (omega arith), m n (omega arith), h.times, h.accel)

pub sound_back : {d : ℕ} {l : Tags} → Sound d l → Backs l
sound_back empty = λ n g. rw encode-none (decode-none n)
sound_back (single {x = x} {l = l} h s) = back-single x l h (sound_back s)
sound_back (nest {t = t} {x = x} {l = l} {rest = rest} h s m) = back-nest t x l rest h (sound_back s) (sound_back m)

-- ---- a table of their words

records-words : (rs : List Record) → records_to (length rs) (table_words rs) ≡ rs
unfolding records_to table_words
records-words [] = refl
records-words (r ∷ rs) = ap (λ (l : List Record). r ∷ l) (records-words rs)

module _ (rs : List Record) where
  abbrev t : List ℕ
  t = table_words rs

  pub words-places : places_of t ≡ length rs
  words-places = rw (length-words rs) (omega arith)

  pub words-records : records_of t ≡ rs
  words-records = rw words-places (records-words rs)

  words-whole : broken t ≡ false
  words-whole = let z : width * length rs % width ≡ 0 = omega arith in rw (length-words rs, z)

  pub words-formed : length rs ≤ most_places → All InRange rs → Nested most_depth rs → WellFormed t
  words-formed few a n = record { few = rw words-records few; whole = words-whole; ranges = rw words-records a; around = rw words-records n }

pub words_back : {d : ℕ} {l : Tags} → Sound d l → tags_of (table_words (encode l)) ≡ l
words_back {l = l} s = rw (words-records (encode l)) (sound_back s (length (encode l)) (le_refl _))
