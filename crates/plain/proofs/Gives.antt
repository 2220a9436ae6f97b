-- What the code keeps, against what a tag gives: the tag's one record.
use mathlib.Core.Path.{◌≡◌, refl, ap, ◌∙◌}
use mathlib.Core.Bool.{Bool, true, false}
use mathlib.Core.List.{List, [], ◌∷◌}
use Prim.Native.Nat.{ℕ, suc, ◌-◌, ◌≤◌, ◌<◌}
use native.Mathlib.Omega.{arith}
use lib.Dec.{leb, ltb, eqb, lit<}
use lib.IntN.{ℤ, pos, negsuc}
use lib.Ieee.{Float}
use lib.ListN.{length, get_or}
use borrow.Author.Tests.{lt-leb, ne_eqb}
use Rattle.scan.specs.Scan.{pick, trim_start, trim_end}
use Rattle.numeral.specs.Numeral.{F32, too_long, too_long_lem, number, f32_at, I32, whole, word_of_f32, word_of_i32}
use Rattle.lists.specs.Lists.{Stretch, first_of}
use Rattle.lists.specs.Inner.{items, first_long}
use Rattle.lists.specs.declared.Numbers.{Numbers}
use Rattle.std.specs.Prelude.{Option}
use Rattle.tag.specs.declared.Record.{Record}
use Rattle.tag.specs.Tag.{AnimatedTag, R, plain, named}
use Rattle.tag.specs.Table.{rec, head, records, two_floats, one_number, flag_word}
use Rattle.tag.proofs.Tags.{records_own}
use Rattle.plain.specs.declared.Kept.{Kept}
use Rattle.plain.specs.Plain.{One, no, long, kept, far, part, f32s, unless_long, pair_of, move_of, fad_of, fade_of, ranged_of, weight_of, flag_of, reset_of, int_of, nth_int, is_far}
use Rattle.plain.specs.Inner.{kept_of, long_or, pair_tag, move_tag, fad_tag, fade_tag, ranged_tag, weight_tag, flag_tag, reset_tag}
use Rattle.plain.proofs.Numbers.{Small, high, clip-word, byte-word, far-word}
use Rattle.plain.proofs.Commas.{Floats, Ints}

-- nothing, a numeral that is too long, a tag, a \fade whose times lie too far off
pub data Gives : Kept → One → Type 0 where
  nothing : Gives Kept.No no
  late : (p : ℕ) → Gives (Kept.Long p) (long p)
  tag : {r : Record} {x : AnimatedTag} → records x ≡ r ∷ [] → Gives (Kept.Tag r) (kept x)
  away : {r : Record} {x : AnimatedTag} → records x ≡ r ∷ [] → Gives (Kept.Far r) (far x)

-- where there is one record it is the tag's own
own_record : (x : AnimatedTag) {r : Record} → records x ≡ r ∷ [] → r ≡ head x
own_record x e = cc (records_own x)

pub gives-kept : {k : Kept} {o : One} → Gives k o → k ≡ kept_of o
gives-kept nothing = refl
gives-kept (late p) = refl
gives-kept (tag {x = x} e) = ap Kept.Tag (own_record x e)
gives-kept (away {x = x} e) = ap Kept.Far (own_record x e)

-- what is kept has one record
abbrev pub Single : One → Type 0
Single no = Unit
Single (long p) = Unit
Single (kept x) = records x ≡ head x ∷ []
Single (far x) = records x ≡ head x ∷ []

pub gives-single : {k : Kept} {o : One} → Gives k o → Single o
gives-single nothing = tt
gives-single (late p) = tt
gives-single (tag {x = x} e) = e ∙ ap (λ (r : Record). r ∷ []) (own_record x e)
gives-single (away {x = x} e) = e ∙ ap (λ (r : Record). r ∷ []) (own_record x e)

pub gives-pick : (b : Bool) {k j : Kept} {o u : One} → Gives k o → Gives j u → Gives (pick b k j) (pick b o u)
gives-pick true g h = g
gives-pick false g h = h

gives_none : (b : Bool) → Gives (pick b Kept.No Kept.No) no
gives_none true = nothing
gives_none false = nothing

-- ---- a comma list

-- a numeral that is too long comes first
module _ (k : Kept) (o : One) where
  long_step : (y : F32) (l : List F32) (f : Option ℕ) → Gives (long_or f k) (unless_long l o) → Gives (long_or (first_of (too_long (word_of_f32 y)) f) k) (unless_long (y ∷ l) o)
  unfolding unless_long
  long_step F32.none l f g = g
  long_step (too_long_lem p) l f g = late p
  long_step (number x) l f g = g

  pub gives-long : (s : List ℕ) (l : List Stretch) → Gives k o → Gives (long_or (first_long (items false s l)) k) (unless_long (f32s s l) o)
  unfolding items f32s first_long unless_long
  gives-long s [] g = g
  gives-long s (x ∷ l) g = long_step (f32_at s x.from x.to) (f32s s l) (first_long (items false s l)) (gives-long s l g)

module _ (n : Numbers) where
  pub gives-pair : (f : Float → Float → AnimatedTag) (k : ℕ) → ((x y : Float) → records (f x y) ≡ two_floats k x y ∷ []) → {b : Bool} {l : List Float} → Floats n b l → Gives (pair_tag k n.all n.count n.words) (pair_of f (pick b l []))
  unfolding pair_tag pair_of
  gives-pair f k h {b = false} r = rw r.all nothing
  gives-pair f k h {b = true} {l} r = rw (r.all, r.count, r.words 0 (lit< tt), r.words 1 (lit< tt)) (gives-pick (eqb (length l) 2) (tag (h _ _)) nothing)

  pub gives_move : {b : Bool} {l : List Float} → Floats n b l → Gives (move_tag n.all n.count n.words) (move_of (pick b l []))
  unfolding move_tag move_of records
  gives_move {b = false} r = rw r.all nothing
  gives_move {b = true} {l} r =
      rw (r.all, r.count, r.words 0 (lit< tt), r.words 1 (lit< tt), r.words 2 (lit< tt), r.words 3 (lit< tt), r.words 4 (lit< tt), r.words 5 (lit< tt), r.fine 4, r.fine 5)
      (gives-pick (eqb (length l) 4) (tag refl) (gives-pick (eqb (length l) 6) (tag refl) nothing))

  pub gives-fad : {b : Bool} {l : List ℤ} → Ints n b l → Gives (fad_tag n.all n.count n.words) (fad_of (pick b l []))
  unfolding fad_tag fad_of records
  gives-fad {b = false} r = rw r.all nothing
  gives-fad {b = true} {l} r =
      rw (r.all, r.count, r.words 0 (lit< tt), r.words 1 (lit< tt), clip-word _ (r.fine 0), clip-word _ (r.fine 1))
      (gives-pick (leb 2 (length l)) (tag refl) nothing)

  pub gives-fade : {b : Bool} {l : List ℤ} → Ints n b l → Gives (fade_tag n.all n.count n.words) (fade_of (pick b l []))
  unfolding fade_tag fade_of records
  gives-fade {b = false} r = rw r.all nothing
  gives-fade {b = true} {l} r =
      rw (
        r.all,
        r.count,
        r.words 0 (lit< tt),
        r.words 1 (lit< tt),
        r.words 2 (lit< tt),
        r.words 3 (lit< tt),
        r.words 4 (lit< tt),
        r.words 5 (lit< tt),
        r.words 6 (lit< tt),
        byte-word _ (r.fine 0),
        byte-word _ (r.fine 1),
        byte-word _ (r.fine 2),
        far-word _ (r.fine 3),
        far-word _ (r.fine 4),
        far-word _ (r.fine 5),
        far-word _ (r.fine 6),
      )
      (gives-pick (leb 7 (length l)) (gives-pick (pick (is_far (nth_int l 3)) true (pick (is_far (nth_int l 4)) true (pick (is_far (nth_int l 5)) true (is_far (nth_int l 6))))) (away refl) (tag refl)) nothing)

-- ---- one whole number

module _ (f : ℕ → AnimatedTag) (k : ℕ) (h : (n : ℕ) → records (f n) ≡ one_number k n ∷ []) where
  pub gives-ranged : (a b : ℕ) → b < 2147483648 → (y : I32) → Small (int_of y) → Gives (ranged_tag k a b (word_of_i32 y)) (ranged_of a b f y)
  unfolding ranged_tag ranged_of
  gives-ranged a b u I32.none z = nothing
  gives-ranged a b u (whole (pos n)) z = gives-pick (leb a n) (gives-pick (leb n b) (tag (h n)) nothing) nothing
  gives-ranged a b u (whole (negsuc n)) z = rw (lt-leb (4294967296 - suc n) b (omega (arith, high n z))) (gives_none (leb a (4294967296 - suc n)))

pub gives-weight : (y : I32) → Small (int_of y) → Gives (weight_tag (word_of_i32 y)) (weight_of y)
unfolding weight_tag weight_of ranged_tag records
gives-weight I32.none z = nothing
gives-weight (whole (pos n)) z =
    gives-pick (eqb n 0) (tag refl) (gives-pick (eqb n 1) (tag refl) (gives-pick (leb 100 n) (gives-pick (leb n 900) (tag refl) nothing) nothing))
gives-weight (whole (negsuc n)) z =
    let w = 4294967296 - suc n in
    let h : 2147483648 ≤ w = high n z in
    rw (ne_eqb w 0 (λ e. omega arith), ne_eqb w 1 (λ e. omega arith), lt-leb w 900 (omega arith)) (gives_none (leb 100 w))

pub gives-flag : (f : Bool → AnimatedTag) (k : ℕ) → ((b : Bool) → records (f b) ≡ one_number k (flag_word b) ∷ []) → (s : List ℕ) (p q : ℕ) → Gives (flag_tag k s p q) (flag_of f s p q)
unfolding flag_tag flag_of
gives-flag f k h s p q =
    let a = trim_start s p q in
    gives-pick (eqb (trim_end s a q - a) 1)
    (gives-pick (eqb (get_or s a 0) 48) (tag (h false)) (gives-pick (eqb (get_or s a 0) 49) (tag (h true)) nothing))
    nothing

pub gives-reset : (s : List ℕ) (p q : ℕ) → Gives (reset_tag s p q) (kept (reset_of s p q))
unfolding reset_tag reset_of records
gives-reset s p q =
    let a = trim_start s p q in
    let b = trim_end s a q in
    go a b (ltb a b)
  where
    go : (a b : ℕ) (t : Bool) → Gives (pick t (Kept.Tag (rec 41 1 (part a b).offset (part a b).size 0 0 0 0)) (Kept.Tag (rec 41 0 0 0 0 0 0 0))) (kept (R (pick t (named (part a b)) plain)))
    go a b true = tag refl
    go a b false = tag refl
