-- What the readers say of the table, put together.
use mathlib.Core.Path.{◌≡◌, refl, sym, ap, subst, ◌∙◌}
use mathlib.Core.List.{List, [], ◌∷◌, ◌++◌, append-nil}
use Prim.Native.Nat.{ℕ, zero, suc, ◌+◌, ◌-◌, ◌*◌, ◌≤◌, min}
use native.Mathlib.Omega.{arith}
use native.Mathlib.Nat.{zero-min}
use lib.Ieee.{Float, to_bits}
use lib.Dec.{ltb, eqb}
use Rattle.scan.specs.Scan.{trim_start}
use Rattle.scan.proofs.Laws.{picked}
use lib.ListN.{length, get_or, take, drop, length-append, length-drop, take-append-drop}
use lib.Seq.{length-take-le}
use Rattle.std.proofs.lemmas.List.{set_past}
use borrow.Author.Tests.{ne_eqb}
use Rattle.lists.specs.Lists.{first_of}
use Rattle.std.specs.Prelude.{Option, Some, None}
use Rattle.float.specs.Float.{to_word}
use Rattle.numeral.specs.Numeral.{F32, number, too_long_lem, f32_at}
use Rattle.rows.specs.Rows.{laid_rows}
use Rattle.rows.proofs.Laws.{rest-is, rest_back}
use Rattle.tag.specs.Table.{width, records, encode, laid, bits, t_record}
use Rattle.tag.specs.declared.Record.{Record}
use Rattle.tag.proofs.Table.{length-laid, laid-t, laid_step}
use Rattle.tag.specs.Tag.{T, Tags, and, count}
use Rattle.tag.proofs.Tags.{encode-append, count_none, count-and, count-length, count-single, count-append}
use Rattle.plain.specs.Names.{key_at, t_key}
use Rattle.plain.specs.Plain.{One, no, long, kept, far, plain_at, or_zero, time_of}
use Rattle.plain.specs.Inner.{kept_of, cut_word}
use Rattle.plain.proofs.Numbers.{Back, f32-back}
use Rattle.plain.proofs.Gives.{Single}
use Rattle.plain.proofs.Bridge.{plain-single}
use Rattle.read.specs.declared.Out.{Out}
use Rattle.read.specs.declared.Head.{Head}
use Rattle.read.specs.declared.Peeled.{Peeled}
use Rattle.read.specs.Block.{Got, nothing, join, one_got, Peel, peel_head, peel, peel_to, head_times, head_accel, head_end, tag_at, parse, t_at}
use Rattle.read.specs.Inner.{heads_from, no_heads, t_words, Peels, found_of, Seen, seen_of, kept_records, kept_got, Keeps, joined_out, around_out, seen_in, Told}
use Rattle.read.specs.Reading.{kept_tags}
use Rattle.read.proofs.Walk.{tag_plain, t-more}

-- ---- a plain tag

-- the code's words say what the definitions give
one_seen : (i : ℕ) (x : One) (t : List ℕ) → Single x → (kept_got i (kept_of x) ≡ seen_in (one_got i x)) × (laid t (kept_records (kept_of x)) ≡ laid t (encode (one_got i x).tags))
unfolding encode laid_rows records count
one_seen i no t s = (refl, refl)
one_seen i (long p) t s = (refl, refl)
one_seen i (kept x) t s = (rw (count-single x s), rw s)
one_seen i (far x) t s = (rw (count-single x s), rw s)

-- what `parse_one` says, from what its calls say
module _ (inner : ℕ → ℕ → Got) (s : List ℕ) (i : ℕ) (h : Head) (t : List ℕ) (r : Out) (u : List ℕ) where
  pub plain-told : ¬ (key_at s h.name h.end ≡ t_key) → Keeps i (kept_of (plain_at s h.name h.end h.p h.q)) t r u → Told t (tag_at inner s i h) (h.q - h.p + 1) r u
  plain-told n g =
      let y = one_seen i (plain_at s h.name h.end h.p h.q) t (plain-single s h.name h.end h.p h.q) in
      rw (tag_plain inner s i h n) (record { out = g.out ∙ y.0; table = g.table ∙ y.1; few = omega (arith, g.few) })

-- ---- a \t

-- all numbers of a list come back from their bits
pub data Backs : List Float → Type 0 where
  none : Backs []
  more : {x : Float} {l : List Float} → Back x → Backs l → Backs (x ∷ l)

head_backs : (f : F32) (i q k b : ℕ) (u : Peel) → Back (or_zero f) → Backs u.heads → Backs (peel_head f i q k b u).heads
head_backs F32.none i q k b u e g = none
head_backs (too_long_lem p) i q k b u e g = none
head_backs (number x) i q k b u e g =
    more e (picked (λ (v : Peel). Backs v.heads) (ltb k q) _ _ (picked (λ (v : Peel). Backs v.heads) (eqb b 92) _ _ none g) none)

peel_backs : (s : List ℕ) (q n i : ℕ) → Backs (peel s q n i).heads
unfolding peel
peel_backs s q zero i = none
peel_backs s q (suc n) i =
    let k = head_end s i q in
    let u = peel s q n (trim_start s (k + 1) q) in
    head_backs (f32_at s i k) i q k (get_or s k 0) u (f32-back s i k) (peel_backs s q n (trim_start s (k + 1) q))

-- from the third number on the words stay
heads_full : (l : List Float) (n a b c m : ℕ) → 3 ≤ n → t_words (heads_from (record { count = n; words = a ∷ b ∷ c ∷ [] }) l) m ≡ t_words (record { count = 3; words = a ∷ b ∷ c ∷ [] }) m
unfolding heads_from t_words
heads_full [] n a b c m h = simp (ne_eqb n 0 (λ z. omega arith), ne_eqb n 1 (λ z. omega arith), ne_eqb n 2 (λ z. omega arith))
heads_full (v ∷ l) n a b c m h =
    let e = set_past (a ∷ b ∷ c ∷ []) n (bits v) h in
    ap (λ (ws : List ℕ). t_words (heads_from (record { count = n + 1; words = ws }) l) m) e ∙ heads_full l (n + 1) a b c m (omega arith)

cut-back : {x : Float} → Back x → cut_word (bits x) ≡ to_word (time_of x)
cut-back e = rw e

-- the record of a \t from the words of its numbers
t-words : {l : List Float} → Backs l → (n : ℕ) → t_words (heads_from no_heads l) n ≡ t_record (head_times l) (head_accel l) n
unfolding heads_from t_words to_bits
t-words none n = refl
t-words (more e none) n = refl
t-words (more e (more f none)) n = rw (cut-back e, cut-back f)
t-words (more {x = a} e (more {x = b} f (more {x = c} {l = l} g h))) n =
    heads_full l 3 (bits a) (bits b) (bits c) n (omega arith) ∙ rw (cut-back e, cut-back f)

-- the table when the part from k on, which was lent and holds u now, is back
part-table : (t u : List ℕ) (rs : List Record) (k : ℕ) → k ≤ length t → u ≡ laid (take (length t - k) (drop k t)) rs → take k t ++ (u ++ drop (length t - k) (drop k t)) ≡ take k t ++ laid (drop k t) rs
part-table t u rs k h e = rest_back k t u h ∙ ap (λ (l : List ℕ). take k t ++ l) (e ∙ ap (λ (l : List ℕ). laid l rs) (rest-is k t))

length_part : (t : List ℕ) (rs : List Record) (k : ℕ) → k ≤ length t → length (take k t ++ laid (drop k t) rs) ≡ length t
length_part t rs k h = simp (length-append, length-laid) (omega (arith, length-take-le k t h, length-drop k t))

-- what `parse_t` says, from what its calls say
module _ (d : ℕ) (s : List ℕ) (p q : ℕ) (t : List ℕ) (l : Peeled) (o r : Out) (k : ℕ) (x : Record) (u v : List ℕ) where
  pub t-told : ¬ (d ≡ 0) → Peels p q (peel_to s p q) l → Told (take (length t - k) (drop k t)) (parse (d - 1) s l.rest q) (q - l.rest) o u → k ≡ min width (length t)
      → x ≡ t_words l.heads o.n → v ≡ laid (take k t ++ (u ++ drop (length t - k) (drop k t))) (x ∷ []) → seen_of r ≡ around_out l.long (seen_of o)
      → Told t (t_at d s p q) (q - p + 1) r v
  unfolding encode
  t-told h g a e b c f =
      let w = peel_to s p q in
      let i = parse (d - 1) s w.rest q in
      let a2 : Told (take (length t - k) (drop k t)) i (q - l.rest) o u = subst (λ (y : ℕ). Told (take (length t - k) (drop k t)) (parse (d - 1) s y q) (q - l.rest) o u) g.rest a in
      let n : o.n ≡ kept_tags i = ap (λ (y : Seen). y.n) a2.out in
      let rn : r.n ≡ o.n + 1 = ap (λ (y : Seen). y.n) f in
      let tb = part-table t u (encode i.tags) k (omega arith) a2.table in
      let y : x ≡ t_record (head_times w.heads) (head_accel w.heads) (kept_tags i) = b ∙ rw (g.heads, n) (t-words (peel_backs s q (suc (q - trim_start s p q)) (trim_start s p q)) (kept_tags i)) in
      let z : v ≡ laid t (x ∷ encode i.tags) = c ∙ ap (λ (y : List ℕ). laid y (x ∷ [])) tb ∙ laid-t t x (encode i.tags) k e in
      let cn : count (and (T (head_times w.heads) (head_accel w.heads) i.tags) Tags.none) ≡ kept_tags i + 1 = omega (arith, count-and (T (head_times w.heads) (head_accel w.heads) i.tags) Tags.none, count_none) in
      record {
        out = f ∙ ap (λ (y : Seen). around_out l.long y) a2.out ∙ rw (t-more d s p q h, cn, g.long);
        table = rw (t-more d s p q h, append-nil (encode i.tags), ← y) z;
        few = omega (arith, a.few, g.low);
      }

-- ---- a block

first_assoc : (a b c : Option ℕ) → first_of a (first_of b c) ≡ first_of (first_of a b) c
first_assoc None b c = refl
first_assoc (Some p) b c = refl

first-end : (a : Option ℕ) → first_of a None ≡ a
first-end None = refl
first-end (Some p) = refl

-- where a block's reading stands: `all` is what it gives, `rest` what is still to come, t the table and o the result now
pub record Turning (t₀ : List ℕ) (all rest : Got) (t : List ℕ) (o : Seen) : Type 0 where
  pub len : length t ≡ length t₀
  pub table : laid t₀ (encode all.tags) ≡ take (min (width * o.n) (length t)) t ++ laid (drop (min (width * o.n) (length t)) t) (encode rest.tags)
  pub count : o.n + kept_tags rest ≡ kept_tags all
  pub long : all.long ≡ first_of o.long rest.long
  pub far : all.far ≡ first_of o.far rest.far

pub turning_start : (t : List ℕ) (g : Got) → Turning t g g t (record { n = 0; long = None; far = None })
turning_start t g = record { len = refl; table = simp zero-min; count = omega arith; long = refl; far = refl }

pub turning_turn : {t₀ t u : List ℕ} {all rest g : Got} {o r : Seen} {o' : Out} {k most : ℕ} → Turning t₀ all (join g rest) t o → k ≡ min (width * o.n) (length t)
    → Told (take (length t - k) (drop k t)) g most o' u → r ≡ joined_out o (seen_of o') → Turning t₀ all rest (take k t ++ (u ++ drop (length t - k) (drop k t))) r
turning_turn {t₀} {t} {u} {all} {rest} {g} {o} {r} {o'} {k} {most} l e a f =
    let x = encode g.tags in
    let w = part-table t u x k (omega arith) a.table in
    let n = length_part t x k (omega arith) in
    let c : o'.n ≡ count g.tags = ap (λ (y : Seen). y.n) a.out in
    let m : o'.n ≡ length x = c ∙ count-length g.tags in
    let b : found_of o'.long ≡ g.long = ap (λ (y : Seen). y.long) a.out in
    let d : found_of o'.far ≡ g.far = ap (λ (y : Seen). y.far) a.out in
    let ea = encode-append g.tags rest.tags in
    let s = laid_step t x (encode rest.tags) o.n k (min (width * (o.n + length x)) (length t)) e refl in
    record {
      len = rw w (n ∙ l.len);
      table = rw (w, n, f, m) (l.table ∙ rw (ea, ← e) s);
      count = rw f (omega (arith, l.count, c, count-append g.tags rest.tags));
      long = rw (f, b) (l.long ∙ first_assoc o.long g.long rest.long);
      far = rw (f, d) (l.far ∙ first_assoc o.far g.far rest.far);
    }

pub turning_end : {t₀ t : List ℕ} {all : Got} {o : Out} {most : ℕ} → Turning t₀ all nothing t (seen_of o) → o.n ≤ most → Told t₀ all most o t
unfolding encode laid_rows
turning_end {t₀} {t} {all} {o} {most} l h =
    let m : kept_tags all ≡ o.n = omega (arith, l.count, count_none) in
    let b = l.long ∙ first-end (found_of o.long) in
    let d = l.far ∙ first-end (found_of o.far) in
    record { out = rw (m, b, d); table = sym (l.table ∙ take-append-drop (min (width * o.n) (length t)) t); few = h }
