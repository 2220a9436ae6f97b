-- The numbers in front of a \t's tags, one after the other.
use mathlib.Core.Path.{◌≡◌, refl, sym, ap}
use mathlib.Core.List.{List, []}
use mathlib.Core.Logic.{⊎_elim}
use Prim.Native.Nat.{ℕ, zero, suc, ◌+◌, ◌-◌, ◌≤◌, ◌<◌}
use native.Mathlib.Omega.{arith}
use lib.ListN.{get_or}
use lib.Dec.{ltb, eqb}
use borrow.Author.Tests.{le-ltb}
use Rattle.scan.specs.Scan.{pick, none_of, trim_start}
use Rattle.scan.proofs.Laws.{le_or_lt, span-low, skip-low, blank_at-fits}
use Rattle.numeral.specs.Numeral.{F32, number, too_long_lem, f32_at, word_of_f32, too_long}
use Rattle.numeral.specs.declared.Numeral.TheVariants.{Word}
use Rattle.std.specs.Prelude.{Option}
use Rattle.tag.specs.Table.{bits}
use Rattle.read.specs.Block.{Peel, peeled, peel_head, head_end, peel}
use Rattle.read.specs.Inner.{headed, heads_from, no_heads, Peels}
use Rattle.read.specs.declared.Heads.{Heads}

-- at the end nothing comes behind a head
head_last : (x : F32) (i q k b : ℕ) (u v : Peel) → q ≤ k → peel_head x i q k b u ≡ peel_head x i q k b v
head_last F32.none i q k b u v h = refl
head_last (too_long_lem p) i q k b u v h = refl
head_last (number x) i q k b u v h = rw (le-ltb k q h)

-- more fuel than there are bytes left changes nothing
peel_fuel : (s : List ℕ) (q n m i : ℕ) → q - i < n → q - i < m → peel s q n i ≡ peel s q m i
unfolding peel
peel_fuel s q zero m i a b = absurd (omega arith)
peel_fuel s q (suc n) zero i a b = absurd (omega arith)
peel_fuel s q (suc n) (suc m) i a b =
    let k = head_end s i q in
    let low : i ≤ head_end s i q = span-low (none_of 44 92) s (q - i) i in
    let j : head_end s i q + 1 ≤ trim_start s (head_end s i q + 1) q = skip-low _ blank_at-fits s q (q - (head_end s i q + 1)) (head_end s i q + 1) in
    ⊎_elim
    (λ (h : q ≤ head_end s i q). head_last (f32_at s i k) i q k (get_or s k 0) (peel s q n (trim_start s (k + 1) q)) (peel s q m (trim_start s (k + 1) q)) h)
    (λ (h : head_end s i q < q). ap (λ (u : Peel). peel_head (f32_at s i k) i q k (get_or s k 0) u) (peel_fuel s q n m (trim_start s (k + 1) q) (omega arith) (omega arith)))
    (le_or_lt q (head_end s i q))

-- where the peeling stands: `all` is what it gives, `rest` what is still to come, and h the words so far
pub record Peeling (all rest : Peel) (h : Heads) : Type 0 where
  pub heads : heads_from no_heads all.heads ≡ heads_from h rest.heads
  pub place : all.rest ≡ rest.rest
  pub long : all.long ≡ rest.long

pub peeling_start : (l : Peel) → Peeling l l no_heads
peeling_start l = record { heads = refl; place = refl; long = refl }

-- what comes from i on, and what is behind the head there, which ends at k
abbrev pub from : List ℕ → ℕ → ℕ → Peel
from s q i = peel s q (suc (q - i)) i

abbrev pub behind : List ℕ → ℕ → ℕ → Peel
behind s q k = pick (ltb k q) (pick (eqb (get_or s k 0) 92) (peeled k) (from s q (trim_start s (k + 1) q))) (peeled q)

pub behind_end : (s : List ℕ) (q k : ℕ) → q ≤ k → k ≤ q → behind s q k ≡ peeled k
behind_end s q k a b =
    let z : q ≡ k = omega arith in
    rw (le-ltb k q a, z)

module _ (s : List ℕ) (q i k : ℕ) (e : k ≡ head_end s i q) where
  head_first : from s q i ≡ peel_head (f32_at s i k) i q k (get_or s k 0) (from s q (trim_start s (k + 1) q))
  unfolding peel
  head_first =
      let low : i ≤ k = rw e (span-low (none_of 44 92) s (q - i) i) in
      let j : k + 1 ≤ trim_start s (k + 1) q = skip-low _ blank_at-fits s q (q - (k + 1)) (k + 1) in
      rw (← e)
      (⊎_elim
      (λ (h : q ≤ k). head_last (f32_at s i k) i q k (get_or s k 0) (peel s q (q - i) (trim_start s (k + 1) q)) (from s q (trim_start s (k + 1) q)) h)
      (λ (h : k < q). ap (λ (u : Peel). peel_head (f32_at s i k) i q k (get_or s k 0) u) (peel_fuel s q (q - i) (suc (q - trim_start s (k + 1) q)) (trim_start s (k + 1) q) (omega arith) (omega arith)))
      (le_or_lt q k))

module _ (all more : Peel) (h : Heads) (i q k b : ℕ) where
  stop : (x : F32) → ((w : ℕ) → ¬ (word_of_f32 x ≡ Word w)) → Peeling all (peel_head x i q k b more) h → Peeling all (record { heads = []; rest = i; long = too_long (word_of_f32 x) }) h
  stop F32.none n l = l
  stop (too_long_lem p) n l = l
  stop (number x) n l = absurd (n (bits x) refl)

  word : (x : F32) (w : ℕ) → word_of_f32 x ≡ Word w → Peeling all (peel_head x i q k b more) h → Peeling all (pick (ltb k q) (pick (eqb b 92) (peeled k) more) (peeled q)) (headed h w)
  unfolding heads_from
  word F32.none w e l = absurd (cc)
  word (too_long_lem p) w e l = absurd (cc)
  word (number x) w e l =
      let z : bits x ≡ w = cc in
      record { heads = rw (← z) l.heads; place = l.place; long = l.long }

module _ {all : Peel} {h : Heads} (s : List ℕ) (q i k : ℕ) (e : k ≡ head_end s i q) (l : Peeling all (from s q i) h) where
  pub peeling_stop : ((w : ℕ) → ¬ (word_of_f32 (f32_at s i k) ≡ Word w)) → Peeling all (record { heads = []; rest = i; long = too_long (word_of_f32 (f32_at s i k)) }) h
  peeling_stop n = stop all (from s q (trim_start s (k + 1) q)) h i q k (get_or s k 0) (f32_at s i k) n (rw (head_first s q i k e) at l)

  pub peeling_word : (v : ℕ) → word_of_f32 (f32_at s i k) ≡ Word v → Peeling all (behind s q k) (headed h v)
  peeling_word v w = word all (from s q (trim_start s (k + 1) q)) h i q k (get_or s k 0) (f32_at s i k) v w (rw (head_first s q i k e) at l)

pub peeling_end : {all : Peel} {h : Heads} {p q i : ℕ} {f : Option ℕ} → Peeling all (record { heads = []; rest = i; long = f }) h → p ≤ i → i ≤ q → Peels p q all (record { heads = h; rest = i; long = f })
unfolding heads_from
peeling_end l a b = record { heads = sym l.heads; rest = sym l.place; long = sym l.long; low = a; high = b }
