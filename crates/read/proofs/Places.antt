-- Every place and count that an answer names lies within the text.
use mathlib.Core.Path.{◌≡◌, refl}
use mathlib.Core.List.{List}
use mathlib.Core.Logic.{inl}
use Prim.Native.Nat.{ℕ, ◌+◌, ◌≤◌, ◌<◌, min}
use native.Mathlib.Omega.{arith}
use native.Mathlib.Nat.{le_refl, le_trans}
use lib.ListN.{length, get_or}
use Rattle.refusal.specs.Refusal.{most_bytes, most_places, text_ground}
use Rattle.std.specs.Prelude.{Ok, Option, Some, None}
use borrow.Author.Tests.{le-leb}
use Rattle.survey.specs.Survey.{slashes_to, Straight}
use Rattle.survey.proofs.Laws.{unplain_wider, slashes-one, slashes-split, slashes-inside, slashes-most}
use Rattle.tag.specs.Tag.{T, Tags, count}
use Rattle.tag.proofs.Tags.{count_none, count-single, count-and, count-append}
use Rattle.plain.specs.Plain.{One}
use Rattle.plain.proofs.Gives.{Single}
use Rattle.plain.proofs.Bridge.{plain-single}
use Rattle.refusal.proofs.Laws.{good-short, Within, room_within, text-within, Few, room-few, unless-few}
use Rattle.read.specs.declared.Span.{Span}
use Rattle.read.specs.Block.{head_times, head_accel, Got, nothing as none, join, one_got, Peel, t_of, parse}
use Rattle.tag.specs.Tag.{most_depth}
use Rattle.read.specs.Reading.{kept_tags, read_ground, block_of, answer}
use Rattle.read.proofs.Inside.{Between, nowhere, there, between_wider, between_first, between_none}
use Rattle.read.proofs.Fine.{Fine, nothing, late, tag, away, plain-fine}
use Rattle.read.proofs.Parts.{PeelIn, parse_has, SpanIn}

-- 01, Grounds: the place of ground 3 and of ground 4 is in the text from i to e, and it gives no more tags than it has bytes
pub record Placed (s : List ℕ) (top i e : ℕ) (g : Got) : Type 0 where
  pub long : Between s top i e g.long
  pub far : Between s top i e g.far
  pub few : kept_tags g ≤ slashes_to s i e

none-placed : (s : List ℕ) (top i e : ℕ) → Placed s top i e none
unfolding count
none-placed s top i e = record { long = nowhere; far = nowhere; few = omega arith }

join-placed : {s : List ℕ} {top i k e : ℕ} (g h : Got) → i ≤ k → k ≤ e → Placed s top i k g → Placed s top k e h → Placed s top i e (join g h)
join-placed {s} {top} {i} {k} {e} g h a b u v =
    record {
      long = between_first (between_wider (le_refl i) b u.long) (between_wider a (le_refl e) v.long);
      far = between_first (between_wider (le_refl i) b u.far) (between_wider a (le_refl e) v.far);
      few = rw (count-append g.tags h.tags) (omega (arith, u.few, v.few, slashes-split s i k e a b));
    }

one_placed : {s : List ℕ} {top i p q e : ℕ} {o : One} → get_or s i 0 ≡ 92 → i < p → p ≤ q → q ≤ e → Fine s top p q o → Single o → Placed s top i e (one_got i o)
unfolding count
one_placed z a b c nothing u = record { long = nowhere; far = nowhere; few = omega arith }
one_placed z a b c (late k l h v) u = record { long = there k (omega arith) (omega arith) (unplain_wider (omega arith) c v); far = nowhere; few = omega arith }
one_placed {s} {top} {i} {p} {q} {e} z a b c (tag {x = x} h) u = record { long = nowhere; far = nowhere; few = omega (arith, count-single x u, slashes-one s i e (omega arith) z) }
one_placed {s} {top} {i} {p} {q} {e} z a b c (away {x = x} h v) u = record { long = nowhere; far = there i (le_refl i) (omega arith) (unplain_wider (omega arith) c v); few = omega (arith, count-single x u, slashes-one s i e (omega arith) z) }

t-placed : {s : List ℕ} {top i p q e : ℕ} (l : Peel) (g : Got) → get_or s i 0 ≡ 92 → i < p → q ≤ e → PeelIn s top p q l → Placed s top l.rest q g → Placed s top i e (t_of l g)
t-placed {s} {top} {i} {p} {q} {e} l g z a b u v =
    record {
      long = between_first (between_wider (omega arith) b u.long) (between_wider (omega (arith, u.low)) b v.long);
      far = between_wider (omega (arith, u.low)) b v.far;
      few = omega (arith, count-and (T (head_times l.heads) (head_accel l.heads) g.tags) Tags.none, count_none, v.few, slashes-one s i e (omega (arith, u.low, u.high)) z, slashes-inside s (i + 1) l.rest q e (omega (arith, u.low)) u.high b);
    }

pub placed : (d : ℕ) (s : List ℕ) (i e : ℕ) → i ≤ e → e ≤ most_bytes → Placed s e i e (parse d s i e)
placed d s i e =
    let top = e in
    λ h. parse_has s top (λ d i e g. e ≤ most_bytes → Placed s top i e g)
    (λ d i e l h. none-placed s top i e)
    (λ d i k e g h a b u v l. join-placed g h a b (u (le_trans b l)) (v l))
    (λ d i m p q e z a b c l m₁ n₁ h. one_placed z (omega arith) c l (plain-fine s top p q c (le_trans l h) m₁ n₁ (i + 1) m (omega arith)) (plain-single s (i + 1) m p q))
    (λ d i p q e l g z a b u v h. t-placed l g z a b u (v (le_trans b h)))
    d i e h (le_refl e) (inl refl)

-- ---- a plain text

-- where a first look finds nothing, all kept tags are read: grounds 3, 4 and 9 cannot stand
pub straight_read : (s : List ℕ) (x : Span) (places : ℕ) → SpanIn s x → text_ground s ≡ Ok tt → Straight s x.from x.to (min places most_places) → answer s x places ≡ Ok (kept_tags (block_of s x))
unfolding answer read_ground
straight_read s x places inside good f =
    let r = placed most_depth s x.from x.to inside.order (le_trans inside.high (good-short s good)) in
    rw (good, between_none f.plain r.long, between_none f.plain r.far, le-leb (kept_tags (block_of s x)) (min places most_places) (le_trans r.few f.few))

-- ---- an answer

-- x is the part of the text that a call reads
module _ (s : List ℕ) (x : Span) (places : ℕ) where
  module _ (inside : SpanIn s x) where
    read_within : length s ≤ most_bytes → Within s (read_ground (block_of s x).long (block_of s x).far (kept_tags (block_of s x)) places)
    unfolding read_ground
    read_within l =
        let r = placed most_depth s x.from x.to inside.order (le_trans inside.high l) in
        go r.long r.far (le_trans (le_trans r.few (slashes-most s x.from x.to)) (omega (arith, inside.high)))
      where
        go : {f g : Option ℕ} {n : ℕ} → Between s x.to x.from x.to f → Between s x.to x.from x.to g → n ≤ length s → Within s (read_ground f g n places)
        go (there p a b u) v h = (omega (arith, inside.high), omega (arith, inside.high))
        go nowhere (there p a b u) h = (omega (arith, inside.high), omega (arith, inside.high))
        go {n = n} nowhere nowhere h = room_within s n places l h

    -- the place or count of an answer
    pub ground-within : Within s (answer s x places)
    unfolding answer
    ground-within = text-within s (read_ground (block_of s x).long (block_of s x).far (kept_tags (block_of s x)) places) read_within

  few-ground : (f g : Option ℕ) (n : ℕ) → Few (read_ground f g n places)
  unfolding read_ground
  few-ground (Some p) g n = tt
  few-ground None (Some p) n = tt
  few-ground None None n = room-few n places

  -- an answer counts at most 1,024 records
  pub few_read : Few (answer s x places)
  unfolding answer
  few_read = unless-few (text_ground s) _ (few-ground (block_of s x).long (block_of s x).far (kept_tags (block_of s x)))
