-- The answer and the table, from one run of the reader or from two.
use mathlib.Core.Path.{◌≡◌, sym, ap, ◌∙◌}
use mathlib.Core.List.{List, [], ◌++◌}
use Prim.Native.Nat.{ℕ}
use Rattle.refusal.specs.declared.Refusal.{Refusal}
use Rattle.tag.specs.Table.{encode}
use Rattle.tag.proofs.Table.{laid_none}
use Rattle.read.specs.declared.Out.{Out}
use Rattle.refusal.specs.Answer.{Answer}
use Rattle.std.specs.Prelude.{Ok, Err}
use Rattle.read.specs.declared.Span.{Span}
use Rattle.read.specs.Reading.{kept_tags, read_ground, block_of, answer, after, Answered}
use Rattle.read.specs.Inner.{found_of, Seen, Told}
use Rattle.tag.specs.Table.{places_of}
use Rattle.refusal.specs.Refusal.{text_ground}

module _ (s : List ℕ) (x : Span) (t : List ℕ) where
  pub text-refused : (r : Refusal) → text_ground s ≡ Err r → Answered s x t (Err r) t
  unfolding answer after
  text-refused r e = record { reading = rw e; table = rw e }

  -- one run, where nothing can stand against the text
  pub straight : (seen : Out) (m : ℕ) (u : List ℕ) → answer s x (places_of t) ≡ Ok (kept_tags (block_of s x)) → Told t (block_of s x) m seen u → Answered s x t (Ok seen.n) u
  unfolding after
  straight seen m u e a = record { reading = ap (λ (y : Seen). Ok y.n) a.out ∙ sym e; table = rw (e, a.table) }

  module _ (l : List ℕ) (seen : Out) (m : ℕ) (good : text_ground s ≡ Ok tt) (a : Told [] (block_of s x) m seen l) where
    -- the dry run leaves the table as it was
    dry : l ++ t ≡ t
    dry = rw (a.table, laid_none (encode (block_of s x).tags))

    is-answer : (r : Answer) → read_ground (found_of seen.long) (found_of seen.far) seen.n (places_of (l ++ t)) ≡ r → r ≡ answer s x (places_of t)
    unfolding answer
    is-answer r e = sym (rw dry at e) ∙ ap (λ (y : Seen). read_ground y.long y.far y.n (places_of t)) a.out ∙ rw good

    pub refused : (r : Refusal) → read_ground (found_of seen.long) (found_of seen.far) seen.n (places_of (l ++ t)) ≡ Err r → Answered s x t (Err r) (l ++ t)
    unfolding after
    refused r e =
        let k = is-answer (Err r) e in
        record { reading = k; table = rw (← k) dry }

    pub done : (n : ℕ) (m' : ℕ) (o : Out) (u : List ℕ) → read_ground (found_of seen.long) (found_of seen.far) seen.n (places_of (l ++ t)) ≡ Ok n → Told (l ++ t) (block_of s x) m' o u → Answered s x t (Ok n) u
    unfolding after
    done n m' o u e b =
        let k = is-answer (Ok n) e in
        record { reading = k; table = rw (← k) (rw dry at b.table) }
