-- A table holds the block that was read into it: every table, every text, both reading calls.
use mathlib.Core.Path.{◌≡◌, refl, sym, ap, ◌∙◌}
use mathlib.Core.List.{List}
use mathlib.Core.Bool.{Bool, true, false}
use Prim.Native.Nat.{ℕ, ◌*◌, ◌≤◌, min}
use native.Mathlib.Omega.{arith}
use lib.Dec.{leb}
use lib.ListN.{length, drop}
use lib.Seq.{take_at}
use borrow.Author.Tests.{leb-true}
use Rattle.scan.specs.Scan.{pick}
use Rattle.refusal.specs.Refusal.{Checked, most_places}
use Rattle.refusal.specs.declared.Refusal.{Refusal}
use Rattle.refusal.specs.declared.Refusal.TheVariants.{NoRoom}
use Rattle.tag.specs.Table.{width, encode, table_words}
use Rattle.tag.proofs.Table.{laid_full, length-words}
use Rattle.tag.proofs.Tags.{count-length}
use Rattle.tag.proofs.Decoding.{sound_ranges, sound_nested, words-formed, words_back}
use Rattle.std.specs.Prelude.{Ok, Err, Option, Some, None}
use Rattle.read.specs.declared.Span.{Span}
use Rattle.refusal.specs.Answer.{Answer, unless_bad}
use Rattle.read.specs.Reading.{read_ground, block_of, kept_tags, answer, after}
use Rattle.tag.specs.Table.{places_of}
use Rattle.refusal.specs.Refusal.{text_ground}
use Rattle.read.specs.Holds.{written, Holds}
use Rattle.read.proofs.Parts.{SpanIn}
use Rattle.read.proofs.Ranges.{block_sound}

refused_not_read : (n : ℕ) (r : Refusal) → Err r ≡ Ok n → ⊥
refused_not_read n r e = let z : ◌≡◌ {A = ℕ} 0 1 = cc in omega arith

-- the answer, from the grounds and the count
abbrev out : Checked → Option ℕ → Option ℕ → ℕ → ℕ → Answer
out c l f n p = unless_bad c (read_ground l f n p)

-- what stands behind a reading
read_out : (c : Checked) (l f : Option ℕ) (n m p : ℕ) → out c l f n p ≡ Ok m → (m ≡ n) × (n ≤ min p most_places)
unfolding read_ground
read_out (Err b) l f n m p e = absurd (refused_not_read m b e)
read_out (Ok _) (Some a) f n m p e = absurd (let z : ◌≡◌ {A = ℕ} 0 1 = cc in omega arith)
read_out (Ok _) None (Some a) n m p e = absurd (let z : ◌≡◌ {A = ℕ} 0 1 = cc in omega arith)
read_out (Ok _) None None n m p e = go (leb n (min p most_places)) refl e
  where
    go : (b : Bool) → leb n (min p most_places) ≡ b → pick b (Ok n) (Err (NoRoom n)) ≡ Ok m → (m ≡ n) × (n ≤ min p most_places)
    go true z e = (cc, leb-true n (min p most_places) z)
    go false z e = absurd (refused_not_read m (NoRoom n) e)

module _ (s : List ℕ) (x : Span) where
  abbrev kept : ℕ
  kept = kept_tags (block_of s x)

  is-out : (p : ℕ) → answer s x p ≡ out (text_ground s) (block_of s x).long (block_of s x).far kept p
  unfolding answer
  is-out p = refl

  -- what the records that a reading wrote are
  wrote : (t : List ℕ) (n : ℕ) → answer s x (places_of t) ≡ Ok n → (n ≡ kept) × (written n (after s x t) ≡ table_words (encode (block_of s x).tags))
  unfolding after
  wrote t n e =
      let rs = encode (block_of s x).tags in
      let c : kept ≡ length rs = count-length (block_of s x).tags in
      let h = read_out (text_ground s) (block_of s x).long (block_of s x).far kept n (places_of t) (sym (is-out (places_of t)) ∙ e) in
      let room : width * length (encode (block_of s x).tags) ≤ length t = omega (arith, h.1) in
      let m : width * n ≡ length (table_words rs) = ap (λ (k : ℕ). width * k) (h.0 ∙ c) ∙ sym (length-words rs) in
      (h.0, rw (e, laid_full rs t room, m) (take_at (table_words rs) (drop (width * length rs) t) (length (table_words rs)) refl))

  -- a reading that succeeds has no ground 1, 2 or 4
  read_good : (p n : ℕ) → answer s x p ≡ Ok n → (text_ground s ≡ Ok tt) × ((block_of s x).far ≡ None) × (kept ≤ most_places)
  unfolding answer read_ground
  read_good p n e = go (text_ground s) (block_of s x).long (block_of s x).far refl refl e
    where
      go : (c : Checked) (l f : Option ℕ) → text_ground s ≡ c → (block_of s x).far ≡ f → out c l f kept p ≡ Ok n → (text_ground s ≡ Ok tt) × ((block_of s x).far ≡ None) × (kept ≤ most_places)
      go (Err b) l f u v e = absurd (refused_not_read n b e)
      go (Ok _) (Some a) f u v e = absurd (let z : ◌≡◌ {A = ℕ} 0 1 = cc in omega arith)
      go (Ok _) None (Some a) u v e = absurd (let z : ◌≡◌ {A = ℕ} 0 1 = cc in omega arith)
      go (Ok _) None None u v e = (u, v, omega (arith, (read_out (Ok tt) None None kept n p e).1))

  -- 01: a table holds a block if the reading into it succeeded; `whole_in` and `braces_in` say that x lies inside the text for both calls
  pub holds : SpanIn s x → (t : List ℕ) (n : ℕ) → answer s x (places_of t) ≡ Ok n → Holds (written n (after s x t)) (block_of s x).tags
  holds inside t n e =
      let l = (block_of s x).tags in
      let g = read_good (places_of t) n e in
      let h = block_sound s x inside g.0 g.1 in
      let w = (wrote t n e).1 in
      record {
        words = w;
        formed = rw w (words-formed (encode l) (omega (arith, g.2, count-length l)) (sound_ranges h) (sound_nested h));
        tags = rw w (words_back h);
      }
