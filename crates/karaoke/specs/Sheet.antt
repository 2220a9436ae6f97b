-- Worked examples, by computation: 01's sheet, sums at the greatest number, and progress.
use Rattle.std.specs.Prelude.{◌≡◌, refl, List, [], ◌∷◌, map, ℕ, ℤ, pos, negsuc}
use Rattle.std.specs.Float.Ieee.{to_bits}
use Rattle.float.specs.Float.{one}
use Rattle.rows.specs.Rows.{bits, laid_rows}
use Rattle.tag.specs.declared.KaraokeKind.{KaraokeKind}
use Rattle.tag.specs.declared.KaraokeKind.TheVariants.{Fill, Sweep, Outline}
use Rattle.tag.specs.Tag.{absent, AnimatedTag, Fs, Karaoke, cs, T, Tags, none, and}
use Rattle.tag.specs.Table.{encode, table_words}
use Rattle.tag.specs.Range.{rows, in_range}
use Rattle.tag.specs.WellFormed.{records_to, fault_in, excess, table_ground_to}
use Rattle.tag.specs.Decode.{decoders, decode_one, decode_in}
use Rattle.refusal.specs.Answer.{number_in, ground_of, answer_value}
use Rattle.karaoke.specs.declared.KaraokeSpan.{KaraokeSpan}
use Rattle.karaoke.specs.Karaoke.{ms, karaoke_spans}
use Rattle.karaoke.specs.Answer.{answer, words_after_to, words_after}
use Rattle.karaoke.specs.Progress as Progress
use Rattle.karaoke.specs.Progress.{progressed, progress_of}

abbrev span : KaraokeKind → ℕ → ℕ → KaraokeSpan
span k a b = record { kind = k; start_ms = ms a; end_ms = ms b }

abbrev tags : List AnimatedTag → Tags
tags [] = none
tags (x ∷ l) = and x (tags l)

-- \t with tags inside it, over the whole line
abbrev in_t : List AnimatedTag → AnimatedTag
in_t l = T absent one (tags l)

-- 01's sheet: `\k50\kf25` and `\t(\k10)`
sheet : karaoke_spans (tags (Karaoke Fill (cs 50) ∷ Karaoke Sweep (cs 25) ∷ [])) ≡ span Fill 0 500 ∷ span Sweep 500 750 ∷ []
unfolding karaoke_spans
sheet = refl

sheet-t : karaoke_spans (tags (in_t (Karaoke Fill (cs 10) ∷ []) ∷ [])) ≡ []
unfolding karaoke_spans
sheet-t = refl

-- `\k10\t(\k20\t(\k30))\fs20\ko0\k5`: what is inside a \t is passed over, a syllable of no length is a span
around-t : karaoke_spans (tags (Karaoke Fill (cs 10) ∷ in_t (Karaoke Fill (cs 20) ∷ in_t (Karaoke Fill (cs 30) ∷ []) ∷ []) ∷ Fs one ∷ Karaoke Outline (cs 0) ∷ Karaoke Fill (cs 5) ∷ []))
    ≡ span Fill 0 100 ∷ span Outline 100 100 ∷ span Fill 100 150 ∷ []
unfolding karaoke_spans
around-t = refl

-- `\k429496729\k429496730\k1`: centiseconds and sums end at 4,294,967,295
most : karaoke_spans (tags (Karaoke Fill (cs 429496729) ∷ Karaoke Sweep (cs 429496730) ∷ Karaoke Fill (cs 1) ∷ [])) ≡ span Fill 0 4294967290 ∷ span Sweep 4294967290 4294967295 ∷ span Fill 4294967295 4294967295 ∷ []
unfolding karaoke_spans
most = refl

-- `\k50\kf25` in one place: ground 9, count 2, and the words as they were; in three places: two, and the words behind them as they were
abbrev table : List ℕ
table = table_words (encode (tags (Karaoke Fill (cs 50) ∷ Karaoke Sweep (cs 25) ∷ [])))

abbrev nines : List ℕ
nines = 9 ∷ 9 ∷ 9 ∷ 9 ∷ 9 ∷ []

small : (number_in (ground_of (answer table 1)) ∷ answer_value (answer table 1) ∷ words_after table nines) ≡ 9 ∷ 2 ∷ nines
unfolding words_after_to karaoke_spans laid_rows table_ground_to fault_in excess records_to in_range rows decode_in decode_one decoders table_words encode
small = refl

large : (number_in (ground_of (answer table 3)) ∷ answer_value (answer table 3) ∷ words_after table (9 ∷ 9 ∷ 9 ∷ nines)) ≡ 0 ∷ 2 ∷ 0 ∷ 0 ∷ 500 ∷ 1 ∷ 500 ∷ 750 ∷ 9 ∷ 9 ∷ []
unfolding words_after_to karaoke_spans laid_rows table_ground_to fault_in excess records_to in_range rows decode_in decode_one decoders table_words encode
large = refl

-- progress, as bits, at some instants
abbrev progresses : KaraokeSpan → List ℤ → List ℕ
progresses s ts = map (λ t. bits (progress_of (progressed s t))) ts

-- 500 to 750: 0 up to 500, 0.5 at 625, 1 from 750 on
half : progresses (span Sweep 500 750) (negsuc 4 ∷ pos 0 ∷ pos 500 ∷ pos 625 ∷ pos 750 ∷ pos 751 ∷ []) ≡ 0 ∷ 0 ∷ 0 ∷ 0x3F000000 ∷ 0x3F800000 ∷ 0x3F800000 ∷ []
unfolding progressed to_bits
half = refl

-- an end that does not come after the start
empty : progresses (span Fill 500 500) (pos 500 ∷ pos 501 ∷ []) ≡ 0 ∷ 0x3F800000 ∷ []
unfolding progressed to_bits
empty = refl

-- both numbers are rounded first: 16,777,217 counts as 16,777,216 and 16,777,219 as 16,777,220, and the quotient is not 0x3F7FFFFE
rounded : progresses (span Fill 0 16777219) (pos 16777217 ∷ []) ≡ 0x3F7FFFFC ∷ []
unfolding progressed to_bits
rounded = refl

-- starts and ends above 2,147,483,647 are whole numbers like any other
above : progresses (span Fill 2147483648 2147483658) (pos 0 ∷ []) ≡ 0 ∷ []
unfolding progressed to_bits
above = refl

-- ground 6, and beside it 0
far : (number_in (Progress.ground_of (progressed (span Fill 0 500) (pos 1000000001))) ∷ progresses (span Fill 0 500) (pos 1000000001 ∷ pos 1000000000 ∷ [])) ≡ 6 ∷ 0 ∷ 0x3F800000 ∷ []
unfolding progressed to_bits
far = refl
