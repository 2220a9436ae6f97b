-- Worked examples, by computation: 02, N8, on tables, in a line of 1,000 milliseconds.
use Rattle.std.specs.Prelude.{◌≡◌, refl, List, [], ◌∷◌, map, ℕ, ◌<◌, pos}
use Rattle.std.proofs.Common.{arith, lit<}
use Rattle.std.specs.Float.{binary32}
use Rattle.std.specs.Float.Ieee.{to_bits}
use Rattle.float.specs.Float.{in_reach_lem, of_word}
use Rattle.tag.specs.declared.Record.{Record}
use Rattle.tag.specs.Tag.{Fad, Fade}
use Rattle.tag.specs.Table.{rec, table_words, head}
use Rattle.tag.specs.WellFormed.{all, more, records_to, fault_in, excess, table_ground_to}
use Rattle.tag.specs.Range.{rows, in_range}
use Rattle.tag.specs.Decode.{decoders, decode_one, decode_in}
use Rattle.table.specs.Ground.{time_ground, call_ground_to}
use Rattle.state.specs.Apply.{apply_own, apply_tags, evaluate_at}
use Rattle.evaluate.specs.Evaluate.{evaluated_to, evaluated, opacity_of, NoFades}

-- ---- the kinds of \fad and \fade

kinds : map (λ x. (head x).kind) (Fad 200 300 ∷ Fade 255 0 128 (pos 0) (pos 1) (pos 2) (pos 3) ∷ []) ≡ 1 ∷ 2 ∷ []
kinds = refl

-- ---- records

-- \fad(200,300)
abbrev fad : Record
fad = rec 1 200 300 0 0 0 0 0

-- \fade(255,0,128,0,500,600,1000)
abbrev fade : Record
fade = rec 2 255 0 128 0 500 600 1000

-- \t(0,1000,..) with so many records inside
abbrev t : ℕ → Record
t n = rec 49 1 0 1000 0x3F800000 n 0 0

-- \t(0,1000,2,..) with one
abbrev squared : Record
squared = rec 49 1 0 1000 0x40000000 1 0 0

-- \r and \fs20
abbrev reset : Record
reset = rec 41 0 0 0 0 0 0 0

abbrev size : Record
size = rec 10 0x41A00000 0 0 0 0 0 0

-- ---- what their tables give

-- the bits of the opacity at an instant
abbrev opacity_at : List Record → ℕ → ℕ
opacity_at l n = to_bits binary32 (opacity_of (evaluated (table_words l) (pos n) (pos 1000)))

pub opacities : (
    -- \t(0,1000,\fad(200,300)): down from 1, at 100 to 0.95; with an acceleration of 2 to 0.995
    map (opacity_at (t 1 ∷ fad ∷ [])) (0 ∷ 100 ∷ 1000 ∷ []) ∷
    map (opacity_at (squared ∷ fad ∷ [])) (0 ∷ 100 ∷ 1000 ∷ []) ∷
    -- \fad(200,300)\t(0,1000,\r): up to 1, at 100 from 0.5 to 0.55
    map (opacity_at (fad ∷ t 1 ∷ reset ∷ [])) (0 ∷ 100 ∷ 1000 ∷ []) ∷
    -- \t(0,1000,\t(0,1000,\fade(255,0,128,0,500,600,1000)))
    map (opacity_at (t 2 ∷ t 1 ∷ fade ∷ [])) (0 ∷ 250 ∷ 500 ∷ 1000 ∷ []) ∷
    -- \fs20\t(0,1000,\r\fs20): neither stands
    map (opacity_at (size ∷ t 2 ∷ reset ∷ size ∷ [])) (0 ∷ 500 ∷ 1000 ∷ []) ∷
    -- beside a refusal, an instant out of range and a record at fault
    map (opacity_at (fad ∷ [])) (1000000001 ∷ []) ∷
    map (opacity_at (rec 1 0 0 1 0 0 0 0 ∷ [])) (0 ∷ []) ∷
    [])
    ≡ (
    (0x3F800000 ∷ 0x3F733333 ∷ 0 ∷ []) ∷
    (0x3F800000 ∷ 0x3F7EB852 ∷ 0 ∷ []) ∷
    (0 ∷ 0x3F0CCCCD ∷ 0x3F800000 ∷ []) ∷
    (0x3F800000 ∷ 0x3F780808 ∷ 0x3F800000 ∷ 0x3EFEFEFE ∷ []) ∷
    (0x3F800000 ∷ 0x3F800000 ∷ 0x3F800000 ∷ []) ∷
    (0x3F800000 ∷ []) ∷
    (0x3F800000 ∷ []) ∷
    [])
unfolding table_words records_to rows in_range in_reach_lem fault_in excess table_ground_to time_ground call_ground_to of_word decoders decode_one decode_in apply_own apply_tags evaluate_at evaluated_to to_bits
opacities = refl

-- ---- which tables have neither

none-stands : NoFades (table_words (size ∷ t 2 ∷ reset ∷ size ∷ []))
unfolding table_words records_to
none-stands = more (other 10 (lit< tt)) (more (other 49 (lit< tt)) (more (other 41 (lit< tt)) (more (other 10 (lit< tt)) all)))
  where
    other : (k : ℕ) → 2 < k → (k ≡ 1 → ⊥) × (k ≡ 2 → ⊥)
    other k h = (λ (e : k ≡ 1). omega arith, λ (e : k ≡ 2). omega arith)

-- one inside a \t stands all the same
one-stands : NoFades (table_words (size ∷ t 1 ∷ fade ∷ [])) → ⊥
unfolding table_words records_to
one-stands (more a (more b (more c d))) = c.1 refl
