-- The spans of a table, record by record, in the code's words: nothing here is a promise to a caller.
use Rattle.std.specs.Prelude.{◌≡◌, List, [], ◌∷◌, false, ℕ, zero, suc, ◌+◌, ◌-◌, ◌≤◌, ◌<◌, eqb, length, drop, Option, MatchOption, Ok}
use Rattle.scan.specs.Scan.{pick}
use Rattle.refusal.specs.Answer.{Answer, unless_bad}
use Rattle.tag.specs.declared.Record.{Record}
use Rattle.tag.specs.Tag.{cs, most_depth}
use Rattle.tag.specs.Table.{places_of}
use Rattle.tag.specs.Range.{in_range}
use Rattle.tag.specs.WellFormed.{records_of, t_kind, holds, fault, table_ground}
use Rattle.tag.specs.Decode.{beat_of}
use Rattle.table.specs.Inner.{record_in, part}
use Rattle.karaoke.specs.declared.KaraokeSpan.{KaraokeSpan}
use Rattle.karaoke.specs.Karaoke.{ms, Syllable, spans_from}

abbrev pub karaoke_kind : ℕ
karaoke_kind = 46

-- the syllable of a karaoke record
abbrev pub beat : Record → Syllable
beat r = record { kind = beat_of r.w1; lasts = cs r.w2 }

-- the syllables of records, of which the first k are inside a T
unfoldable pub beats : ℕ → List Record → List Syllable
beats k [] = []
beats (suc k) (r ∷ l) = beats k l
beats zero (r ∷ l) =
    let inner = beats (holds r) l in
    let more = beats zero l in
    pick (eqb r.kind t_kind) inner (pick (eqb r.kind karaoke_kind) (beat r ∷ more) more)

-- those from the record with the index at on
unfoldable pub beats_from : List ℕ → ℕ → List Syllable
unfolding beats
beats_from ws at = beats 0 (drop at (records_of ws))

-- a karaoke record from which on the syllables are the same: the first
pub record Found (ws : List ℕ) (from at : ℕ) : Type 0 where
  pub same : beats_from ws at ≡ beats_from ws from
  pub there : at < places_of ws
  pub is : (record_in ws at).kind ≡ karaoke_kind

-- ---- ground 5 and the syllables in one pass

-- the kind of a record that holds no others and makes no span
abbrev pub Plain : ℕ → Type 0
Plain k = (k ≡ karaoke_kind → ⊥) × (k ≡ t_kind → ⊥)

-- of the records up to end, those from `from` to at are not at fault, and n of them make syllables
pub record Passed (ws : List ℕ) (end from at n : ℕ) : Type 0 where
  pub later : from + n ≤ at
  pub most : at ≤ end
  pub ground : fault most_depth at (part ws at (end - at)) ≡ fault most_depth from (part ws from (end - from))
  pub count : n + length (beats_from ws at) ≡ length (beats_from ws from)

-- those from `from` to at all make one, and the next does not, or is at fault
pub record Run (ws : List ℕ) (end from at : ℕ) : Type 0 where
  pub passed : Passed ws end from at (at - from)
  pub stop : at < end → (record_in ws at).kind ≡ karaoke_kind → in_range (record_in ws at) ≡ false

-- ground 5, or how many syllables there are
abbrev pub counted : List ℕ → Answer
counted ws = unless_bad (table_ground ws) (Ok (length (beats_from ws 0)))

-- ---- spans

-- those of a table
abbrev pub all_spans : List ℕ → List KaraokeSpan
all_spans ws = spans_from (ms 0) (beats_from ws 0)
