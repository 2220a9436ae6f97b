-- 01, Karaoke: the spans of the karaoke tags, over the tags, as `karaoke_spans` of the Rust has them.
use Rattle.std.specs.Prelude.{List, [], ◌∷◌, ◌++◌, ℕ, ◌+◌, ◌*◌, ◌≤◌, min}
use Rattle.tag.specs.declared.KaraokeKind.{KaraokeKind}
use Rattle.tag.specs.declared.Cs.{Cs}
use Rattle.tag.specs.Tag.{AnimatedTag, Fad, Fade, Pos, Move, Frz, Blur, Fscx, Fscy, Color1, Fs, ClipRect, ClipDrawing, Frx, Fry, Org, Bord, Xbord, Ybord, Shad, Xshad, Yshad, Be, Fax, Fay, IClipRect, IClipDrawing, Color2, Color3, Color4, Alpha, Alpha1, Alpha2, Alpha3, Alpha4, Fsp, Q, An, A, Fn, Fe, R, B, I, U, S, Karaoke, Pbo, P, T, Tags, fold_tags}
use Rattle.karaoke.specs.declared.Ms.{Ms}
use Rattle.karaoke.specs.declared.KaraokeSpan.{KaraokeSpan}

-- ---- milliseconds: made of centiseconds, or by a sum, and in no other way

abbrev pub ms : ℕ → Ms
ms n = record { 0 = n }

-- the greatest of a u32
abbrev pub most_ms : ℕ
most_ms = 4294967295

-- `cs.saturating_mul(10)`
abbrev pub in_ms : Cs → Ms
in_ms c = ms (min (c.0 * 10) most_ms)

-- `saturating_add`
abbrev pub plus : Ms → Ms → Ms
plus a b = ms (min (a.0 + b.0) most_ms)

-- ---- syllables

-- what a karaoke tag says: the kind of its beat, and how long it lasts
pub record Syllable : Type 0 where
  pub kind : KaraokeKind
  pub lasts : Cs

-- the syllable that a tag makes, if it is a karaoke tag
abbrev pub syllable : AnimatedTag → List Syllable
syllable (Fad t1 t2) = []
syllable (Fade a1 a2 a3 t1 t2 t3 t4) = []
syllable (Pos x y) = []
syllable (Move x1 y1 x2 y2 x) = []
syllable (Frz x) = []
syllable (Blur x) = []
syllable (Fscx x) = []
syllable (Fscy x) = []
syllable (Color1 c) = []
syllable (Fs x) = []
syllable (ClipRect x1 y1 x2 y2) = []
syllable (ClipDrawing p) = []
syllable (Frx x) = []
syllable (Fry x) = []
syllable (Org x y) = []
syllable (Bord x) = []
syllable (Xbord x) = []
syllable (Ybord x) = []
syllable (Shad x) = []
syllable (Xshad x) = []
syllable (Yshad x) = []
syllable (Be n) = []
syllable (Fax x) = []
syllable (Fay x) = []
syllable (IClipRect x1 y1 x2 y2) = []
syllable (IClipDrawing p) = []
syllable (Color2 c) = []
syllable (Color3 c) = []
syllable (Color4 c) = []
syllable (Alpha a) = []
syllable (Alpha1 a) = []
syllable (Alpha2 a) = []
syllable (Alpha3 a) = []
syllable (Alpha4 a) = []
syllable (Fsp x) = []
syllable (Q n) = []
syllable (An n) = []
syllable (A n) = []
syllable (Fn p q) = []
syllable (Fe n) = []
syllable (R r) = []
syllable (B n) = []
syllable (I b) = []
syllable (U b) = []
syllable (S b) = []
syllable (Karaoke k c) = record { kind = k; lasts = c } ∷ []
syllable (Pbo z) = []
syllable (P n) = []
syllable (T x accel l) = []

-- "Only tags outside \t make spans": what the tags inside one give is left out
unfoldable pub syllables : Tags → List Syllable
syllables l = fold_tags (λ x inner. syllable x) [] ◌++◌ l

-- ---- spans

-- the span of a syllable that begins at m
abbrev pub span_from : Ms → Syllable → KaraokeSpan
span_from m s = record { kind = s.kind; start_ms = m; end_ms = plus m (in_ms s.lasts) }

-- each begins where the one before it ends
unfoldable pub spans_from : Ms → List Syllable → List KaraokeSpan
spans_from m [] = []
spans_from m (s ∷ l) = let more = spans_from (plus m (in_ms s.lasts)) l in span_from m s ∷ more

-- the first at 0
unfoldable pub karaoke_spans : Tags → List KaraokeSpan
unfolding spans_from syllables
karaoke_spans l = spans_from (ms 0) (syllables l)

-- ---- what holds of them

-- The first begins at m, each where the one before it ends, and none runs backwards: so they stand in order.
pub data Contiguous : Ms → List KaraokeSpan → Type 0 where
  over : {m : Ms} → Contiguous m []
  next : {s : KaraokeSpan} {l : List KaraokeSpan} → s.start_ms.0 ≤ s.end_ms.0 → Contiguous s.end_ms l → Contiguous s.start_ms (s ∷ l)
