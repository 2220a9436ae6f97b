-- 01, Marks: whole milliseconds at which the state may change. They are kept as intervals: no list of milliseconds is built.
use Rattle.std.specs.Prelude.{ℕ, ◌-◌, List, [], ◌∷◌, ◌++◌, ltb, ℤ, pos, ◌≤ℤ◌, ◌<ℤ◌, Option, Some, None}
use Rattle.std.proofs.Math.IntN.{suc_ℤ}
use Rattle.std.specs.Int.Signed.{le_z}
use Rattle.scan.specs.Scan.{pick}
use Rattle.tag.specs.Tag.{Times, AnimatedTag, Fad, Fade, Pos, Move, Frz, Blur, Fscx, Fscy, Color1, Fs, ClipRect, ClipDrawing, Frx, Fry, Org, Bord, Xbord, Ybord, Shad, Xshad, Yshad, Be, Fax, Fay, IClipRect, IClipDrawing, Color2, Color3, Color4, Alpha, Alpha1, Alpha2, Alpha3, Alpha4, Fsp, Q, An, A, Fn, Fe, R, B, I, U, S, Karaoke, Pbo, P, T, Tags, fold_tags}
use Rattle.state.specs.Mix.{start_of, end_of}
use Rattle.state.specs.Apply.{from_zero_lem}

-- the marks from the first to the last, none where the last comes before the first
pub record Interval : Type 0 where
  pub begins : ℤ
  pub ends : ℤ

-- "A ramp from a to b with a < b has marks a+1 to b"
abbrev pub ramp : ℤ → ℤ → Interval
ramp a b = record { begins = suc_ℤ a; ends = b }

abbrev pub single : ℤ → Interval
single a = record { begins = a; ends = a }

-- Move and T: "start 0 and end the duration if absent; a ramp start to end, or one mark at the end if end ≤ start"
abbrev pub way : Times → ℤ → Interval
way x dur = pick (le_z (end_of x dur) (start_of x)) (single (end_of x dur)) (ramp (start_of x) (end_of x dur))

-- Fade: "the ramp t1 to t2, or one mark t1 if t1 ≥ t2; the same with t3, t4"
abbrev pub stage : ℤ → ℤ → Interval
stage a b = pick (le_z b a) (single a) (ramp a b)

-- Fad: "if t2 > d the marks 0 and 1, whether or not the state moves there"
abbrev pub early : ℕ → ℕ → List Interval
early t2 d = pick (ltb d t2) (record { begins = pos 0; ends = pos 1 } ∷ []) []

-- a tag's own marks in a line of dur milliseconds; those inside a T are not its own
abbrev pub own_marks : ℤ → AnimatedTag → List Interval
-- "with d = max(duration, 0): if t1 > 0 the ramp 0 to t1; .. if t2 > 0 the ramp max(d − t2, 0) to d": both are empty at 0
own_marks dur (Fad t1 t2) = ramp (pos 0) (pos t1) ∷ ramp (pos (from_zero_lem dur - t2)) (pos (from_zero_lem dur)) ∷ early t2 (from_zero_lem dur)
own_marks dur (Fade a1 a2 a3 t1 t2 t3 t4) = stage t1 t2 ∷ stage t3 t4 ∷ []
own_marks dur (Pos x y) = []
own_marks dur (Move x1 y1 x2 y2 x) = way x dur ∷ []
own_marks dur (Frz x) = []
own_marks dur (Blur x) = []
own_marks dur (Fscx x) = []
own_marks dur (Fscy x) = []
own_marks dur (Color1 c) = []
own_marks dur (Fs x) = []
own_marks dur (ClipRect x1 y1 x2 y2) = []
own_marks dur (ClipDrawing p) = []
own_marks dur (Frx x) = []
own_marks dur (Fry x) = []
own_marks dur (Org x y) = []
own_marks dur (Bord x) = []
own_marks dur (Xbord x) = []
own_marks dur (Ybord x) = []
own_marks dur (Shad x) = []
own_marks dur (Xshad x) = []
own_marks dur (Yshad x) = []
own_marks dur (Be n) = []
own_marks dur (Fax x) = []
own_marks dur (Fay x) = []
own_marks dur (IClipRect x1 y1 x2 y2) = []
own_marks dur (IClipDrawing p) = []
own_marks dur (Color2 c) = []
own_marks dur (Color3 c) = []
own_marks dur (Color4 c) = []
own_marks dur (Alpha a) = []
own_marks dur (Alpha1 a) = []
own_marks dur (Alpha2 a) = []
own_marks dur (Alpha3 a) = []
own_marks dur (Alpha4 a) = []
own_marks dur (Fsp x) = []
own_marks dur (Q n) = []
own_marks dur (An n) = []
own_marks dur (A n) = []
own_marks dur (Fn p q) = []
own_marks dur (Fe n) = []
own_marks dur (R r) = []
own_marks dur (B n) = []
own_marks dur (I b) = []
own_marks dur (U b) = []
own_marks dur (S b) = []
own_marks dur (Karaoke k n) = []
own_marks dur (Pbo z) = []
own_marks dur (P n) = []
own_marks dur (T x accel l) = way x dur ∷ []

-- "T adds the marks of all inside": the marks of all tags, at every depth
unfoldable pub marks : ℤ → Tags → List Interval
marks dur l = fold_tags (λ x inner. own_marks dur x ++ inner) [] ◌++◌ l

-- ---- a mark

pub record Within (i : Interval) (a : ℤ) : Type 0 where
  pub from : i.begins ≤ℤ a
  pub to : a ≤ℤ i.ends

pub data IsMark : List Interval → ℤ → Type 0 where
  here : {i : Interval} {l : List Interval} {a : ℤ} → Within i a → IsMark (i ∷ l) a
  later : {i : Interval} {l : List Interval} {a : ℤ} → IsMark l a → IsMark (i ∷ l) a

-- no mark after t and up to u
abbrev pub NoMark : List Interval → ℤ → ℤ → Type 0
NoMark l t u = (a : ℤ) → IsMark l a → t <ℤ a → a ≤ℤ u → ⊥

-- ---- the earliest later one

-- of an interval: where it begins, or the millisecond after t where it has begun
abbrev pub after_in : ℤ → Interval → Option ℤ
after_in t i = pick (le_z i.begins t) (pick (le_z i.ends t) None (Some (suc_ℤ t))) (pick (le_z i.begins i.ends) (Some i.begins) None)

abbrev pub least : Option ℤ → Option ℤ → Option ℤ
least None m = m
least (Some a) None = Some a
least (Some a) (Some b) = pick (le_z a b) (Some a) (Some b)

unfoldable pub first_after : ℤ → List Interval → Option ℤ
first_after t [] = None
first_after t (i ∷ l) = let m = first_after t l in least (after_in t i) m

unfoldable pub next_mark : ℤ → ℤ → Tags → Option ℤ
unfolding first_after marks
next_mark t dur l = first_after t (marks dur l)

-- what "the earliest later mark" means of an answer
pub data Earliest (l : List Interval) (t : ℤ) : Option ℤ → Type 0 where
  soonest : {a : ℤ} → IsMark l a → t <ℤ a → ((b : ℤ) → IsMark l b → t <ℤ b → a ≤ℤ b) → Earliest l t (Some a)
  never : ((b : ℤ) → IsMark l b → t <ℤ b → ⊥) → Earliest l t None
