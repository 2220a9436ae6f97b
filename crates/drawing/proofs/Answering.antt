-- From a run to the answer.
use mathlib.Core.Path.{◌≡◌, sym, ◌∙◌}
use mathlib.Core.List.{List, []}
use Prim.Native.Nat.{ℕ, ◌/◌, ◌≤◌, ◌<◌, min}
use native.Mathlib.Omega.{arith}
use lib.Ieee.{Float}
use lib.ListN.{length}
use borrow.Author.Tests.{lt-ltb, le-ltb, le-leb, lt-leb}
use Rattle.std.specs.Prelude.{Ok, Err}
use Rattle.refusal.specs.Refusal.{text_ground}
use Rattle.refusal.specs.Answer.{Answer}
use Rattle.refusal.specs.declared.Refusal.{Refusal}
use Rattle.refusal.specs.declared.Refusal.TheVariants.{ScaleTooLarge, NoRoom}
use Rattle.tokens.specs.Tokens.{from, tokens_ground}
use Rattle.pen.specs.Drawing.{scale_of}
use Rattle.drawing.specs.Answer.{ground, drawing, answer, after, Answered}
use Rattle.machine.specs.Inner.{Drawn, Traces}
use Rattle.tokens.specs.Inner.{Straight}
use Rattle.drawing.proofs.Weighing.{few_by_weight}
use Rattle.path.proofs.Emitting.{emits-all}

module _ (s t : List ℕ) (x : ℕ) where
  pub answered-text : {r : Refusal} → text_ground s ≡ Err r → Answered s x t (Err r) t
  unfolding ground answer after
  answered-text e = record { drawing = rw e; path = rw e }

  module _ (good : text_ground s ≡ Ok tt) where
    -- ground 3
    pub answered-refused : {r : Refusal} → tokens_ground (from s 0) ≡ Err r → Answered s x t (Err r) t
    unfolding ground answer after
    answered-refused e = record { drawing = rw (good, e); path = rw (good, e) }

    pub answered-large : 32 < x → tokens_ground (from s 0) ≡ Ok tt → Answered s x t (Err ScaleTooLarge) t
    unfolding ground answer after
    answered-large h e = record { drawing = rw (good, e, lt-ltb 32 x h); path = rw (good, e, lt-ltb 32 x h) }

    module _ (l : x ≤ 32) {k : Float} (f : k ≡ scale_of x) {m : ℕ} (p : m ≡ min (length t / 8) 1024) where
      is-good : tokens_ground (from s 0) ≡ Ok tt → ground s x ≡ Ok tt
      unfolding ground
      is-good g = rw (good, g, le-ltb 32 x l)

      -- how many commands a run has
      counted : {w v : List ℕ} {n : ℕ} → Drawn s k w n v → n ≡ length (drawing s x)
      counted z = z.emits.count ∙ rw f (omega arith)

      -- a run into the path itself, where there is room for them
      drawn : {n : ℕ} {v : List ℕ} → Drawn s k t n v → length (drawing s x) ≤ m → Answered s x t (Ok n) v
      unfolding answer after
      drawn z h =
          let g = is-good z.good in
          let y = le-leb (length (drawing s x)) (min (length t / 8) 1024) (rw p at h) in
          record { drawing = rw (g, y, counted z); path = rw (g, y) (emits-all z.emits ∙ rw f) }

      -- a run that ground 3 can not end
      run : (r : Answer) {v : List ℕ} → tokens_ground (from s 0) ≡ Ok tt → Traces s k t r v → length (drawing s x) ≤ m → Answered s x t r v
      run (Ok n) g z h = drawn z h
      run (Err e) g z h = absurd (let q : ◌≡◌ {A = ℕ} 0 1 = cc (sym g ∙ z.ground) in omega arith)

      -- one run, where nothing can stand against the drawing
      pub straight_drawn : (r : Answer) {v : List ℕ} → Straight s m → Traces s k t r v → Answered s x t r v
      straight_drawn r a z = run r a.good z (omega (arith, a.few, few_by_weight (scale_of x) (from s 0)))

      -- first into no path
      module _ {n : ℕ} {w : List ℕ} (z : Drawn s k [] n w) where
        pub dry_full : m < n → Answered s x t (Err (NoRoom n)) t
        unfolding answer after
        dry_full h =
            let c = counted z in
            let o : min (length t / 8) 1024 < length (drawing s x) = rw (← c, ← p) h in
            let g = is-good z.good in
            let y = lt-leb (length (drawing s x)) (min (length t / 8) 1024) o in
            record { drawing = rw (g, y, c); path = rw (g, y) }

        pub dry_drawn : (r : Answer) {v : List ℕ} → n ≤ m → Traces s k t r v → Answered s x t r v
        dry_drawn r h a = run r z.good a (rw (counted z) at h)
