-- The pass over the records of a table in which each is checked and the syllables are counted.
use mathlib.Core.Path.{◌≡◌, refl, sym, ap, ◌∙◌}
use mathlib.Core.List.{List}
use mathlib.Core.Bool.{Bool, true, false}
use Prim.Native.Nat.{ℕ, ◌+◌, ◌-◌, ◌≤◌, ◌<◌, min}
use native.Mathlib.Omega.{arith}
use lib.Dec.{eqb}
use lib.ListN.{length}
use borrow.Author.Tests.{ne_eqb}
use Rattle.refusal.specs.Refusal.{Checked, most_places}
use Rattle.std.specs.Prelude.{Ok, Err}
use Rattle.refusal.specs.declared.Refusal.{Refusal}
use Rattle.refusal.specs.declared.Refusal.TheVariants.{TableMalformed}
use Rattle.refusal.specs.Answer.{unless_bad}
use Rattle.tag.specs.declared.Record.{Record}
use Rattle.tag.specs.Tag.{most_depth}
use Rattle.tag.specs.Table.{places_of}
use Rattle.tag.specs.Range.{in_range}
use Rattle.tag.specs.WellFormed.{t_kind, holds, fault, excess, table_ground}
use Rattle.tag.proofs.Formed.{ground-formed}
use Rattle.table.specs.Inner.{record_in, part, Inside, of_kind, fault_of_t}
use Rattle.table.proofs.Slices.{length-records}
use Rattle.table.proofs.Faults.{none_left, kind_bad, kind-plain, top_bad, top_past}
use Rattle.table.proofs.Grounds.{table_found}
use Rattle.karaoke.specs.Inner.{karaoke_kind, beats_from, Plain, Passed, Run, counted}
use Rattle.karaoke.proofs.Beats.{from_end, from_karaoke, past-t, past-other}

module _ {ws : List ℕ} {end : ℕ} where
  pub none : {at : ℕ} → at ≤ end → Passed ws end at at 0
  none h = record { later = omega arith; most = h; ground = refl; count = omega arith }

  pub then : {from at next n m : ℕ} → Passed ws end from at n → Passed ws end at next m → Passed ws end from next (n + m)
  then p q = record { later = omega (arith, p.later, q.later); most = q.most; ground = q.ground ∙ p.ground; count = omega (arith, p.count, q.count) }

  -- with none that makes one
  on : {from at next n : ℕ} → Passed ws end from at n → Passed ws end at next 0 → Passed ws end from next n
  on {n = n} p q = let z : n + 0 ≡ n = omega arith in rw z at (then p q)

-- ---- one record

module _ (ws : List ℕ) (end : ℕ) where
  module _ (at : ℕ) (i : Inside ws 0 end) (h : at < end) {r : Record} (e : r ≡ record_in ws at) where
    room : (0 < end - at) × Inside ws at (end - at)
    room = (omega arith, omega arith)

    here : at < places_of ws
    here = omega arith

    less : end - at - 1 ≡ end - (at + 1)
    less = omega arith

    -- of the kind k, asked whether it fits it
    module _ (k : ℕ) (q : r.kind ≡ k) {v : Bool} (s : v ≡ in_range (of_kind k r)) where
      bad : v ≡ false → Err (TableMalformed at) ≡ fault most_depth at (part ws at (end - at))
      bad z = kind_bad ws most_depth at (end - at) room.1 room.0 r e k q v s z

      stands : v ≡ true → eqb k t_kind ≡ false → fault most_depth (at + 1) (part ws (at + 1) (end - (at + 1))) ≡ fault most_depth at (part ws at (end - at))
      stands z n = rw less at (kind-plain ws most_depth at (end - at) room.1 room.0 r e k q v s z n)

    -- a karaoke record
    pub beat : r.kind ≡ karaoke_kind → {v : Bool} → v ≡ in_range (of_kind karaoke_kind r) → v ≡ true → Passed ws end at (at + 1) 1
    beat q s z =
        let c = ap length (from_karaoke ws at here (ap (λ (x : Record). x.kind) (sym e) ∙ q)) in
        record { later = omega arith; most = omega arith; ground = stands karaoke_kind q s z refl; count = omega (arith, c) }

    pub unfit : r.kind ≡ karaoke_kind → {v : Bool} → v ≡ in_range (of_kind karaoke_kind r) → v ≡ false → in_range (record_in ws at) ≡ false
    unfit q s z = sym (s ∙ ap (λ (k : ℕ). in_range (of_kind k r)) (sym q) ∙ ap in_range e) ∙ z

    -- one that a run does not pass
    stuck : {next : ℕ} → Run ws end at next → next ≡ at → r.kind ≡ karaoke_kind → Err (TableMalformed at) ≡ fault most_depth at (part ws at (end - at))
    stuck u n q = let z = (rw n at u.stop) h (ap (λ (x : Record). x.kind) (sym e) ∙ q) in bad r.kind refl {v = false} (sym (ap in_range e ∙ z)) refl

    -- one that makes no span and holds no others
    other : Plain r.kind → {v : Bool} → v ≡ in_range r → v ≡ true → Passed ws end at (at + 1) 0
    other p s z =
        let c = ap length (past-other ws at here r e p.1 p.0) in
        record { later = omega arith; most = omega arith; ground = stands r.kind refl s z (ne_eqb r.kind t_kind p.1); count = omega (arith, c) }

    -- a T
    module _ (q : r.kind ≡ t_kind) {c : Checked} (f : c ≡ fault_of_t ws at (end - at - 1) r) where
      t_bad : {b : Refusal} → c ≡ Err b → Err b ≡ fault most_depth at (part ws at (end - at))
      t_bad {b} y = top_bad ws at (end - at) room.1 room.0 r e q c f b y

      around : c ≡ Ok tt → Passed ws end at (at + (1 + holds r)) 0
      around y =
          let a = top_past ws at (end - at) room.1 room.0 r e q c f y in
          let u : at + 1 + holds r ≡ at + (1 + holds r) = omega arith in
          let w : end - at - 1 - holds r ≡ end - (at + (1 + holds r)) = omega arith in
          let d = ap length (past-t ws at here r e q) in
          record { later = omega arith; most = omega (arith, a.0); ground = rw (u, w) at a.1; count = omega (arith, d) }

-- ---- all records

module _ {ws : List ℕ} {end : ℕ} (m : end ≡ min (places_of ws) most_places) {at n : ℕ} (p : Passed ws end 0 at n) where
  from_0 : fault most_depth at (part ws at (end - at)) ≡ fault most_depth 0 (part ws 0 end)
  from_0 = let z : end - 0 ≡ end = omega arith in rw z at p.ground

  refused : {b : Refusal} → Err b ≡ fault most_depth at (part ws at (end - at)) → Err b ≡ counted ws
  refused {b} y = ap (λ (c : Checked). unless_bad c (Ok (length (beats_from ws 0)))) (table_found ws end (Err b) m (y ∙ from_0))

  -- one record more
  module _ (h : at < end) {r : Record} (e : r ≡ record_in ws at) where
    inside : Inside ws 0 end
    inside = omega (arith, m)

    pub run_refused : {next : ℕ} → Run ws end at next → next ≡ at → r.kind ≡ karaoke_kind → Err (TableMalformed at) ≡ counted ws
    run_refused u n q = refused (stuck ws end at inside h e u n q)

    module _ {v : Bool} (s : v ≡ in_range r) where
      pub other-refused : v ≡ false → Err (TableMalformed at) ≡ counted ws
      other-refused z = refused (bad ws end at inside h e r.kind refl s z)

      pub other-next : Plain r.kind → v ≡ true → Passed ws end 0 (at + 1) n
      other-next q z = on p (other ws end at inside h e q s z)

    module _ (q : r.kind ≡ t_kind) {c : Checked} (f : c ≡ fault_of_t ws at (end - at - 1) r) where
      pub t-refused : {b : Refusal} → c ≡ Err b → Err b ≡ counted ws
      t-refused y = refused (t_bad ws end at inside h e q f y)

      pub t-next : c ≡ Ok tt → Passed ws end 0 (at + (1 + holds r)) n
      t-next y = on p (around ws end at inside h e q f y)

  -- behind the last
  module _ (h : end ≤ at) {c : Checked} (e : c ≡ excess ws) where
    ended : c ≡ table_ground ws
    ended = let z : end - at ≡ 0 = omega arith in e ∙ table_found ws end (Ok tt) m (sym (none_left ws most_depth at (end - at) z) ∙ from_0)

    pub end_refused : {b : Refusal} → c ≡ Err b → Err b ≡ counted ws
    end_refused y = ap (λ (x : Checked). unless_bad x (Ok (length (beats_from ws 0)))) (sym y ∙ ended)

    pub end-counted : c ≡ Ok tt → Ok n ≡ counted ws
    end-counted y =
        let g : Ok tt ≡ table_ground ws = sym y ∙ ended in
        let l = ap length (from_end ws at (omega (arith, m, h, (ground-formed ws (sym g)).few, length-records ws))) in
        let k : n ≡ length (beats_from ws 0) = omega (arith, l, p.count) in
        ap Ok k ∙ ap (λ (x : Checked). unless_bad x (Ok (length (beats_from ws 0)))) g
