-- A part of a text that is handed back as the caller's own slice: its bytes, and where they lie.
use Rattle.std.specs.Prelude.{◌≡◌, List, ℕ, ◌+◌, ◌-◌, ◌≤◌, length, take, drop}
use Rattle.std.specs.Borrow.{Bor}

-- the bytes of s from place a to place e
abbrev pub between : List ℕ → ℕ → ℕ → List ℕ
between s a e = take (e - a) (drop a s)

-- where place a of the text t lies in memory: a pointer is a block of memory and an offset in it, in bytes
abbrev pub address : Bor (List ℕ) → ℕ → ℕ × ℕ
address t a = (t.ref_ptr.0, t.ref_ptr.1 + a)

-- r is the part of the text t from place a to place e itself: it begins where place a of t lies, and has the e - a bytes from there. A copy is not
-- that, nor is a part at another place that has the same bytes
pub record IsPart (t : Bor (List ℕ)) (a e : ℕ) (r : Bor (List ℕ)) : Type 0 where
  pub place : r.ref_ptr ≡ address t a
  pub bytes : r.now ≡ between t.now a e
  pub order : a ≤ e
  pub high : e ≤ length t.now
