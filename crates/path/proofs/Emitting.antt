-- Commands written one behind the other.
use mathlib.Core.Path.{◌≡◌, refl, sym, ap, ◌∙◌}
use mathlib.Core.List.{List, [], ◌∷◌, ◌++◌}
use Prim.Native.Nat.{ℕ, ◌+◌, ◌-◌, ◌*◌, min}
use native.Mathlib.Omega.{arith}
use lib.ListN.{length, take, drop, length-append, length-drop, take-append-drop}
use lib.Seq.{length-take-le}
use Rattle.path.specs.declared.PathCommand.{PathCommand}
use Rattle.path.specs.declared.PathCommand.TheVariants.{MoveTo, LineTo, CubicTo, Close}
use Rattle.rows.specs.Rows.{laid_rows}
use Rattle.rows.proofs.Laws as rows
use Rattle.rows.proofs.Laws.{rest-is, rest_back}
use Rattle.path.specs.Path.{command_width, command_words, laid_path}
use Rattle.path.specs.Inner.{Emits}

wide : (c : PathCommand) → length (command_words c) ≡ command_width
wide (MoveTo p) = refl
wide (LineTo p) = refl
wide (CubicTo p q r) = refl
wide Close = refl

length-laid : (cs : List PathCommand) (t : List ℕ) → length (laid_path t cs) ≡ length t
length-laid cs t = rows.length-laid command_width command_words wide cs t

pub emits_none : (t : List ℕ) (n : ℕ) → Emits t n [] n t
unfolding laid_rows
emits_none t n = record { count = omega arith; path = sym (take-append-drop (min (command_width * n) (length t)) t) }

-- what is written into the part from k on, which is lent and holds u then
pub emits_one : (t u w : List ℕ) (n k : ℕ) (c : PathCommand) → k ≡ min (command_width * n) (length t) → w ≡ command_words c → u ≡ laid_rows command_width (λ r. r) (take (length t - k) (drop k t)) (w ∷ [])
    → Emits t n (c ∷ []) (n + 1) (take k t ++ (u ++ drop (length t - k) (drop k t)))
unfolding laid_rows
emits_one t u w n k c e f q =
    record {
      count = omega arith;
      path = rw (← e) (rest_back k t u (omega arith) ∙ ap (λ (l : List ℕ). take k t ++ l) (q ∙ ap (λ (l : List ℕ). laid_rows command_width (λ r. r) l (w ∷ [])) (rest-is k t) ∙ rw f));
    }

pub emits-length : {t u : List ℕ} {n m : ℕ} {cs : List PathCommand} → Emits t n cs m u → length u ≡ length t
emits-length {t} {u} {n} {m} {cs} e =
    let k = min (command_width * n) (length t) in
    rw e.path (simp (length-append, length-laid) (omega (arith, length-take-le (min (command_width * n) (length t)) t (omega arith), length-drop (min (command_width * n) (length t)) t)))

pub emits-join : {t u v : List ℕ} {n m k : ℕ} {a b : List PathCommand} → Emits t n a m u → Emits u m b k v → Emits t n (a ++ b) k v
emits-join {t} {u} {v} {n} {m} {k} {a} {b} e f =
    let x = min (command_width * n) (length t) in
    let y = min (command_width * (n + length a)) (length t) in
    let s = rows.laid_step command_width command_words wide t a b n x y refl refl in
    let l = emits-length e in
    record {
      count = omega (arith, e.count, f.count, length-append a b);
      path = f.path ∙ rw (l, e.count, e.path) (sym s);
    }

-- from the front on
pub emits-all : {t u : List ℕ} {m : ℕ} {cs : List PathCommand} → Emits t 0 cs m u → u ≡ laid_path t cs
emits-all {t} {u} {m} {cs} e =
    let z : min (command_width * 0) (length t) ≡ 0 = omega arith in
    e.path ∙ rw z
