-- A table of rows, at any width.
use mathlib.Core.Path.{◌≡◌, refl, sym, ap, ◌∙◌}
use mathlib.Core.List.{List, [], ◌∷◌, ◌++◌, append_assoc, append-nil}
use mathlib.Core.Logic.{⊎_elim}
use lib.Seq.{take_all, drop-length, drop-drop, length-take-le, drop_at, take-append-add, drop-append-add}
use Prim.Native.Nat.{ℕ, ◌+◌, ◌-◌, ◌*◌, ◌≤◌, ◌<◌, min}
use native.Mathlib.Omega.{arith}
use lib.ListN.{length, take, drop, length-append, length-drop, take-append-drop}
use borrow.Author.Tests.{le-leb, lt-leb}
use Rattle.scan.proofs.Laws.{le_or_lt}
use Rattle.rows.specs.Rows.{laid_rows}

-- what is lent of t from a on is the rest of t, and behind it nothing comes back
pub rest-is : (a : ℕ) (t : List ℕ) → take (length t - a) (drop a t) ≡ drop a t
rest-is a t = take_all (length t - a) (drop a t) (omega (arith, length-drop a t))

pub rest_back : (a : ℕ) (t u : List ℕ) → a ≤ length t → take a t ++ (u ++ drop (length t - a) (drop a t)) ≡ take a t ++ u
rest_back a t u h =
    let z : a + (length t - a) ≡ length t = omega arith in
    simp (drop-drop, z, drop-length, append-nil)

module _ {A : Type 0} (w : ℕ) (words : A → List ℕ) where
  abbrev laid : List ℕ → List A → List ℕ
  laid t rs = laid_rows w words t rs

  pub laid_nil : (t : List ℕ) → laid t [] ≡ t
  unfolding laid_rows
  laid_nil t = refl

  pub laid_more : (t : List ℕ) (r : A) (rs : List A) → w ≤ length t → laid t (r ∷ rs) ≡ words r ++ laid (drop w t) rs
  unfolding laid_rows
  laid_more t r rs h = rw (le-leb w (length t) h)

  pub laid-short : (t : List ℕ) (rs : List A) → length t < w → laid t rs ≡ t
  unfolding laid_rows
  laid-short t [] h = refl
  laid-short t (r ∷ rs) h = rw (lt-leb w (length t) h)

  -- an empty table stays empty
  pub laid_none : 0 < w → (rs : List A) → laid [] rs ≡ []
  laid_none h rs = laid-short [] rs h

  -- each row is w words wide
  module _ (wide : (r : A) → length (words r) ≡ w) where
    pub length-laid : (rs : List A) (t : List ℕ) → length (laid t rs) ≡ length t
    length-laid [] t = rw (laid_nil t)
    length-laid (r ∷ rs) t =
        let i = length-laid rs (drop w t) in
        ⊎_elim
        (λ (h : w ≤ length t). rw (laid_more t r rs h) (simp length-append (omega (arith, i, wide r, length-drop w t))))
        (λ (h : length t < w). rw (laid-short t (r ∷ rs) h))
        (le_or_lt w (length t))

    pub laid-append : (a b : List A) (t : List ℕ) (k : ℕ) → k ≡ min (w * length a) (length t) → laid t (a ++ b) ≡ take k (laid t a) ++ laid (drop k (laid t a)) b
    laid-append [] b t k e =
        let z : k ≡ 0 = omega arith in
        rw (z, laid_nil t)
    laid-append (r ∷ a) b t k e =
        ⊎_elim
        (λ (h : w ≤ length t).
        let z : k ≡ length (words r) + (k - w) = omega (arith, wide r) in
        let y : k - w ≡ min (w * length a) (length (drop w t)) = omega (arith, length-drop w t) in
        let l = laid (drop w t) a in
        rw (laid_more t r (a ++ b) h, laid_more t r a h, laid-append a b (drop w t) (k - w) y)
        (sym (append_assoc (words r) (take (k - w) l) (laid (drop (k - w) l) b))
        ∙ sym (ap (λ (j : ℕ). take j (words r ++ l) ++ laid (drop j (words r ++ l)) b) z
        ∙ ap (λ (v : List ℕ). v ++ laid (drop (length (words r) + (k - w)) (words r ++ l)) b) (take-append-add (words r) l (k - w))
        ∙ ap (λ (v : List ℕ). (words r ++ take (k - w) l) ++ laid v b) (drop-append-add (words r) l (k - w)))))
        (λ (h : length t < w).
        let z : k ≡ length t = omega arith in
        let n : length (drop (length t) t) < w = simp drop-length (omega arith) in
        rw (laid-short t (r ∷ (a ++ b)) h, laid-short t (r ∷ a) h, z, laid-short (drop (length t) t) b n) (sym (take-append-drop (length t) t)))
        (le_or_lt w (length t))

    -- a row is put in front of others that were laid behind its place
    pub laid-front : 0 < w → (t : List ℕ) (r : A) (rs : List A) (k : ℕ) → k ≡ min w (length t) → laid (take k t ++ laid (drop k t) rs) (r ∷ []) ≡ laid t (r ∷ rs)
    laid-front o t r rs k e =
        ⊎_elim
        (λ (h : w ≤ length t).
        let z : k ≡ w = omega arith in
        let v = take w t ++ laid (drop w t) rs in
        let l : w ≤ length v = simp (length-append, length-laid) (omega (arith, length-take-le w t h)) in
        let d : drop w v ≡ laid (drop w t) rs = drop_at (take w t) (laid (drop w t) rs) w (length-take-le w t h) in
        rw (z, laid_more t r rs h) (laid_more v r [] l ∙ ap (λ (x : List ℕ). words r ++ x) (laid_nil (drop w v) ∙ d)))
        (λ (h : length t < w).
        let z : k ≡ length t = omega arith in
        let a : take k t ≡ t = take_all k t (omega arith) in
        let b : drop k t ≡ [] = ap (λ (n : ℕ). drop n t) z ∙ drop-length t in
        rw (a, b, laid_none o rs, append-nil t, laid-short t (r ∷ []) h, laid-short t (r ∷ rs) h))
        (le_or_lt w (length t))

    -- rows g more are in the table, which has n
    pub laid_step : (t : List ℕ) (g rs : List A) (n m m' : ℕ) → m ≡ min (w * n) (length t) → m' ≡ min (w * (n + length g)) (length t)
        → take m t ++ laid (drop m t) (g ++ rs) ≡ take m' (take m t ++ laid (drop m t) g) ++ laid (drop m' (take m t ++ laid (drop m t) g)) rs
    laid_step t g rs n m m' e e' =
        let la : length (take m t) ≡ m = length-take-le m t (omega arith) in
        let z : m' ≡ length (take m t) + (m' - m) = omega arith in
        let y : m' - m ≡ min (w * length g) (length (drop m t)) = omega (arith, length-drop m t) in
        let tk = take-append-add (take m t) (laid (drop m t) g) (m' - m) in
        let dr = drop-append-add (take m t) (laid (drop m t) g) (m' - m) in
        ap (λ (l : List ℕ). take m t ++ l) (laid-append g rs (drop m t) (m' - m) y)
        ∙ sym (append_assoc (take m t) (take (m' - m) (laid (drop m t) g)) (laid (drop (m' - m) (laid (drop m t) g)) rs))
        ∙ sym (ap (λ (j : ℕ). take j (take m t ++ laid (drop m t) g) ++ laid (drop j (take m t ++ laid (drop m t) g)) rs) z
        ∙ ap (λ (l : List ℕ). l ++ laid (drop (length (take m t) + (m' - m)) (take m t ++ laid (drop m t) g)) rs) tk
        ∙ ap (λ (l : List ℕ). (take m t ++ take (m' - m) (laid (drop m t) g)) ++ laid l rs) dr)
