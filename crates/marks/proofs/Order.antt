-- The order of whole numbers: its tests and what they say, totality, transitivity, the next number.
use mathlib.Core.Path.{◌≡◌, refl, sym, ap, subst, ◌∙◌}
use mathlib.Core.Bool.{Bool, true, false, true≢false}
use mathlib.Core.Logic.{◌⊎◌, inl, inr, ⊎_elim}
use Prim.Native.Nat.{zero, suc}
use native.Mathlib.Omega.{arith}
use lib.Dec.{T, leb→le, le→leb, ltb→lt, lt→ltb}
use lib.IntN.{ℤ, pos, negsuc, suc_ℤ}
use lib.Signed.{le_z, lt_z, ◌≤ℤ◌, ◌<ℤ◌, <ℤ-≤ℤ_trans, clash_ℤ}
use borrow.Author.Tests.{lt-ltb, leb-false}

-- ---- the tests

holds : {t : Bool} → t ≡ true → T t
holds e = subst T (sym e) tt

is_true : (t : Bool) → T t → t ≡ true
is_true true h = refl
is_true false h = absurd h

pub le_z_true : {a b : ℤ} → le_z a b ≡ true → a ≤ℤ b
le_z_true e = record { le = holds e }

pub lt_z_true : {a b : ℤ} → lt_z a b ≡ true → a <ℤ b
lt_z_true e = record { lt = holds e }

pub le_le_z : {a b : ℤ} → a ≤ℤ b → le_z a b ≡ true
le_le_z {a} {b} h = is_true (le_z a b) h.le

pub lt_lt_z : {a b : ℤ} → a <ℤ b → lt_z a b ≡ true
lt_lt_z {a} {b} h = is_true (lt_z a b) h.lt

-- the one test fails where the other holds
pub other : (a b : ℤ) → le_z a b ≡ false → lt_z b a ≡ true
other (pos a) (pos b) e = lt-ltb b a (leb-false a b e)
other (pos a) (negsuc b) e = refl
other (negsuc a) (pos b) e = absurd (true≢false e)
other (negsuc a) (negsuc b) e = lt-ltb a b (leb-false b a e)

pub le_z_false : {a b : ℤ} → le_z a b ≡ false → b <ℤ a
le_z_false {a} {b} e = lt_z_true (other a b e)

-- ---- total

pub total : (a b : ℤ) → (a ≤ℤ b) ⊎ (b <ℤ a)
total a b = go (le_z a b) refl
  where
    go : (t : Bool) → le_z a b ≡ t → (a ≤ℤ b) ⊎ (b <ℤ a)
    go true e = inl (le_z_true e)
    go false e = inr (le_z_false e)

is_false : (t : Bool) → (t ≡ true → ⊥) → t ≡ false
is_false true h = absurd (h refl)
is_false false h = refl

pub lt_le_z : {a b : ℤ} → b <ℤ a → le_z a b ≡ false
lt_le_z {a} {b} h = is_false (le_z a b) (λ e. clash_ℤ h (le_z_true e))

pub le_lt_z : {a b : ℤ} → b ≤ℤ a → lt_z a b ≡ false
le_lt_z {a} {b} h = is_false (lt_z a b) (λ e. clash_ℤ (lt_z_true e) h)

-- ---- transitive

weaker : (a b : ℤ) → T (lt_z a b) → T (le_z a b)
weaker (pos a) (pos b) h = let k = ltb→lt a b h in le→leb a b (omega arith)
weaker (pos a) (negsuc b) h = absurd h
weaker (negsuc a) (pos b) h = tt
weaker (negsuc a) (negsuc b) h = let k = ltb→lt b a h in le→leb b a (omega arith)

pub <ℤ-≤ℤ : {a b : ℤ} → a <ℤ b → a ≤ℤ b
<ℤ-≤ℤ {a} {b} h = record { le = weaker a b h.lt }

pub ≤ℤ-trans : {a b c : ℤ} → a ≤ℤ b → b ≤ℤ c → a ≤ℤ c
≤ℤ-trans {a} {b} {c} h k = ⊎_elim (λ g. g) (λ g. clash_ℤ (<ℤ-≤ℤ_trans g h) k) (total a c)

pub ≤ℤ-<ℤ-trans : {a b c : ℤ} → a ≤ℤ b → b <ℤ c → a <ℤ c
≤ℤ-<ℤ-trans {a} {b} {c} h k = ⊎_elim (λ g. clash_ℤ k (≤ℤ-trans g h)) (λ g. g) (total c a)

-- ---- the same number

same : (a b : ℤ) → T (le_z a b) → T (le_z b a) → a ≡ b
same (pos a) (pos b) h k = let x = leb→le a b h in let y = leb→le b a k in ap pos (omega arith)
same (pos a) (negsuc b) h k = absurd h
same (negsuc a) (pos b) h k = absurd k
same (negsuc a) (negsuc b) h k = let x = leb→le b a h in let y = leb→le a b k in ap negsuc (omega arith)

pub ≤ℤ-antisym : {a b : ℤ} → a ≤ℤ b → b ≤ℤ a → a ≡ b
≤ℤ-antisym {a} {b} h k = same a b h.le k.le

-- ---- the next number

next : (t a : ℤ) → T (lt_z t a) → T (le_z (suc_ℤ t) a)
next (pos t) (pos a) h = le→leb (suc t) a (ltb→lt t a h)
next (pos t) (negsuc a) h = h
next (negsuc zero) (pos a) h = le→leb zero a (omega arith)
next (negsuc (suc t)) (pos a) h = tt
next (negsuc zero) (negsuc a) h = absurd (let k = ltb→lt a zero h in omega arith)
next (negsuc (suc t)) (negsuc a) h = let k = ltb→lt a (suc t) h in le→leb a t (omega arith)

pub <ℤ-suc : {t a : ℤ} → t <ℤ a → suc_ℤ t ≤ℤ a
<ℤ-suc {t} {a} h = record { le = next t a h.lt }

after : (t : ℤ) → T (lt_z t (suc_ℤ t))
after (pos t) = lt→ltb t (suc t) (omega arith)
after (negsuc zero) = tt
after (negsuc (suc t)) = lt→ltb t (suc t) (omega arith)

pub suc-after : (t : ℤ) → t <ℤ suc_ℤ t
suc-after t = record { lt = after t }

-- before the next number is up to this one
pub before-suc : {t a : ℤ} → a <ℤ suc_ℤ t → a ≤ℤ t
before-suc {t} {a} h = ⊎_elim (λ g. g) (λ g. clash_ℤ h (<ℤ-suc g)) (total a t)
