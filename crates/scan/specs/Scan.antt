-- Scanning a text by positions. A definition goes over n places from i on; `..To` is the same between two places.
use Rattle.std.specs.Prelude.{◌≡◌, List, [], ◌∷◌, Bool, true, false, not, ℕ, zero, suc, ◌+◌, ◌-◌, ◌≤◌, get_or, ltb, leb, eqb}
use Prim.Native.Char.{code}
use Prim.Native.String.{String}

-- the bytes of an ASCII text written out
abbrev pub bytes : String → List ℕ
bytes String.[] = []
bytes (String.◌∷◌ c t) = code c ∷ bytes t

-- a where b is true, else d. A recursive call goes in by a `let`, which waits.
abbrev pub pick : {A : Type 0} → Bool → A → A → A
pick true a d = a
pick false a d = d

-- two answers as one
abbrev pub both : Bool → Bool → Bool
both a b = pick a b false

abbrev pub either : Bool → Bool → Bool
either a b = pick a true b

-- whether low ≤ b ≤ high
abbrev pub within : ℕ → ℕ → ℕ → Bool
within low high b = pick (leb low b) (leb b high) false

-- Rust's `to_ascii_lowercase`
abbrev pub lower : ℕ → ℕ
lower b = pick (within 65 90 b) (b + 32) b

-- the value of a digit, 0 to 9, then a to f of either case; 16 for any other byte
abbrev pub digit_of : ℕ → ℕ
digit_of b = pick (within 48 57 b) (b - 48) (pick (within 65 70 b) (b - 55) (pick (within 97 102 b) (b - 87) 16))

-- classes of bytes: the digits of a radix
abbrev pub digit : ℕ → ℕ → Bool
digit radix b = ltb (digit_of b) radix

-- the ASCII letters
abbrev pub letter : ℕ → Bool
letter b = pick (leb 97 b) (leb b 122) (within 65 90 b)

-- the byte x
abbrev pub only : ℕ → ℕ → Bool
only x b = eqb b x

-- all but x
abbrev pub other : ℕ → ℕ → Bool
other x b = not (eqb b x)

-- x and y
abbrev pub one_of : ℕ → ℕ → ℕ → Bool
one_of x y b = pick (eqb b x) true (eqb b y)

-- all but x and y
abbrev pub none_of : ℕ → ℕ → ℕ → Bool
none_of x y b = pick (eqb b x) false (not (eqb b y))

-- those below x
abbrev pub below : ℕ → ℕ → Bool
below x b = ltb b x

-- 01, Blanks: bytes 9 to 13 and 32
abbrev pub is_blank : ℕ → Bool
is_blank b = pick (eqb b 32) true (within 9 13 b)

-- the width of the blank that starts at i, before e; 0 where none does
unfoldable pub blank_at : List ℕ → ℕ → ℕ → ℕ
blank_at s i e = pick (ltb i e) (pick (is_blank (get_or s i 0)) 1 0) 0

-- the width of the blank that ends at e, from i on; 0 where none does
unfoldable pub blank_before : List ℕ → ℕ → ℕ → ℕ
blank_before s i e = pick (ltb i e) (pick (is_blank (get_or s (e - 1) 0)) 1 0) 0

-- the first of n places from i on whose byte fails the test p, else i + n
unfoldable pub span : (ℕ → Bool) → List ℕ → ℕ → ℕ → ℕ
span p s zero i = i
span p s (suc n) i = let r = span p s n (i + 1) in pick (p (get_or s i 0)) r i

abbrev pub span_to : (ℕ → Bool) → List ℕ → ℕ → ℕ → ℕ
span_to p s i e = span p s (e - i) i

-- the least place j ≥ i such that all bytes from j up to i + n pass the test p
unfoldable pub back : (ℕ → Bool) → List ℕ → ℕ → ℕ → ℕ
back p s i zero = i
back p s i (suc n) = let r = back p s i n in pick (p (get_or s (i + n) 0)) r (i + n + 1)

abbrev pub back_to : (ℕ → Bool) → List ℕ → ℕ → ℕ → ℕ
back_to p s i e = back p s i (e - i)

-- from i on past at most n pieces, each as wide as `width s i e` says of one that starts at i, before e; 0 for none
unfoldable pub skip : (List ℕ → ℕ → ℕ → ℕ) → List ℕ → ℕ → ℕ → ℕ → ℕ
skip width s e zero i = i
skip width s e (suc n) i =
    let r = skip width s e n (i + width s i e) in
    pick (eqb (width s i e) 0) i r

-- Rust's `trim_start_matches` between i and e
abbrev pub skip_to : (List ℕ → ℕ → ℕ → ℕ) → List ℕ → ℕ → ℕ → ℕ
skip_to width s i e = skip width s e (e - i) i

-- Rust's `trim_start` between i and e
abbrev pub trim_start : List ℕ → ℕ → ℕ → ℕ
trim_start s i e = skip_to blank_at s i e

-- Rust's `trim_end` between i and e
unfoldable pub skip_back : List ℕ → ℕ → ℕ → ℕ → ℕ
skip_back s i zero e = e
skip_back s i (suc n) e =
    let r = skip_back s i n (e - blank_before s i e) in
    pick (eqb (blank_before s i e) 0) e r

abbrev pub trim_end : List ℕ → ℕ → ℕ → ℕ
trim_end s i e = skip_back s i (e - i) e

-- the place behind i where the byte there, before e, passes the test p, else i
abbrev pub past : (ℕ → Bool) → List ℕ → ℕ → ℕ → ℕ
past p s i e = pick (ltb i e) (pick (p (get_or s i 0)) (i + 1) i) i

-- how many parentheses are open after the byte b, k being open before it
abbrev pub opened : ℕ → ℕ → ℕ
opened b k = pick (eqb b 40) (k + 1) (pick (eqb b 41) (k - 1) k)

-- the place of the `)` that closes the last of k open ones, else the end
unfoldable pub closing : List ℕ → ℕ → ℕ → ℕ → ℕ
closing s zero i k = i
closing s (suc n) i k =
    let r = closing s n (i + 1) (opened (get_or s i 0) k) in
    pick (eqb (opened (get_or s i 0) k) 0) i r

abbrev pub closing_to : List ℕ → ℕ → ℕ → ℕ → ℕ
closing_to s i e k = closing s (e - i) i k

-- a place that a definition names, between i and e
pub record Place (i e d r : ℕ) : Type 0 where
  pub is : r ≡ d
  pub low : i ≤ r
  pub high : r ≤ e
