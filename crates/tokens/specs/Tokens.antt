-- The tokens of a drawing: what stands between 01's blanks.
use Rattle.std.specs.Prelude.{List, [], ◌∷◌, Bool, true, false, ℕ, zero, suc, ◌+◌, ◌-◌, ltb, eqb, length, get_or, Ok, Err}
use Rattle.scan.specs.Scan.{pick, lower, letter, blank_at, past, trim_start}
use Rattle.numeral.specs.Numeral.{is_sign, F32, none, too_long_lem, number, f32_at}
use Rattle.refusal.specs.Refusal.{Checked}
use Rattle.refusal.specs.declared.Refusal.TheVariants.{NumeralTooLong}
use Rattle.tokens.specs.declared.Token.{Token}
use Rattle.tokens.specs.declared.Token.TheVariants.{Letter, Number, Refused, Other}

-- whether the text from i to e, in lower case, is the word
unfoldable pub spells : List ℕ → List ℕ → ℕ → ℕ → Bool
spells [] s i e = eqb i e
spells (c ∷ w) s i e =
    let r = spells w s (i + 1) e in
    pick (ltb i e) (pick (eqb (lower (get_or s i 0)) c) r false) false

-- 01: "a signed or unsigned `inf`, `infinity` or `nan` in any letter case"
abbrev pub inf : List ℕ
inf = 105 ∷ 110 ∷ 102 ∷ []

abbrev pub infinity : List ℕ
infinity = 105 ∷ 110 ∷ 102 ∷ 105 ∷ 110 ∷ 105 ∷ 116 ∷ 121 ∷ []

abbrev pub nan : List ℕ
nan = 110 ∷ 97 ∷ 110 ∷ []

unfoldable pub special : List ℕ → ℕ → ℕ → Bool
special s a b =
    let i = past is_sign s a b in
    pick (spells inf s i b) true (pick (spells infinity s i b) true (spells nan s i b))

-- Rust's "a command character is a single ASCII letter token"
abbrev pub one_letter : List ℕ → ℕ → ℕ → Bool
one_letter s a b = pick (eqb b (a + 1)) (letter (get_or s a 0)) false

abbrev pub numeral_token : F32 → Token
numeral_token none = Other
numeral_token (too_long_lem p) = Refused p
numeral_token (number x) = Number x

-- the token from a to b
unfoldable pub token_of : List ℕ → ℕ → ℕ → Token
token_of s a b = pick (one_letter s a b) (Letter (get_or s a 0)) (pick (special s a b) (Refused a) (numeral_token (f32_at s a b)))

-- the first of n places from i on at which a blank starts, else i + n
unfoldable pub word_end_lem : List ℕ → ℕ → ℕ → ℕ
word_end_lem s zero i = i
word_end_lem s (suc n) i =
    let r = word_end_lem s n (i + 1) in
    pick (eqb (blank_at s i (length s)) 0) r i

abbrev pub token_end : List ℕ → ℕ → ℕ
token_end s i = word_end_lem s (length s - i) i

-- Rust's `split_whitespace` from i on, at most n tokens
unfoldable pub tokens : List ℕ → ℕ → ℕ → List Token
tokens s zero i = []
tokens s (suc n) i =
    let a = trim_start s i (length s) in
    let b = token_end s (a + 1) in
    let l = token_of s a b ∷ tokens s n b in
    pick (ltb a (length s)) l []

abbrev pub from : List ℕ → ℕ → List Token
from s i = tokens s (length s - i) i

abbrev pub is_letter : Token → Bool
is_letter (Letter b) = true
is_letter (Number x) = false
is_letter (Refused p) = false
is_letter Other = false

-- "skip unknown command and any contiguous numeric tail until the next command letter"
unfoldable pub until_letter : List Token → List Token
until_letter [] = []
until_letter (t ∷ ts) =
    let r = until_letter ts in
    pick (is_letter t) (t ∷ ts) r

-- what that skips: the tokens before the next letter
unfoldable pub tail : List Token → List Token
tail [] = []
tail (t ∷ ts) =
    let r = tail ts in
    pick (is_letter t) [] (t ∷ r)

-- ground 3: "any token that is a numeral refused above", the earliest
unfoldable pub tokens_ground : List Token → Checked
tokens_ground [] = Ok tt
tokens_ground (Letter b ∷ ts) = tokens_ground ts
tokens_ground (Number x ∷ ts) = tokens_ground ts
tokens_ground (Refused p ∷ ts) = Err (NumeralTooLong p)
tokens_ground (Other ∷ ts) = tokens_ground ts
