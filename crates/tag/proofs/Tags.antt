-- Laws of tags: what is worked out level by level, their records one behind the other, their number.
use mathlib.Core.Path.{◌≡◌, refl, sym, ap, ◌∙◌}
use mathlib.Core.List.{List, [], ◌∷◌, ◌++◌, append_assoc}
use Prim.Native.Nat.{ℕ, suc, ◌+◌}
use native.Mathlib.Omega.{arith}
use lib.ListN.{length, length-append}
use Rattle.tag.specs.declared.Record.{Record}
use Rattle.tag.specs.Tag.{AnimatedTag, Fad, Fade, Pos, Move, Frz, Blur, Fscx, Fscy, Color1, Fs, ClipRect, ClipDrawing, Frx, Fry, Org, Bord, Xbord, Ybord, Shad, Xshad, Yshad, Be, Fax, Fay, IClipRect, IClipDrawing, Color2, Color3, Color4, Alpha, Alpha1, Alpha2, Alpha3, Alpha4, Fsp, Q, An, A, Fn, Fe, R, B, I, U, S, Karaoke, Pbo, P, T, Tags, none, and, append, inside, fold_tag, fold_tags, count, Part, map_own, map_parts}
use Rattle.tag.specs.Table.{head, records, encode}

-- ---- every tag: the three laws that go over the 49 cases

-- what a tag gives comes from what is inside it
pub fold_own : {A B : Type 0} (own : AnimatedTag → A → B) (nil : A) (cons : B → A → A) (x : AnimatedTag) → fold_tag own nil cons x ≡ own x (fold_tags own nil cons (inside x))
fold_own own nil cons (Fad a b) = refl
fold_own own nil cons (Fade a b c i j k h) = refl
fold_own own nil cons (Pos x y) = refl
fold_own own nil cons (Move x y z w t) = refl
fold_own own nil cons (Frz x) = refl
fold_own own nil cons (Blur x) = refl
fold_own own nil cons (Fscx x) = refl
fold_own own nil cons (Fscy x) = refl
fold_own own nil cons (Color1 c) = refl
fold_own own nil cons (Fs x) = refl
fold_own own nil cons (ClipRect x y z w) = refl
fold_own own nil cons (ClipDrawing p) = refl
fold_own own nil cons (Frx x) = refl
fold_own own nil cons (Fry x) = refl
fold_own own nil cons (Org x y) = refl
fold_own own nil cons (Bord x) = refl
fold_own own nil cons (Xbord x) = refl
fold_own own nil cons (Ybord x) = refl
fold_own own nil cons (Shad x) = refl
fold_own own nil cons (Xshad x) = refl
fold_own own nil cons (Yshad x) = refl
fold_own own nil cons (Be a) = refl
fold_own own nil cons (Fax x) = refl
fold_own own nil cons (Fay x) = refl
fold_own own nil cons (IClipRect x y z w) = refl
fold_own own nil cons (IClipDrawing p) = refl
fold_own own nil cons (Color2 c) = refl
fold_own own nil cons (Color3 c) = refl
fold_own own nil cons (Color4 c) = refl
fold_own own nil cons (Alpha a) = refl
fold_own own nil cons (Alpha1 a) = refl
fold_own own nil cons (Alpha2 a) = refl
fold_own own nil cons (Alpha3 a) = refl
fold_own own nil cons (Alpha4 a) = refl
fold_own own nil cons (Fsp x) = refl
fold_own own nil cons (Q a) = refl
fold_own own nil cons (An a) = refl
fold_own own nil cons (A a) = refl
fold_own own nil cons (Fn p q) = refl
fold_own own nil cons (Fe a) = refl
fold_own own nil cons (R r) = refl
fold_own own nil cons (B a) = refl
fold_own own nil cons (I b) = refl
fold_own own nil cons (U b) = refl
fold_own own nil cons (S b) = refl
fold_own own nil cons (Karaoke k a) = refl
fold_own own nil cons (Pbo i) = refl
fold_own own nil cons (P a) = refl
fold_own own nil cons (T t x l) = refl

-- a tag whose parts are changed has inside it what it is given, where it had any inside
pub map-inside : (f : Part → Part) (u : Tags → Tags) → u none ≡ none → (x : AnimatedTag) → inside (map_own f x (u (inside x))) ≡ u (inside x)
map-inside f u e (Fad a b) = sym e
map-inside f u e (Fade a b c i j k h) = sym e
map-inside f u e (Pos x y) = sym e
map-inside f u e (Move x y z w t) = sym e
map-inside f u e (Frz x) = sym e
map-inside f u e (Blur x) = sym e
map-inside f u e (Fscx x) = sym e
map-inside f u e (Fscy x) = sym e
map-inside f u e (Color1 c) = sym e
map-inside f u e (Fs x) = sym e
map-inside f u e (ClipRect x y z w) = sym e
map-inside f u e (ClipDrawing p) = sym e
map-inside f u e (Frx x) = sym e
map-inside f u e (Fry x) = sym e
map-inside f u e (Org x y) = sym e
map-inside f u e (Bord x) = sym e
map-inside f u e (Xbord x) = sym e
map-inside f u e (Ybord x) = sym e
map-inside f u e (Shad x) = sym e
map-inside f u e (Xshad x) = sym e
map-inside f u e (Yshad x) = sym e
map-inside f u e (Be a) = sym e
map-inside f u e (Fax x) = sym e
map-inside f u e (Fay x) = sym e
map-inside f u e (IClipRect x y z w) = sym e
map-inside f u e (IClipDrawing p) = sym e
map-inside f u e (Color2 c) = sym e
map-inside f u e (Color3 c) = sym e
map-inside f u e (Color4 c) = sym e
map-inside f u e (Alpha a) = sym e
map-inside f u e (Alpha1 a) = sym e
map-inside f u e (Alpha2 a) = sym e
map-inside f u e (Alpha3 a) = sym e
map-inside f u e (Alpha4 a) = sym e
map-inside f u e (Fsp x) = sym e
map-inside f u e (Q a) = sym e
map-inside f u e (An a) = sym e
map-inside f u e (A a) = sym e
map-inside f u e (Fn p q) = sym e
map-inside f u e (Fe a) = sym e
map-inside f u e (R r) = sym e
map-inside f u e (B a) = sym e
map-inside f u e (I b) = sym e
map-inside f u e (U b) = sym e
map-inside f u e (S b) = sym e
map-inside f u e (Karaoke k a) = sym e
map-inside f u e (Pbo i) = sym e
map-inside f u e (P a) = sym e
map-inside f u e (T t x l) = refl

-- what holds of no tags, and of a tag before others where it holds of those inside it and of the others, holds of all
module _ (Has : Tags → Type 0) (nil : Has none) (cons : (x : AnimatedTag) (l : Tags) → Has (inside x) → Has l → Has (and x l)) where
  mutual
    tag_inside : (x : AnimatedTag) → Has (inside x)
    tag_inside (Fad a b) = nil
    tag_inside (Fade a b c i j k h) = nil
    tag_inside (Pos x y) = nil
    tag_inside (Move x y z w t) = nil
    tag_inside (Frz x) = nil
    tag_inside (Blur x) = nil
    tag_inside (Fscx x) = nil
    tag_inside (Fscy x) = nil
    tag_inside (Color1 c) = nil
    tag_inside (Fs x) = nil
    tag_inside (ClipRect x y z w) = nil
    tag_inside (ClipDrawing p) = nil
    tag_inside (Frx x) = nil
    tag_inside (Fry x) = nil
    tag_inside (Org x y) = nil
    tag_inside (Bord x) = nil
    tag_inside (Xbord x) = nil
    tag_inside (Ybord x) = nil
    tag_inside (Shad x) = nil
    tag_inside (Xshad x) = nil
    tag_inside (Yshad x) = nil
    tag_inside (Be a) = nil
    tag_inside (Fax x) = nil
    tag_inside (Fay x) = nil
    tag_inside (IClipRect x y z w) = nil
    tag_inside (IClipDrawing p) = nil
    tag_inside (Color2 c) = nil
    tag_inside (Color3 c) = nil
    tag_inside (Color4 c) = nil
    tag_inside (Alpha a) = nil
    tag_inside (Alpha1 a) = nil
    tag_inside (Alpha2 a) = nil
    tag_inside (Alpha3 a) = nil
    tag_inside (Alpha4 a) = nil
    tag_inside (Fsp x) = nil
    tag_inside (Q a) = nil
    tag_inside (An a) = nil
    tag_inside (A a) = nil
    tag_inside (Fn p q) = nil
    tag_inside (Fe a) = nil
    tag_inside (R r) = nil
    tag_inside (B a) = nil
    tag_inside (I b) = nil
    tag_inside (U b) = nil
    tag_inside (S b) = nil
    tag_inside (Karaoke k a) = nil
    tag_inside (Pbo i) = nil
    tag_inside (P a) = nil
    tag_inside (T t x l) = tags-all l

    pub tags-all : (l : Tags) → Has l
    tags-all none = nil
    tags-all (and x l) = cons x l (tag_inside x) (tags-all l)

-- ---- records

pub records_own : (x : AnimatedTag) → records x ≡ head x ∷ encode (inside x)
unfolding records encode
records_own x = fold_own (λ y rs. head y ∷ rs) [] ◌++◌ x

pub encode-none : encode none ≡ []
unfolding encode
encode-none = refl

pub encode-and : (x : AnimatedTag) (l : Tags) → encode (and x l) ≡ records x ++ encode l
unfolding encode records
encode-and x l = refl

pub encode-append : (a b : Tags) → encode (append a b) ≡ encode a ++ encode b
unfolding encode append records
encode-append none b = refl
encode-append (and x l) b = ap (λ (y : List Record). records x ++ y) (encode-append l b) ∙ sym (append_assoc (records x) (encode l) (encode b))

-- ---- their number

pub count-and : (x : AnimatedTag) (l : Tags) → count (and x l) ≡ suc (count (inside x)) + count l
unfolding count
count-and x l = ap (λ (n : ℕ). n + count l) (fold_own (λ y n. suc n) 0 ◌+◌ x)

pub count_none : count none ≡ 0
unfolding count
count_none = refl

none-length : count none ≡ length (encode none)
unfolding count encode
none-length = refl

-- as many as they have records
pub count-length : (l : Tags) → count l ≡ length (encode l)
count-length =
    tags-all (λ l. count l ≡ length (encode l)) none-length
    (λ x l i h. count-and x l ∙ rw (encode-and x l, records_own x) (simp length-append (omega arith)))

-- a tag with one record is one
pub count-single : (x : AnimatedTag) {r : Record} → records x ≡ r ∷ [] → count (and x none) ≡ 1
count-single x e = count-length (and x none) ∙ ap length (encode-and x none) ∙ rw (e, encode-none)

pub count-append : (a b : Tags) → count (append a b) ≡ count a + count b
count-append a b = count-length (append a b) ∙ ap (λ (l : List Record). length l) (encode-append a b) ∙ length-append (encode a) (encode b) ∙ rw (← count-length a, ← count-length b)

-- tags whose parts are changed are as many
pub count_map : (f : Part → Part) (l : Tags) → count (map_parts f l) ≡ count l
count_map f =
    tags-all (λ l. count (map_parts f l) ≡ count l) refl
    (λ x l i h.
    let e : map_parts f (and x l) ≡ and (map_own f x (map_parts f (inside x))) (map_parts f l) = ap (λ (y : AnimatedTag). and y (map_parts f l)) (fold_own (map_own f) none and x) in
    rw (e, count-and (map_own f x (map_parts f (inside x))) (map_parts f l), map-inside f (map_parts f) refl x, count-and x l, i, h))
