-- A plain tag inside a longer text: the same tag, its parts moved on. By the shape of its parameter, for every shape of the table.
use mathlib.Core.Path.{◌≡◌, refl, ap}
use mathlib.Core.List.{List, [], ◌∷◌, map}
use mathlib.Core.Bool.{Bool, true, false}
use Prim.Native.Nat.{ℕ, zero, suc, ◌+◌, ◌-◌, ◌≤◌}
use native.Mathlib.Omega.{arith}
use lib.ListN.{length, get_or, length-map}
use lib.Dec.{ltb, leb, eqb}
use lib.IntN.{ℤ, pos, negsuc}
use lib.Ieee.{Float}
use borrow.Author.Tests.{ne_eqb}
use Rattle.scan.specs.Scan.{pick, trim_start, trim_end}
use Rattle.float.specs.Float.{round_away, round_byte}
use Rattle.numeral.specs.Numeral.{F32, too_long_lem, number, f32_at, I32, whole, i32_at}
use Rattle.std.specs.Prelude.{Option, Some, None}
use Rattle.lists.specs.Lists.{Stretch, parts}
use Rattle.colour.specs.Colour.{alpha_at, colour_at}
use Rattle.colour.specs.declared.Rgb as C
use Rattle.tag.specs.Tag as Tag
use Rattle.tag.specs.Tag.{AnimatedTag, Be, Pbo, R}
use Rattle.plain.specs.Names.{Shape, float, pair, ranged, flag, alpha, colour, clip, beat, fad, fade, move, edge, baseline, weight, reset, unknown, names, lookup, lowered, key_at}
use Rattle.plain.specs.Plain.{One, no, long, kept, far, part, map_f32, f32s, i32s, all_floats, floats_in, floats, ints, nth, unless_long, pair_of, move_of, fad_of, fade_of, is_far, ranged_of, weight_of, flag_of, map_alpha, map_colour, clip_of, reset_of, beat_of, shaped, is_fn, is_named_reset, plain_at, nth_int}
use Rattle.plain.proofs.Every.{Every, gather, find}
use Rattle.read.specs.Moved.{moved_part, moved_tag}
use Rattle.read.proofs.MovedScan.{Window, On, either, if_eq, if_le, if_lt, next, gap, ltb_on, leb_on, byte, trim_start_on, trim_end_on}
use Rattle.read.proofs.MovedNumbers.{moved_f32, Parts, none, more, alpha_on, colour_on, i32_on, f32_on, parts_on}

-- what a plain tag gives, k bytes further on
abbrev pub moved_one : ℕ → One → One
moved_one k no = no
moved_one k (long p) = long (k + p)
moved_one k (kept x) = kept (moved_tag k x)
moved_one k (far x) = far (moved_tag k x)

-- ---- the table's tags are made of numbers, which stay, and of drawings, which move

abbrev Still : ℕ → Shape → Type 0
Still k (float f) = (x : Float) → moved_tag k (f x) ≡ f x
Still k (pair f) = (x y : Float) → moved_tag k (f x y) ≡ f x y
Still k (ranged a b f) = (n : ℕ) → moved_tag k (f n) ≡ f n
Still k (flag f) = (b : Bool) → moved_tag k (f b) ≡ f b
Still k (alpha f) = (n : ℕ) → moved_tag k (f n) ≡ f n
Still k (colour f) = (c : Tag.Rgb) → moved_tag k (f c) ≡ f c
Still k (clip f g) = ((x y z w : Float) → moved_tag k (f x y z w) ≡ f x y z w) × ((x : Tag.Part) → moved_tag k (g x) ≡ g (moved_part k x))
Still k (beat r) = Unit
Still k fad = Unit
Still k fade = Unit
Still k move = Unit
Still k edge = Unit
Still k baseline = Unit
Still k weight = Unit
Still k reset = Unit
Still k unknown = Unit

still : (k : ℕ) → Every (Still k) names
unfolding names moved_tag
still k =
    gather (Still k) names (Every (Still k) names) (λ e. e)
    tt tt tt (λ x. refl) (λ x. refl) (λ x. refl) (λ x. refl) (λ x y. refl) (λ x y. refl) (λ x. refl) tt
    (λ x. refl) (λ x. refl) (λ x. refl) (λ x. refl) (λ x. refl) (λ x. refl) tt (λ n. refl)
    (λ x. refl) (λ x. refl) (λ x. refl) (λ x. refl) (λ x. refl) (λ x. refl) (λ n. refl) (λ n. refl) (λ n. refl) tt tt tt tt
    (λ c. refl) (λ c. refl) (λ c. refl) (λ c. refl) (λ c. refl) (λ n. refl) (λ n. refl) (λ n. refl) (λ n. refl) (λ n. refl)
    (λ x y z w. refl, λ x. refl) (λ x y z w. refl, λ x. refl) (λ n. refl) tt (λ b. refl) (λ b. refl) (λ b. refl) tt

-- ---- what numbers make, by the shape of the parameter

module _ (k : ℕ) where
  -- what a parameter gives in the longer text and what it gives alone; what gives the same in both
  abbrev Moves : One → One → Type 0
  Moves x y = x ≡ moved_one k y

  abbrev Stays : One → Type 0
  Stays x = Moves x x

  move-f32 : (f : Float → AnimatedTag) → ((x : Float) → moved_tag k (f x) ≡ f x) → (y : F32) → Moves (map_f32 f (moved_f32 k y)) (map_f32 f y)
  move-f32 f h F32.none = refl
  move-f32 f h (too_long_lem p) = refl
  move-f32 f h (number x) = rw (h x)

  all_moved : (l : List F32) → all_floats (map (moved_f32 k) l) ≡ all_floats l
  unfolding all_floats
  all_moved [] = refl
  all_moved (F32.none ∷ l) = refl
  all_moved (too_long_lem p ∷ l) = refl
  all_moved (number x ∷ l) = all_moved l

  in_moved : (l : List F32) → floats_in (map (moved_f32 k) l) ≡ floats_in l
  unfolding floats_in
  in_moved [] = refl
  in_moved (F32.none ∷ l) = rw (in_moved l)
  in_moved (too_long_lem p ∷ l) = rw (in_moved l)
  in_moved (number x ∷ l) = rw (in_moved l)

  move-long : (l : List F32) {o' : One} (o : One) → Moves o' o → Moves (unless_long (map (moved_f32 k) l) o') (unless_long l o)
  unfolding unless_long
  move-long [] o h = h
  move-long (F32.none ∷ l) o h = move-long l o h
  move-long (too_long_lem p ∷ l) o h = refl
  move-long (number x ∷ l) o h = move-long l o h

  stay_pair : (f : Float → Float → AnimatedTag) → ((x y : Float) → moved_tag k (f x y) ≡ f x y) → (l : List Float) → Stays (pair_of f l)
  unfolding pair_of
  stay_pair f h l = either Moves (eqb (length l) 2) (rw (h (nth l 0) (nth l 1))) refl

  stay_move : (l : List Float) → Stays (move_of l)
  unfolding move_of moved_tag
  stay_move l = either Moves (eqb (length l) 4) refl (either Moves (eqb (length l) 6) refl refl)

  stay_fad : (l : List ℤ) → Stays (fad_of l)
  unfolding fad_of moved_tag
  stay_fad l = either Moves (leb 2 (length l)) refl refl

  stay_fade : (l : List ℤ) → Stays (fade_of l)
  unfolding fade_of moved_tag
  stay_fade l = either Moves (leb 7 (length l)) (either Moves (pick (is_far (nth_int l 3)) true _) refl refl) refl

  stay_ranged : (a b : ℕ) (f : ℕ → AnimatedTag) → ((n : ℕ) → moved_tag k (f n) ≡ f n) → (y : I32) → Stays (ranged_of a b f y)
  unfolding ranged_of
  stay_ranged a b f h I32.none = refl
  stay_ranged a b f h (whole (pos n)) = either Moves (leb a n) (either Moves (leb n b) (rw (h n)) refl) refl
  stay_ranged a b f h (whole (negsuc n)) = refl

  stay_weight : (y : I32) → Stays (weight_of y)
  unfolding weight_of moved_tag
  stay_weight I32.none = refl
  stay_weight (whole (pos n)) =
      either Moves (eqb n 0) refl (either Moves (eqb n 1) refl (either Moves (leb 100 n) (either Moves (leb n 900) refl refl) refl))
  stay_weight (whole (negsuc n)) = refl

  stay_alpha : (f : ℕ → AnimatedTag) → ((n : ℕ) → moved_tag k (f n) ≡ f n) → (y : Option ℕ) → Stays (map_alpha f y)
  stay_alpha f h None = refl
  stay_alpha f h (Some n) = rw (h n)

  stay_colour : (f : Tag.Rgb → AnimatedTag) → ((c : Tag.Rgb) → moved_tag k (f c) ≡ f c) → (y : Option C.Rgb) → Stays (map_colour f y)
  stay_colour f h None = refl
  stay_colour f h (Some c) = rw (h (record { red = c.red; green = c.green; blue = c.blue }))

part_on : {k n p' p q' q : ℕ} → On k n p' p → On k n q' q → part p' q' ≡ moved_part k (part p q)
unfolding part
part_on {k} {n} {p'} {p} {q'} {q} h g =
    rw (ltb_on h g, gap h g) (if_lt (λ x y. x ≡ moved_part k y) p q (λ l. rw (ne_eqb (q - p) 0 (λ z. omega arith), h.is)) refl)

-- ---- a parameter, from p to q

module _ {w s : List ℕ} {k n : ℕ} (v : Window w s k n) where
  f32s_on : {l' l : List Stretch} → Parts k n l' l → f32s w l' ≡ map (moved_f32 k) (f32s s l)
  unfolding f32s
  f32s_on none = refl
  f32s_on (more h g r) = rw (f32_on v h g, f32s_on r)

  i32s_on : {l' l : List Stretch} → Parts k n l' l → i32s w l' ≡ i32s s l
  unfolding i32s
  i32s_on none = refl
  i32s_on (more h g r) = rw (i32_on v h g, i32s_on r)

  module _ {p' p q' q : ℕ} (h : On k n p' p) (g : On k n q' q) where
    floats_on : f32s w (parts w p' q') ≡ map (moved_f32 k) (f32s s (parts s p q))
    floats_on = f32s_on (parts_on v h g)

    ints_on : i32s w (parts w p' q') ≡ i32s s (parts s p q)
    ints_on = i32s_on (parts_on v h g)

    float_list_on : (f : List Float → One) → ((l : List Float) → Stays k (f l)) → Moves k (unless_long (f32s w (parts w p' q')) (f (floats (f32s w (parts w p' q'))))) (unless_long (f32s s (parts s p q)) (f (floats (f32s s (parts s p q)))))
    float_list_on f e =
        let l = f32s s (parts s p q) in
        rw (floats_on, all_moved k l, in_moved k l) (move-long k l _ (e (floats l)))

    flag_on : (f : Bool → AnimatedTag) → ((b : Bool) → moved_tag k (f b) ≡ f b) → Moves k (flag_of f w p' q') (flag_of f s p q)
    unfolding flag_of
    flag_on f e =
        let a = trim_start_on v h g in
        let b = trim_end_on v a g in
        let x = trim_start s p q in
        rw (gap a b)
        (if_eq (Moves k) (trim_end s x q - x) 1
        (λ l. rw (byte v a (omega arith)) (either (Moves k) (eqb (get_or s x 0) 48) (rw (e false)) (either (Moves k) (eqb (get_or s x 0) 49) (rw (e true)) refl)))
        refl)

    clip_on : (f : Float → Float → Float → Float → AnimatedTag) (d : Tag.Part → AnimatedTag) → ((x y z w : Float) → moved_tag k (f x y z w) ≡ f x y z w)
        → ((x : Tag.Part) → moved_tag k (d x) ≡ d (moved_part k x)) → (l : List F32) → Moves k (clip_of f d (map (moved_f32 k) l) p' q') (clip_of f d l p q)
    unfolding clip_of
    clip_on f d e i l =
        let x = floats l in
        rw (length-map l (moved_f32 k), all_moved k l, in_moved k l, part_on h g, ← i (part p q))
        (either (Moves k) (eqb (length l) 4) (move-long k l _ (either (Moves k) (all_floats l) (rw (e (nth x 0) (nth x 1) (nth x 2) (nth x 3))) refl)) refl)

    reset_on : reset_of w p' q' ≡ moved_tag k (reset_of s p q)
    unfolding reset_of moved_tag
    reset_on =
        let a = trim_start_on v h g in
        let b = trim_end_on v a g in
        let x = trim_start s p q in
        rw (ltb_on a b, part_on a b) (ap R (either (λ x y. x ≡ Tag.map_reset (moved_part k) y) (ltb x (trim_end s x q)) refl refl))

    shaped_on : (x : Shape) → Still k x → Moves k (shaped x w p' q') (shaped x s p q)
    unfolding shaped moved_tag
    shaped_on (float f) e = rw (f32_on v h g) (move-f32 k f e (f32_at s p q))
    shaped_on (pair f) e = float_list_on (pair_of f) (stay_pair k f e)
    shaped_on (ranged a b f) e = rw (i32_on v h g) (stay_ranged k a b f e (i32_at s p q))
    shaped_on (flag f) e = flag_on f e
    shaped_on (alpha f) e = rw (alpha_on v h g) (stay_alpha k f e (alpha_at s p q))
    shaped_on (colour f) e = rw (colour_on v h g) (stay_colour k f e (colour_at s p q))
    shaped_on (clip f d) e = rw floats_on (clip_on f d e.0 e.1 (f32s s (parts s p q)))
    shaped_on (beat r) e = rw (f32_on v h g) (move-f32 k (beat_of r) (λ x. refl) (f32_at s p q))
    shaped_on fad e = rw ints_on (stay_fad k (ints (i32s s (parts s p q))))
    shaped_on fade e = rw ints_on (stay_fade k (ints (i32s s (parts s p q))))
    shaped_on move e = float_list_on move_of (stay_move k)
    shaped_on edge e = rw (f32_on v h g) (move-f32 k (λ x. Be (round_byte x)) (λ x. refl) (f32_at s p q))
    shaped_on baseline e = rw (f32_on v h g) (move-f32 k (λ x. Pbo (round_away x)) (λ x. refl) (f32_at s p q))
    shaped_on weight e = rw (i32_on v h g) (stay_weight k (i32_at s p q))
    shaped_on reset e = ap kept reset_on
    shaped_on unknown e = refl

  -- ---- a name, from i to m

  lowered_on : (m : ℕ) {i' i : ℕ} → On k n i' i → i + m ≤ n → lowered w m i' ≡ lowered s m i
  unfolding lowered
  lowered_on zero h l = refl
  lowered_on (suc m) {i'} {i} h l = rw (byte v h (omega arith), lowered_on m (next h (omega arith)) (omega arith))

  module _ {i' i m' m : ℕ} (h : On k n i' i) (g : On k n m' m) where
    pub key_at_on : key_at w i' m' ≡ key_at s i m
    unfolding key_at
    key_at_on =
        rw (gap h g, lowered_on (m - i) h (omega arith))
        (either ◌≡◌ (leb (m - i) 5) (if_eq ◌≡◌ (m - i) 1 (λ l. rw (byte v h (omega arith))) refl) refl)

    is_fn_on : is_fn w i' m' ≡ is_fn s i m
    unfolding is_fn
    is_fn_on = rw (gap h g) (if_le ◌≡◌ 3 (m - i) (λ l. rw (lowered_on 2 h (omega arith))) refl)

    module _ {p' p q' q : ℕ} (c : On k n p' p) (d : On k n q' q) where
      is_named_reset_on : is_named_reset w i' m' p' q' ≡ is_named_reset s i m p q
      unfolding is_named_reset
      is_named_reset_on = rw (gap h g, leb_on d c) (if_le ◌≡◌ 2 (m - i) (λ l. rw (lowered_on 1 h (omega arith))) refl)

      -- one tag, \t apart
      pub plain_on : plain_at w i' m' p' q' ≡ moved_one k (plain_at s i m p q)
      unfolding plain_at moved_tag
      plain_on =
          let one : On k (n + 2) (i' + 1) (i + 1) = record { is = omega arith; fits = omega arith } in
          let two : On k (n + 2) (i' + 2) (i + 2) = record { is = omega arith; fits = omega arith } in
          let end : On k (n + 2) m' m = record { is = g.is; fits = omega arith } in
          rw (is_fn_on, is_named_reset_on, key_at_on)
          (either (Moves k) (is_fn s i m) (rw (part_on two end, part_on c (trim_end_on v c d)))
          (either (Moves k) (is_named_reset s i m p q) (rw (part_on one end)) (shaped_on c d (lookup (key_at s i m) names) (find (Still k) tt (key_at s i m) names (still k)))))
