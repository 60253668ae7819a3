-- The segments that stand in a room, put there word by word.
use Prim.Native.Nat.{ℕ, zero, suc, ◌+◌, ◌-◌, ◌*◌, ◌≤◌}
use native.Mathlib.Omega.{arith}
use mathlib.Core.Path.{◌≡◌, refl, sym, ap, ap₂, ◌∙◌}
use mathlib.Core.Bool.{Bool, true, false}
use mathlib.Core.List.{List, [], ◌∷◌, ◌++◌, append-nil, append_assoc}
use lib.Dec.{eqb}
use lib.ListN.{length, take, drop, get_or, set, length-set, drop_of_length-le}
use lib.Seq.{sets, sets-eq, take-nil, take_at, drop_at, drop-drop, drop-set-lt, get_or-take, get_or-set_same, length-take-le}
use Rattle.ground.specs.Lists.{each}
use Rattle.evaluate.specs.declared.Segment.{Segment}
use Rattle.evaluate.specs.Segments.{Route, apart, flat}
use Rattle.evaluate.specs.Words.{bit, segment_words}
use Rattle.words.specs.Inner.{segment_of, segments_of, routes_of, UsedUp, Parsed}
use Rattle.words.proofs.Writing.{segment_words_length}
use Rattle.bed_overlap.specs.Inner.{standing, FirstApart}

-- ---- segments read from words

segments_take : (n : ℕ) (ws : List ℕ) → segments_of n (take (4 * n) ws) ≡ segments_of n ws
unfolding segments_of each segment_of
segments_take zero ws = refl
segments_take (suc n) [] = ap (segments_of (suc n)) (take-nil (4 * suc n))
segments_take (suc n) (a ∷ []) = let q : 4 * suc n ≡ suc (suc (suc (suc (4 * n)))) = omega arith in rw q
segments_take (suc n) (a ∷ b ∷ []) = let q : 4 * suc n ≡ suc (suc (suc (suc (4 * n)))) = omega arith in rw q
segments_take (suc n) (a ∷ b ∷ c ∷ []) = let q : 4 * suc n ≡ suc (suc (suc (suc (4 * n)))) = omega arith in rw q
segments_take (suc n) (a ∷ b ∷ c ∷ d ∷ ws) =
    let q : 4 * suc n ≡ suc (suc (suc (suc (4 * n)))) = omega arith in
    rw q (ap (λ (t : Route). record { source = a; start = b; end = c; reverse = eqb d 1 } ∷ t) (segments_take n ws))

segments_append : (a b : ℕ) (ws : List ℕ) → segments_of (a + b) ws ≡ segments_of a ws ++ segments_of b (drop (4 * a) ws)
unfolding segments_of each
segments_append zero b ws = let z : 0 + b ≡ b = omega arith in rw z
segments_append (suc a) b ws =
    let z : suc a + b ≡ suc (a + b) = omega arith in
    let q : 4 + 4 * a ≡ 4 * suc a = omega arith in
    rw (z, segments_append a b (drop 4 ws), drop-drop (4 * a) 4 ws, q)

bit_back : (b : Bool) → eqb (bit b) 1 ≡ b
bit_back true = refl
bit_back false = refl

segments_back : (l : List Segment) (t : List ℕ) → segments_of (length l) (segment_words l ++ t) ≡ l
unfolding segments_of each segment_of
segments_back [] t = refl
segments_back (s ∷ l) t = rw (bit_back s.reverse, segments_back l t)

-- ---- behind the first word of a room

standing_take : (n : ℕ) (xs : List ℕ) → standing n (take (1 + 4 * n) xs) ≡ standing n xs
unfolding standing
standing_take n [] = ap (λ (l : List ℕ). segments_of n (drop 1 l)) (take-nil (1 + 4 * n))
standing_take n (x ∷ xs) = let q : 1 + 4 * n ≡ suc (4 * n) = omega arith in rw q (segments_take n xs)

standing_same : (n : ℕ) (xs ys : List ℕ) → take (1 + 4 * n) ys ≡ take (1 + 4 * n) xs → standing n ys ≡ standing n xs
standing_same n xs ys e = sym (standing_take n ys) ∙ ap (standing n) e ∙ standing_take n xs

pub standing_set : (n : ℕ) (xs : List ℕ) (x : ℕ) → standing n (set xs 0 x) ≡ standing n xs
unfolding standing
standing_set n xs x = ap (segments_of n) (drop-set-lt 1 xs 0 x (omega arith))

pub standing_none : (xs : List ℕ) → standing 0 xs ≡ []
unfolding standing segments_of each
standing_none xs = refl

module _ (count : ℕ) (xs : List ℕ) (l : List Segment) (h : 1 + 4 * count + 4 * length l ≤ length xs) where
  fits : 1 + 4 * count + length (segment_words l) ≤ length xs
  fits = let e = segment_words_length l in omega arith

  front : length (take (1 + 4 * count) xs) ≡ 1 + 4 * count
  front = length-take-le (1 + 4 * count) xs (omega (arith, h))

  abbrev back : List ℕ
  back = drop (1 + 4 * count + length (segment_words l)) xs

  cut : sets xs (1 + 4 * count) (segment_words l) ≡ take (1 + 4 * count) xs ++ (segment_words l ++ back)
  cut = sets-eq (segment_words l) xs (1 + 4 * count) fits ∙ append_assoc (take (1 + 4 * count) xs) (segment_words l) back

  -- segments put behind the first ones leave them as they are
  pub standing_kept : standing count (sets xs (1 + 4 * count) (segment_words l)) ≡ standing count xs
  standing_kept = standing_same count xs (sets xs (1 + 4 * count) (segment_words l)) (ap (take (1 + 4 * count)) cut ∙ take_at (take (1 + 4 * count) xs) (segment_words l ++ back) (1 + 4 * count) front)

  pub standing_put : standing (count + length l) (sets xs (1 + 4 * count) (segment_words l)) ≡ standing count xs ++ l
  unfolding standing
  standing_put =
      let ys = sets xs (1 + 4 * count) (segment_words l) in
      let d : drop (4 * count) (drop 1 ys) ≡ segment_words l ++ back
      = drop-drop (4 * count) 1 ys ∙ ap (drop (1 + 4 * count)) cut ∙ drop_at (take (1 + 4 * count) xs) (segment_words l ++ back) (1 + 4 * count) front in
      segments_append count (length l) (drop 1 ys) ∙ ap₂ (λ (a b : List Segment). a ++ b) standing_kept (ap (segments_of (length l)) d ∙ segments_back l back)

-- ---- a route at the start of the words

module _ (ws : List ℕ) (n : ℕ) (e : n ≡ 1 + 4 * get_or ws 0 0) (h : n ≤ length ws) where
  long : length (take n ws) ≡ n
  long = length-take-le n ws h

  first : get_or (take n ws) 0 0 ≡ get_or ws 0 0
  first = get_or-take n ws 0 0 (omega arith)

  less : n - 0 ≡ n
  less = omega arith

  pub route_parsed : Parsed (take (n - 0) ws) 1 0
  unfolding UsedUp
  route_parsed =
      let l = long in
      let f = first in
      let d : drop (1 + 4 * get_or (take n ws) 0 0) (take n ws) ≡ [] = rw (f, ← e) (drop_of_length-le (take n ws) {i = n} (omega arith)) in
      rw less (record { inside = omega arith; all = (omega arith, d) })

  pub route_short : n ≤ 65536 → length (take (n - 0) ws) ≤ 65536
  route_short k = rw (less, long) k

  pub route_told : (r : Bool) → r ≡ apart (flat (routes_of 1 (take (n - 0) ws))) → r ≡ apart (segments_of (get_or ws 0 0) (drop 1 ws))
  unfolding routes_of standing
  route_told r t =
      t ∙ ap apart (rw (less, append-nil (segments_of (get_or (take n ws) 0 0) (drop 1 (take n ws))), first, e) (standing_take (get_or ws 0 0) ws))

-- ---- a count put before the first ones

module _ (xs : List ℕ) (count : ℕ) (h : 1 + 4 * count ≤ length xs) where
  head : get_or (set xs 0 count) 0 0 ≡ count
  head = get_or-set_same xs 0 count 0 (omega arith)

  pub first_head : 1 + 4 * count ≡ 1 + 4 * get_or (set xs 0 count) 0 0
  first_head = rw head

  pub first_fits : 1 + 4 * count ≤ length (set xs 0 count)
  first_fits = rw (length-set xs 0 count) h

  pub first_told : (r : Bool) → r ≡ apart (segments_of (get_or (set xs 0 count) 0 0) (drop 1 (set xs 0 count))) → FirstApart count xs (set xs 0 count) r
  unfolding standing
  first_told r t = record { told = t ∙ ap apart (ap (λ (n : ℕ). segments_of n (drop 1 (set xs 0 count))) head ∙ standing_set count xs count); words = refl }
