-- Runs of words in a list: one put in place, two compared, zeros. Nothing here knows of slots.
use mathlib.Core.Path.{◌≡◌, refl, sym, ap, ◌∙◌}
use mathlib.Core.Logic.{◌⊎◌, ⊎_elim}
use mathlib.Core.Bool.{Bool, ◌&&◌}
use mathlib.Core.List.{List, [], ◌∷◌, ◌++◌, append_assoc}
use Prim.Native.Nat.{ℕ, suc, ◌+◌, ◌-◌, ◌≤◌, ◌<◌}
use native.Mathlib.Omega.{arith}
use lib.Dec.{eqb}
use lib.ListN.{length, take, drop, get_or, set, replicate, length-append, length-drop, length-replicate, get_or-append}
use lib.Seq.{drop-drop, drop_at, drop-cons, set_at, get_or-take, get_or-drop, get_or-append-add, length-take-le}
use borrow.Rule.Slice.PartMut.{put_mid, mid_of}
use Rattle.std.specs.List.{copy_within}
use Rattle.std.specs.Cmp.Lexicographic.{pointwise}
use Rattle.search.specs.Keep.{same_list}
use Rattle.slots.specs.Inner.{splice, part, same_words}

pub length_part : {A : Type 0} (a n : ℕ) (xs : List A) → a + n ≤ length xs → length (part a n xs) ≡ n
unfolding part
length_part a n xs h = length-take-le n (drop a xs) (simp length-drop (omega arith))

pub length_splice : {A : Type 0} (xs : List A) (a : ℕ) (vs : List A) → a + length vs ≤ length xs → length (splice xs a vs) ≡ length xs
unfolding splice
length_splice xs a vs h =
    let la : length (take a xs) ≡ a = length-take-le a xs (omega arith) in
    simp (length-append, la, length-drop) (omega arith)

-- For the reader: one word more
pub splice_more : {A : Type 0} (xs : List A) (a : ℕ) (vs : List A) (x : A) → a + length vs < length xs
    → set (splice xs a vs) (a + length vs) x ≡ splice xs a (vs ++ (x ∷ []))
unfolding splice
splice_more xs a vs x h =
    let p : List _ = take a xs ++ vs in
    let q : List _ = drop (suc (a + length vs)) xs in
    let la : length (take a xs) ≡ a = length-take-le a xs (omega arith) in
    let lp : length p ≡ a + length vs = length-append (take a xs) vs ∙ rw la in
    let e : a + length (vs ++ (x ∷ [])) ≡ suc (a + length vs) = simp length-append (omega arith) in
    rw (e, ← append_assoc (take a xs) vs (drop (a + length vs) xs), drop-cons xs (a + length vs) x h, set_at p (get_or xs (a + length vs) x) q x (a + length vs) lp)
    (simp append_assoc)

-- For the reader: what lies before a run and behind it
pub get_d_splice : {A : Type 0} (xs : List A) (a : ℕ) (vs : List A) (j : ℕ) (d : A) → a + length vs ≤ length xs → (j < a) ⊎ (a + length vs ≤ j)
    → get_or (splice xs a vs) j d ≡ get_or xs j d
unfolding splice
get_d_splice xs a vs j d h s = ⊎_elim low high s
  where
    low : j < a → get_or (take a xs ++ (vs ++ drop (a + length vs) xs)) j d ≡ get_or xs j d
    low l =
        let la : length (take a xs) ≡ a = length-take-le a xs (omega arith) in
        get_or-append (take a xs) (vs ++ drop (a + length vs) xs) d j (omega arith) ∙ get_or-take a xs j d l

    high : a + length vs ≤ j → get_or (take a xs ++ (vs ++ drop (a + length vs) xs)) j d ≡ get_or xs j d
    high l =
        let la : length (take a xs) ≡ a = length-take-le a xs (omega arith) in
        let lp : length (take a xs ++ vs) ≡ a + length vs = length-append (take a xs) vs ∙ rw la in
        let e : j ≡ a + length vs + (j - (a + length vs)) = omega arith in
        let f : j ≡ length (take a xs ++ vs) + (j - (a + length vs)) = rw lp e in
        rw (← append_assoc (take a xs) vs (drop (a + length vs) xs)) (ap (λ (t : ℕ). get_or ((take a xs ++ vs) ++ drop (a + length vs) xs) t d) f
        ∙ get_or-append-add (take a xs ++ vs) (drop (a + length vs) xs) (j - (a + length vs)) d
        ∙ get_or-drop (a + length vs) xs (j - (a + length vs)) d ∙ ap (λ (t : ℕ). get_or xs t d) (sym e))

-- what lies behind a run
pub drop_splice : {A : Type 0} (xs : List A) (a n : ℕ) (vs : List A) → length vs ≡ n → a + n ≤ length xs → drop (a + n) (splice xs a vs) ≡ drop (a + n) xs
unfolding splice
drop_splice xs a n vs e h =
    let la : length (take a xs) ≡ a = length-take-le a xs (omega arith) in
    rw (e, ← drop-drop n a (take a xs ++ (vs ++ drop (a + n) xs)), drop_at (take a xs) (vs ++ drop (a + n) xs) a la, drop_at vs (drop (a + n) xs) n e)

-- ---- a run copied
pub copied : {A : Type 0} {ys : List A} (xs : List A) (from to n : ℕ) → from + n ≤ length xs → ys ≡ copy_within xs from (from + n) to → ys ≡ splice xs to (part from n xs)
unfolding splice part
copied xs from to n h e =
    let k : from + n - from ≡ n = omega arith in
    let l : length (take n (drop from xs)) ≡ n = length-take-le n (drop from xs) (simp length-drop (omega arith)) in
    e ∙ rw (k, l) (append_assoc (take to xs) (take n (drop from xs)) (drop (to + n) xs))

-- ---- a run filled with one value
pub filled : {A : Type 0} {ys : List A} (xs : List A) (z : A) (a b n : ℕ) → b ≡ a + n → b ≤ length xs → ys ≡ replicate (length (mid_of a (b - a) xs)) z → put_mid a (b - a) xs ys ≡ splice xs a (replicate n z)
unfolding splice
filled xs z a b n e h q =
    let k : b - a ≡ n = omega arith in
    let l : length (take n (drop a xs)) ≡ n = length-take-le n (drop a xs) (simp length-drop (omega arith)) in
    rw (q, k, l, length-replicate, drop-drop n a xs)

-- ---- two runs compared
pointwise_same : (xs ys : List ℕ) → pointwise eqb xs ys ≡ same_words xs ys
unfolding same_list
pointwise_same [] [] = refl
pointwise_same [] (y ∷ ys) = refl
pointwise_same (x ∷ xs) [] = refl
pointwise_same (x ∷ xs) (y ∷ ys) = ap (λ (t : Bool). eqb x y && t) (pointwise_same xs ys)

pub compared : {r : Bool} (xs : List ℕ) (a b n : ℕ) → r ≡ pointwise eqb (take (a + n - a) (drop a xs)) (take (b + n - b) (drop b xs)) → r ≡ same_words (part a n xs) (part b n xs)
unfolding part
compared xs a b n e =
    let j : a + n - a ≡ n = omega arith in
    let k : b + n - b ≡ n = omega arith in
    e ∙ rw (j, k) (pointwise_same (take n (drop a xs)) (take n (drop b xs)))
