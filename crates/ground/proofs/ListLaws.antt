-- The laws between lists of a parsed image and places in its bytes.
use Prim.Native.Nat.{ℕ, zero, suc, ◌+◌, ◌-◌, ◌*◌, ◌≤◌, ◌<◌}
use native.Mathlib.Nat.{not-suc-le-zero, zero-mul, zero-add, mul-le-mul_right, eq-or-lt_of_le}
use mathlib.Core.Logic.{◌⊎◌, inl, inr}
use native.Mathlib.Numerals.{add-one}
use native.Mathlib.Omega.{arith}
use mathlib.Core.Path.{◌≡◌, refl, sym, ap, ◌∙◌}
use mathlib.Core.Bool.{Bool, true, false, true≢false, not, ◌&&◌, or-false}
use mathlib.Core.List.{List, [], ◌∷◌}
use lib.ListN.{length, take, drop, get_or, drop_of_length-le, length-drop}
use lib.Dec.{eqb, ltb}
use native.Mathlib.Decide.{dec_lt}
use borrow.Author.Tests.{eq-eqb, ne_eqb, eqb-true, eqb-false, lt-ltb, le-ltb}
use lib.Seq.{drop-drop, get_or-drop, get_or-take, drop-cons, length-take-le}
use Rattle.ground.specs.Lists.{each, split, sum, all, any, count, after, rising, cons_if, keep, numbers_from, distinct}
use mir.Val.{Fits}
use mir.Syntax.{w64}
use borrow.Author.Rules.{Fits-under}

pub both : (a b : Bool) → (a && b) ≡ true → (a ≡ true) × (b ≡ true)
both true true h = (refl, refl)
both true false h = (refl, h)
both false b h = (h, cc)

module _ {A : Type 0} (f : List ℕ → A) (w : ℕ) (d : A) where
  pub each_length : (n : ℕ) (s : List ℕ) → length (each f w n s) ≡ n
  unfolding each
  each_length zero s = refl
  each_length (suc n) s = ap suc (each_length n (drop w s))

  -- element i of n things of w bytes is the one at byte i * w
  pub each_at : (n : ℕ) (s : List ℕ) (i : ℕ) → i < n → get_or (each f w n s) i d ≡ f (drop (i * w) s)
  unfolding each
  each_at zero s i h = absurd (not-suc-le-zero h)
  each_at (suc n) s zero h = rw zero-mul
  each_at (suc n) s (suc i) h =
      let e : w + i * w ≡ suc i * w = omega arith in
      each_at n (drop w s) i (omega arith) ∙ rw (drop-drop (i * w) w s, e)

  -- the same where the things stand from a place on
  pub each_from : (n : ℕ) (s : List ℕ) (base i : ℕ) → i < n → get_or (each f w n (drop base s)) i d ≡ f (drop (base + i * w) s)
  each_from n s base i h = each_at n (drop base s) i h ∙ rw (drop-drop (i * w) base s)

-- one of count things of w bytes ends where they end
pub place_fits : (base count w i n : ℕ) → i < count → base + count * w ≤ n → base + i * w + w ≤ n
place_fits base count w i n h f = omega (arith, mul-le-mul_right w h)

module _ {A : Type 0} (d : A) where
  -- element i of part j of a list is element (lengths before j) + i of the whole
  pub split_at : (ns : List ℕ) (l : List A) (j i : ℕ) → i < get_or ns j 0 → get_or (get_or (split ns l) j []) i d ≡ get_or l (sum (take j ns) + i) d
  unfolding split sum
  split_at [] l j i h = absurd (not-suc-le-zero h)
  split_at (n ∷ ns) l zero i h = rw zero-add (get_or-take n l i d h)
  split_at (n ∷ ns) l (suc j) i h =
      let e : n + (sum (take j ns) + i) ≡ n + sum (take j ns) + i = omega arith in
      split_at ns (drop n l) j i h ∙ rw (get_or-drop n l (sum (take j ns) + i) d, e)

-- ---- sums of counts

pub sum_take_next : (ns : List ℕ) (j : ℕ) → j < length ns → sum (take (j + 1) ns) ≡ sum (take j ns) + get_or ns j 0
unfolding sum
sum_take_next [] j h = absurd (not-suc-le-zero h)
sum_take_next (n ∷ ns) zero h = omega arith
sum_take_next (n ∷ ns) (suc j) h =
    let e : suc j + 1 ≡ suc (j + 1) = omega arith in
    rw e (let ih = sum_take_next ns j (omega arith) in omega arith)

pub sum_take_le : (ns : List ℕ) (j : ℕ) → sum (take j ns) ≤ sum ns
unfolding sum
sum_take_le [] zero = omega arith
sum_take_le [] (suc j) = omega arith
sum_take_le (n ∷ ns) zero = omega arith
sum_take_le (n ∷ ns) (suc j) = let ih = sum_take_le ns j in omega arith

-- a part ends within the sum
pub sum_part_le : (ns : List ℕ) (j : ℕ) → j < length ns → sum (take j ns) + get_or ns j 0 ≤ sum ns
sum_part_le ns j h = let e = sum_take_next ns j h in let l = sum_take_le ns (j + 1) in omega arith

-- ---- one more turn of a loop over a list

module _ {A : Type 0} (d : A) where
  pub drop_next_of : (l : List A) (i : ℕ) → i < length l → drop i l ≡ get_or l i d ∷ drop (i + 1) l
  drop_next_of l i h = rw (add-one, drop-cons l i d)

  pub all_next : (f : A → Bool) (l : List A) (i : ℕ) → i < length l → all f (drop i l) ≡ (f (get_or l i d) && all f (drop (i + 1) l))
  unfolding all
  all_next f l i h = rw (drop_next_of l i h)

  pub all_done : (f : A → Bool) (l : List A) (i : ℕ) → length l ≤ i → all f (drop i l) ≡ true
  unfolding all
  all_done f l i h =
      let none : drop i l ≡ [] = drop_of_length-le l {i = i} h in
      rw none

pub sum_next : (ns : List ℕ) (i : ℕ) → i < length ns → sum (drop i ns) ≡ get_or ns i 0 + sum (drop (i + 1) ns)
unfolding sum
sum_next ns i h = rw (drop_next_of 0 ns i h)

pub sum_done : (ns : List ℕ) (i : ℕ) → length ns ≤ i → sum (drop i ns) ≡ 0
unfolding sum
sum_done ns i h =
    let none : drop i ns ≡ [] = drop_of_length-le ns {i = i} h in
    rw none

-- ---- the parts' lengths

pub split_length : {A : Type 0} (ns : List ℕ) (l : List A) (j : ℕ) → sum ns ≤ length l → length (get_or (split ns l) j []) ≡ get_or ns j 0
unfolding split sum
split_length [] l j h = refl
split_length (n ∷ ns) l zero h = length-take-le n l (omega arith)
split_length (n ∷ ns) l (suc j) h = split_length ns (drop n l) j (rw length-drop (omega arith))

pub splits : {A : Type 0} (ns : List ℕ) (l : List A) → length (split ns l) ≡ length ns
unfolding split
splits [] l = refl
splits (n ∷ ns) l = ap suc (splits ns (drop n l))

-- ---- a loop that asks a test of every element

pub record AllFrom {A : Type 0} (f : A → Bool) (l : List A) (n i : ℕ) : Type 0 where
  pub within : i ≤ n
  pub todo : all f l ≡ all f (drop i l)

pub all_start : {A : Type 0} (f : A → Bool) (l : List A) (n : ℕ) → AllFrom f l n 0
all_start f l n = record { within = omega arith; todo = refl }

module _ {A : Type 0} (d : A) (f : A → Bool) (l : List A) (n i : ℕ) (r : Bool) (so : AllFrom f l n i) (lt : i < n) (test : r ≡ f (get_or l i d)) (long : length l ≡ n) where
  all_step : all f l ≡ (r && all f (drop (i + 1) l))
  all_step =
      let room : i < length l = omega arith in
      so.todo ∙ rw test (all_next d f l i room)

  pub all_again : r ≡ true → AllFrom f l n (i + 1)
  all_again e = record { within = omega arith; todo = all_step ∙ rw e }

  pub all_fails : r ≡ false → false ≡ all f l
  all_fails e = sym (all_step ∙ rw e)

pub all_ends : {A : Type 0} (f : A → Bool) (l : List A) (n i : ℕ) → AllFrom f l n i → n ≤ i → length l ≡ n → true ≡ all f l
unfolding all
all_ends f l n i so le long =
    let none : drop i l ≡ [] = drop_of_length-le l {i = i} (omega arith) in
    sym (so.todo ∙ rw none)

-- ---- a loop that asks whether each stands in the relation to the next

-- ---- a loop that asks whether numbers sum to a total, by taking each from what is left

pub record SumsFrom (ns : List ℕ) (total n left i : ℕ) : Type 0 where
  pub within : i ≤ n
  pub todo : eqb (sum ns) total ≡ eqb (sum (drop i ns)) left

eqb_less : (x y left : ℕ) → x ≤ left → eqb (x + y) left ≡ eqb y (left - x)
eqb_less x y left h = go (eqb y (left - x)) refl
  where
    go : (t : Bool) → eqb y (left - x) ≡ t → eqb (x + y) left ≡ eqb y (left - x)
    go true e = let q = eqb-true y (left - x) e in eq-eqb (x + y) left (omega arith) ∙ sym e
    go false e =
        let f : y ≡ left - x → ⊥ = eqb-false y (left - x) e in
        let g : x + y ≡ left → ⊥ = λ q. f (omega arith) in
        ne_eqb (x + y) left g ∙ sym e

module _ (ns : List ℕ) (total n left i x : ℕ) (so : SumsFrom ns total n left i) (lt : i < n) (is : x ≡ get_or ns i 0) (long : length ns ≡ n) where
  sums_step : eqb (sum ns) total ≡ eqb (x + sum (drop (i + 1) ns)) left
  sums_step =
      let room : i < length ns = omega arith in
      so.todo ∙ rw (sum_next ns i room, is)

  pub sums_again : x ≤ left → SumsFrom ns total n (left - x) (i + 1)
  sums_again h = record { within = omega arith; todo = sums_step ∙ eqb_less x (sum (drop (i + 1) ns)) left h }

  pub sums_over : left < x → false ≡ eqb (sum ns) total
  sums_over h = sym (sums_step ∙ ne_eqb (x + sum (drop (i + 1) ns)) left (λ e. let z : ⊥ = omega arith in z))

pub sums_ends : (ns : List ℕ) (total n left i : ℕ) (r : Bool) → SumsFrom ns total n left i → n ≤ i → length ns ≡ n → r ≡ eqb 0 left → r ≡ eqb (sum ns) total
sums_ends ns total n left i r so le long e = e ∙ sym (so.todo ∙ rw (sum_done ns i (omega arith)))

-- ---- a binary search for the first element that fails a test

-- once false, false from there on
abbrev pub Falls : {A : Type 0} → (A → Bool) → List A → A → Type 0
Falls f l d = (p q : ℕ) → p ≤ q → q < length l → f (get_or l q d) ≡ true → f (get_or l p d) ≡ true

pub record Cut {A : Type 0} (f : A → Bool) (l : List A) (d : A) (n lo hi : ℕ) : Type 0 where
  pub order : lo ≤ hi
  pub within : hi ≤ n
  pub lower : (p : ℕ) → p < lo → f (get_or l p d) ≡ true
  pub rest : (q : ℕ) → hi ≤ q → q < n → f (get_or l q d) ≡ false

pub cut_start : {A : Type 0} (f : A → Bool) (l : List A) (d : A) (n : ℕ) → Cut f l d n 0 n
cut_start f l d n = record { order = omega arith; within = omega arith; lower = λ p h. absurd (not-suc-le-zero h); rest = λ q h m. absurd (omega arith) }

count_is : {A : Type 0} (f : A → Bool) (l : List A) (d : A) (r : ℕ) → r ≤ length l → ((p : ℕ) → p < r → f (get_or l p d) ≡ true)
    → ((q : ℕ) → r ≤ q → q < length l → f (get_or l q d) ≡ false) → r ≡ count f l
unfolding count
count_is f [] d r h lo hi = omega arith
count_is f (x ∷ l) d zero h lo hi = rw (hi 0 (omega arith) (omega arith)) (count_is f l d zero (omega arith) (λ p k. absurd (not-suc-le-zero k)) (λ q k m. hi (suc q) (omega arith) (omega arith)))
count_is f (x ∷ l) d (suc r) h lo hi = rw (lo 0 (omega arith)) (ap suc (count_is f l d r (omega arith) (λ p k. lo (suc p) (omega arith)) (λ q k m. hi (suc q) (omega arith) (omega arith))))

pub cut_done : {A : Type 0} (f : A → Bool) (l : List A) (d : A) (n lo hi : ℕ) → Cut f l d n lo hi → hi ≤ lo → length l ≡ n → lo ≡ count f l
cut_done f l d n lo hi so le long =
    let o = so.order in
    let w = so.within in
    count_is f l d lo (omega arith) so.lower (λ q h m. so.rest q (omega arith) (omega arith))

-- the place of a search between lo and hi, behind the last that passes and before the first that fails
pub point_counts : {A : Type 0} (f : A → Bool) (l : List A) (d : A) (n lo hi r : ℕ) → Falls f l d → Cut f l d n lo hi → length l ≡ n → (lo ≤ r) × (r ≤ hi)
    → (lo < r → true ≡ f (get_or l (r - 1) d)) → (r < hi → false ≡ f (get_or l r d)) → r ≡ count f l
point_counts f l d n lo hi r falls so long room last first =
    let w = so.within in
    let low = room.0 in
    let high = room.1 in
    count_is f l d r (omega arith) (λ p h. below p h (dec_lt p lo)) (λ q h m. beyond q h m (dec_lt q hi) (f (get_or l q d)) refl)
  where
    below : (p : ℕ) → p < r → Dec (p < lo) → f (get_or l p d) ≡ true
    below p h (yes y) = so.lower p y
    below p h (no z) =
        let w = so.within in
        let high = room.1 in
        let k : lo < r = omega arith in
        falls p (r - 1) (omega arith) (omega arith) (sym (last k))

    beyond : (q : ℕ) → r ≤ q → q < length l → Dec (q < hi) → (t : Bool) → f (get_or l q d) ≡ t → f (get_or l q d) ≡ false
    beyond q h m (no z) t e = so.rest q (omega arith) (omega arith)
    beyond q h m (yes y) false e = e
    beyond q h m (yes y) true e =
        let k : r < hi = omega arith in
        absurd (true≢false (sym (first k ∙ falls r q h m e)))

-- ---- lists that rise by a number

abbrev pub Rises : {A : Type 0} → (A → ℕ) → List A → A → Type 0
Rises key l d = (p q : ℕ) → p < q → q < length l → key (get_or l p d) < key (get_or l q d)

module _ {A : Type 0} (key : A → ℕ) (f : A → A → Bool) (less : (a b : A) → f a b ≡ true → key a < key b) (d : A) where
  after_rises : (a : A) (l : List A) → after f a l ≡ true → (q : ℕ) → q < length l → key a < key (get_or l q d)
  unfolding after
  after_rises a [] e q h = absurd (not-suc-le-zero h)
  after_rises a (b ∷ l) e zero h = less a b (both (f a b) (after f b l) e).0
  after_rises a (b ∷ l) e (suc q) h =
      let first = less a b (both (f a b) (after f b l) e).0 in
      let rest = after_rises b l (both (f a b) (after f b l) e).1 q (omega arith) in
      omega arith

  rising_tail : (a : A) (l : List A) → after f a l ≡ true → rising f l ≡ true
  unfolding after rising
  rising_tail a [] e = refl
  rising_tail a (b ∷ l) e = (both (f a b) (after f b l) e).1

  pub rising_rises : (l : List A) → rising f l ≡ true → Rises key l d
  unfolding rising
  rising_rises [] e p q h m = absurd (not-suc-le-zero m)
  rising_rises (a ∷ l) e zero zero h m = absurd (not-suc-le-zero h)
  rising_rises (a ∷ l) e zero (suc q) h m = after_rises a l e q (omega arith)
  rising_rises (a ∷ l) e (suc p) zero h m = absurd (not-suc-le-zero h)
  rising_rises (a ∷ l) e (suc p) (suc q) h m = rising_rises l (rising_tail a l e) p q (omega arith) (omega arith)

-- a list in which each stands in a relation to the next that carries over: any two stand in it
module _ {A : Type 0} (f : A → A → Bool) (chain : (a b c : A) → f a b ≡ true → f b c ≡ true → f a c ≡ true) (d : A) where
  after_pairs : (a : A) (l : List A) → after f a l ≡ true → (q : ℕ) → q < length l → f a (get_or l q d) ≡ true
  unfolding after
  after_pairs a [] e q h = absurd (not-suc-le-zero h)
  after_pairs a (b ∷ l) e zero h = (both (f a b) (after f b l) e).0
  after_pairs a (b ∷ l) e (suc q) h =
      let (first, rest) = both (f a b) (after f b l) e in
      chain a b (get_or l q d) first (after_pairs b l rest q (omega arith))

  pairs_tail : (a : A) (l : List A) → after f a l ≡ true → rising f l ≡ true
  unfolding after rising
  pairs_tail a [] e = refl
  pairs_tail a (b ∷ l) e = (both (f a b) (after f b l) e).1

  pub rising_pairs : (l : List A) → rising f l ≡ true → (p q : ℕ) → p < q → q < length l → f (get_or l p d) (get_or l q d) ≡ true
  unfolding rising
  rising_pairs [] e p q h m = absurd (not-suc-le-zero m)
  rising_pairs (a ∷ l) e zero zero h m = absurd (not-suc-le-zero h)
  rising_pairs (a ∷ l) e zero (suc q) h m = after_pairs a l e q (omega arith)
  rising_pairs (a ∷ l) e (suc p) zero h m = absurd (not-suc-le-zero h)
  rising_pairs (a ∷ l) e (suc p) (suc q) h m = rising_pairs l (pairs_tail a l e) p q (omega arith) (omega arith)

  -- a test that whoever stands before one that passes passes too
  pub rising_falls : (t : A → Bool) → ((a b : A) → f a b ≡ true → t b ≡ true → t a ≡ true) → (l : List A) → rising f l ≡ true → Falls t l d
  rising_falls t back l e p q le m h = go (eq-or-lt_of_le le)
    where
      go : (p ≡ q) ⊎ (p < q) → t (get_or l p d) ≡ true
      go (inl same) = rw same h
      go (inr lt) = back (get_or l p d) (get_or l q d) (rising_pairs l e p q lt m) h

ltb_suc : (m n : ℕ) → ltb (suc m) (suc n) ≡ ltb m n
ltb_suc m n = go (dec_lt m n)
  where
    go : Dec (m < n) → ltb (suc m) (suc n) ≡ ltb m n
    go (yes h) = lt-ltb (suc m) (suc n) (omega arith) ∙ sym (lt-ltb m n h)
    go (no f) = le-ltb (suc m) (suc n) (omega arith) ∙ sym (le-ltb m n (omega arith))

-- ---- in a list that rises by a key, only the element at the count of lower ones can be the one looked for

module _ {A : Type 0} (key : A → ℕ) (d : A) (same below : A → Bool) (at : ℕ) (alike : (a : A) → same a ≡ true → key a ≡ at) (is : (a : A) → below a ≡ ltb (key a) at) where
  differs : (a : A) → (key a ≡ at → ⊥) → same a ≡ false
  differs a ne = go (same a) refl
    where
      go : (t : Bool) → same a ≡ t → same a ≡ false
      go true e = absurd (ne (alike a e))
      go false e = e

  none_above : (l : List A) → ((q : ℕ) → q < length l → at < key (get_or l q d)) → (any same l ≡ false) × (count below l ≡ 0)
  unfolding any count
  none_above [] h = (refl, refl)
  none_above (a ∷ l) h =
      let first = h 0 (omega arith) in
      let ne : key a ≡ at → ⊥ = λ e. absurd (omega arith) in
      let rest = none_above l (λ q m. h (suc q) (omega arith)) in
      (rw (differs a ne) rest.0, rw (is a, le-ltb (key a) at (omega arith)) rest.1)

  pub any_at : (l : List A) → Rises key l d → any same l ≡ (ltb (count below l) (length l) && same (get_or l (count below l) d))
  unfolding any count
  any_at [] h = refl
  any_at (a ∷ l) h = go (any_at l (λ p q m n. h (suc p) (suc q) (omega arith) (omega arith))) (dec_lt (key a) at)
    where
      go : any same l ≡ (ltb (count below l) (length l) && same (get_or l (count below l) d)) → Dec (key a < at) → any same (a ∷ l) ≡ (ltb (count below (a ∷ l)) (length (a ∷ l)) && same (get_or (a ∷ l) (count below (a ∷ l)) d))
      go ih (yes lt) =
          let ne : key a ≡ at → ⊥ = λ e. absurd (omega arith) in
          rw (differs a ne, is a, lt-ltb (key a) at lt, ltb_suc (count below l) (length l)) ih
      go ih (no ge) =
          let rest = none_above l (λ q m. let k = h 0 (suc q) (omega arith) (omega arith) in omega arith) in
          rw (rest.0, is a, le-ltb (key a) at (omega arith), rest.1, lt-ltb 0 (suc (length l)) (omega arith)) (or-false (same a))

  keep_none : (l : List A) → ((q : ℕ) → q < length l → at < key (get_or l q d)) → (keep same l ≡ []) × (count below l ≡ 0)
  unfolding keep count
  keep_none [] h = (refl, refl)
  keep_none (a ∷ l) h =
      let first = h 0 (omega arith) in
      let ne : key a ≡ at → ⊥ = λ e. absurd (omega arith) in
      let rest = keep_none l (λ q m. h (suc q) (omega arith)) in
      (rw (differs a ne) rest.0, rw (is a, le-ltb (key a) at (omega arith)) rest.1)

  -- it is the only one kept
  pub keep_at : (l : List A) → Rises key l d → keep same l ≡ cons_if (ltb (count below l) (length l) && same (get_or l (count below l) d)) (get_or l (count below l) d) []
  unfolding keep count
  keep_at [] h = refl
  keep_at (a ∷ l) h = go (keep_at l (λ p q m n. h (suc p) (suc q) (omega arith) (omega arith))) (dec_lt (key a) at)
    where
      go : keep same l ≡ cons_if (ltb (count below l) (length l) && same (get_or l (count below l) d)) (get_or l (count below l) d) [] → Dec (key a < at)
          → keep same (a ∷ l) ≡ cons_if (ltb (count below (a ∷ l)) (length (a ∷ l)) && same (get_or (a ∷ l) (count below (a ∷ l)) d)) (get_or (a ∷ l) (count below (a ∷ l)) d) []
      go ih (yes lt) =
          let ne : key a ≡ at → ⊥ = λ e. absurd (omega arith) in
          rw (differs a ne, is a, lt-ltb (key a) at lt, ltb_suc (count below l) (length l)) ih
      go ih (no ge) =
          let rest = keep_none l (λ q m. let k = h 0 (suc q) (omega arith) (omega arith) in omega arith) in
          rw (rest.0, is a, le-ltb (key a) at (omega arith), rest.1, lt-ltb 0 (suc (length l)) (omega arith))

-- a test that none passes keeps none
pub keep_nothing : {A : Type 0} (f : A → Bool) → ((a : A) → f a ≡ false) → (l : List A) → keep f l ≡ []
unfolding keep
keep_nothing f h [] = refl
keep_nothing f h (a ∷ l) = rw (h a) (keep_nothing f h l)

-- a test that all pass, each passes
pub all_at : {A : Type 0} (d : A) (f : A → Bool) (l : List A) (i : ℕ) → all f l ≡ true → i < length l → f (get_or l i d) ≡ true
unfolding all
all_at d f [] i e h = absurd (not-suc-le-zero h)
all_at d f (a ∷ l) zero e h = (both (f a) (all f l) e).0
all_at d f (a ∷ l) (suc i) e h = all_at d f l i (both (f a) (all f l) e).1 (omega arith)

pub numbers_length : (i n : ℕ) → length (numbers_from i n) ≡ n
unfolding numbers_from
numbers_length i zero = refl
numbers_length i (suc n) = ap suc (numbers_length (suc i) n)

pub numbers_at : (i n j : ℕ) → j < n → get_or (numbers_from i n) j 0 ≡ i + j
unfolding numbers_from
numbers_at i zero j h = absurd (not-suc-le-zero h)
numbers_at i (suc n) zero h = omega arith
numbers_at i (suc n) (suc j) h = let e = numbers_at (suc i) n j (omega arith) in omega arith

-- ---- a loop that sums the first numbers of a list

pub record SumTo (ns : List ℕ) (top at i : ℕ) : Type 0 where
  pub within : i ≤ top
  pub so_far : at ≡ sum (take i ns)

pub sum_to_start : (ns : List ℕ) (top : ℕ) → SumTo ns top 0 0
unfolding sum
sum_to_start ns top = record { within = omega arith; so_far = refl }

module _ (ns : List ℕ) (top at i x n total : ℕ) (so : SumTo ns top at i) (lt : i < top) (is : x ≡ get_or ns i 0) (low : top ≤ n) (long : length ns ≡ n) where
  sum_to_step : at + x ≡ sum (take (i + 1) ns)
  sum_to_step =
      let room : i < length ns = omega arith in
      rw (so.so_far, is) (sym (sum_take_next ns i room))

  pub sum_to_next : SumTo ns top (at + x) (i + 1)
  sum_to_next = record { within = omega arith; so_far = sum_to_step }

  pub sum_to_fits : sum ns ≡ total → total ≤ 4194304 → Fits w64 (at + x)
  sum_to_fits e small =
      let l = sum_take_le ns (i + 1) in
      let step = sum_to_step in
      let b : at + x < 4194305 = omega arith in
      Fits-under w64 (at + x) 4194305 b tt

-- ---- a loop that asks whether any passes a test

-- ---- a loop that asks whether no element comes again

pub record DistinctFrom {A : Type 0} (same : A → A → Bool) (l : List A) (n i : ℕ) : Type 0 where
  pub within : i ≤ n
  pub todo : distinct same l ≡ distinct same (drop i l)

pub distinct_start : {A : Type 0} (same : A → A → Bool) (l : List A) (n : ℕ) → DistinctFrom same l n 0
distinct_start same l n = record { within = omega arith; todo = refl }

module _ {A : Type 0} (d : A) (same : A → A → Bool) (l : List A) (n i : ℕ) (r : Bool) (so : DistinctFrom same l n i) (lt : i < n) (test : r ≡ any (same (get_or l i d)) (drop (i + 1) l)) (long : length l ≡ n) where
  distinct_step : distinct same l ≡ (not r && distinct same (drop (i + 1) l))
  unfolding distinct
  distinct_step =
      let room : i < length l = omega arith in
      so.todo ∙ rw (drop_next_of d l i room, test)

  pub distinct_again : r ≡ false → DistinctFrom same l n (i + 1)
  distinct_again e = record { within = omega arith; todo = distinct_step ∙ rw e }

  pub distinct_fails : r ≡ true → false ≡ distinct same l
  distinct_fails e = sym (distinct_step ∙ rw e)

pub distinct_ends : {A : Type 0} (same : A → A → Bool) (l : List A) (n i : ℕ) → DistinctFrom same l n i → n ≤ i → length l ≡ n → true ≡ distinct same l
unfolding distinct
distinct_ends same l n i so le long =
    let none : drop i l ≡ [] = drop_of_length-le l {i = i} (omega arith) in
    sym (so.todo ∙ rw none)
