-- Tests and lists: the few words in which the definitions of the image, the check and the walk are written.
use Rattle.std.specs.Prelude.{ℕ, zero, suc, ◌+◌, Bool, true, false, not, ◌&&◌, ◌||◌, List, [], ◌∷◌, leb, take, drop}

-- one of two, by a test
abbrev pub pick : {A : Type 0} → Bool → A → A → A
pick true a b = a
pick false a b = b

-- lo, hi or a number between
abbrev pub within : ℕ → ℕ → ℕ → Bool
within lo hi n = leb lo n && leb n hi

-- n things of w bytes each, one behind the other: f reads the one that the bytes begin with
unfoldable pub each : {A : Type 0} → (List ℕ → A) → ℕ → ℕ → List ℕ → List A
each f w zero s = []
each f w (suc n) s = f s ∷ each f w n (drop w s)

-- a list cut into parts of these lengths
unfoldable pub split : {A : Type 0} → List ℕ → List A → List (List A)
split [] l = []
split (n ∷ ns) l = take n l ∷ split ns (drop n l)

unfoldable pub sum : List ℕ → ℕ
sum [] = 0
sum (n ∷ ns) = n + sum ns

-- whether all pass a test
unfoldable pub all : {A : Type 0} → (A → Bool) → List A → Bool
all f [] = true
all f (a ∷ l) = f a && all f l

-- whether any passes it
unfoldable pub any : {A : Type 0} → (A → Bool) → List A → Bool
any f [] = false
any f (a ∷ l) = f a || any f l

abbrev pub one_more_if : Bool → ℕ → ℕ
one_more_if true n = suc n
one_more_if false n = n

-- how many pass it
unfoldable pub count : {A : Type 0} → (A → Bool) → List A → ℕ
count f [] = 0
count f (a ∷ l) = one_more_if (f a) (count f l)

abbrev pub cons_if : {A : Type 0} → Bool → A → List A → List A
cons_if true a l = a ∷ l
cons_if false a l = l

-- those that pass it, in order
unfoldable pub keep : {A : Type 0} → (A → Bool) → List A → List A
keep f [] = []
keep f (a ∷ l) = cons_if (f a) a (keep f l)

-- whether each stands in the relation to the next
unfoldable pub after : {A : Type 0} → (A → A → Bool) → A → List A → Bool
after f a [] = true
after f a (b ∷ l) = f a b && after f b l

unfoldable pub rising : {A : Type 0} → (A → A → Bool) → List A → Bool
unfolding after
rising f [] = true
rising f (a ∷ l) = after f a l

-- i, i + 1, .. : n numbers
unfoldable pub numbers_from : ℕ → ℕ → List ℕ
numbers_from i zero = []
numbers_from i (suc n) = i ∷ numbers_from (suc i) n

-- whether none comes twice
unfoldable pub distinct : {A : Type 0} → (A → A → Bool) → List A → Bool
unfolding any
distinct same [] = true
distinct same (a ∷ l) = not (any (same a) l) && distinct same l
