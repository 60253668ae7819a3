-- The name table (02, item 2): "Names come from a lent table, a line for each lane, 1 to 64 printing ASCII bytes without a space,
-- all different." Every line is ended by a line feed: decided, the last one too.
use Rattle.std.specs.Prelude.{ℕ, suc, ◌-◌, Bool, true, false, ◌&&◌, List, [], ◌∷◌, eqb, length, take, get_or}
use Rattle.ground.specs.Lists.{pick, within, all, distinct}

-- ---- bytes

abbrev pub tab : ℕ
tab = 9

abbrev pub feed : ℕ
feed = 10

-- two lists of bytes are one
unfoldable pub same : List ℕ → List ℕ → Bool
same [] [] = true
same [] (y ∷ t) = false
same (x ∷ s) [] = false
same (x ∷ s) (y ∷ t) = eqb x y && same s t

abbrev pub none : List ℕ → Bool
none [] = true
none (x ∷ s) = false

-- ---- a text cut at a byte

-- a byte more before the first part
abbrev pub longer : ℕ → List (List ℕ) → List (List ℕ)
longer x [] = []
longer x (s ∷ l) = (x ∷ s) ∷ l

-- the parts before, between and behind the bytes b
unfoldable pub cut : ℕ → List ℕ → List (List ℕ)
cut b [] = [] ∷ []
cut b (x ∷ s) = pick (eqb x b) ([] ∷ cut b s) (longer x (cut b s))

-- its lines: the parts before each line feed
unfoldable pub lines_of : List ℕ → List (List ℕ)
lines_of s = take (length (cut feed s) - 1) (cut feed s)

-- each is ended by a line feed: nothing lies behind the last one
unfoldable pub ended : List ℕ → Bool
ended s = none (get_or (cut feed s) (length (cut feed s) - 1) [])

-- ---- the table

-- "1 to 64 printing ASCII bytes without a space"
abbrev pub printing : ℕ → Bool
printing x = within 33 126 x

unfoldable pub name_ok : List ℕ → Bool
name_ok s = within 1 64 (length s) && all printing s

-- 34 where not: a good name for each of so many lanes, no two the same
unfoldable pub table_ok : ℕ → List ℕ → Bool
table_ok lanes s = ended s && eqb (length (lines_of s)) lanes && all name_ok (lines_of s) && distinct same (lines_of s)

-- ---- a lane by its name

-- the number of the lane of this name, or the count of names where none has it
unfoldable pub lane_of : List (List ℕ) → List ℕ → ℕ
lane_of [] s = 0
lane_of (n ∷ ns) s = pick (same n s) 0 (suc (lane_of ns s))

-- the name of a lane
abbrev pub name_at : List (List ℕ) → ℕ → List ℕ
name_at ns lane = get_or ns lane []
