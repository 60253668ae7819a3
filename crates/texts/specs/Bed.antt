-- Routes as BED (02, item 2): the text of an assignment, "a line a segment as given", and the words that a text holds.
use Rattle.std.specs.Prelude.{ℕ, suc, Bool, true, ◌&&◌, ◌||◌, List, [], ◌∷◌, ◌++◌, map, ltb, eqb, length, drop}
use Rattle.ground.specs.Lists.{pick, all}
use Rattle.evaluate.specs.declared.Segment.{Segment}
use Rattle.evaluate.specs.Segments.{Route}
use Rattle.evaluate.specs.Words.{encode}
use Rattle.names.specs.Names.{feed, lines_of, ended, lane_of}
use Rattle.rows.specs.Rows.{row_text, is_row, slot_of, segment_of, column}

-- ---- written

unfoldable pub route_text : List (List ℕ) → ℕ → Route → List ℕ
route_text names slot [] = []
route_text names slot (s ∷ r) = row_text names slot s ++ (feed ∷ route_text names slot r)

unfoldable pub routes_text : List (List ℕ) → ℕ → List Route → List ℕ
routes_text names slot [] = []
routes_text names slot (r ∷ rs) = route_text names slot r ++ routes_text names (suc slot) rs

-- ---- read

-- "slots from 0 without a gap": behind k routes, a line belongs to the last of them or begins the next
unfoldable pub slots_from : ℕ → List ℕ → Bool
slots_from k [] = true
slots_from k (n ∷ ns) = (eqb n k || eqb (suc n) k) && slots_from (suc n) ns

-- 35 where not: every line is ended and has the form of a row, and the slots are those of routes in order
unfoldable pub text_ok : List ℕ → Bool
text_ok s = ended s && all is_row (lines_of s) && slots_from 0 (map slot_of (lines_of s))

-- 36 where not: each line's name is in the table
abbrev pub known : List (List ℕ) → List ℕ → Bool
known names line = ltb (lane_of names (column 0 line)) (length names)

unfoldable pub all_known : List (List ℕ) → List ℕ → Bool
all_known names s = all (known names) (lines_of s)

-- a segment more before the first route
abbrev pub onto : Segment → List Route → List Route
onto s [] = (s ∷ []) ∷ []
onto s (r ∷ rs) = (s ∷ r) ∷ rs

-- behind k routes: what the lines add to the last of them, and the routes that they begin
unfoldable pub gathered : List (List ℕ) → ℕ → List (List ℕ) → List Route
gathered names k [] = [] ∷ []
gathered names k (l ∷ ls) = pick (eqb (slot_of l) k) ([] ∷ onto (segment_of names l) (gathered names (suc k) ls)) (onto (segment_of names l) (gathered names k ls))

-- all routes: before the first there is none to add to
unfoldable pub routes_in : List (List ℕ) → List (List ℕ) → List Route
routes_in names ls = drop 1 (gathered names 0 ls)

-- "the words they hold, the family given beside them"
unfoldable pub held : List (List ℕ) → ℕ → List ℕ → List ℕ
held names family s = encode (record { family = family; routes = routes_in names (lines_of s) })
