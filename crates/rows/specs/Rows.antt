-- A line of BED (02, item 2): "six columns tab-separated: lane name, start, end, r and the slot number, score 0, strand";
-- "numbers below 2^64 without leading zeros".
use Rattle.std.specs.Prelude.{ℕ, ◌+◌, ◌-◌, ◌*◌, Bool, true, false, not, ◌&&◌, ◌||◌, List, [], ◌∷◌, ◌++◌, ltb, eqb, length, drop, get_or}
use Rattle.ground.specs.Lists.{within, all}
use Rattle.evaluate.specs.declared.Segment.{Segment}
use Rattle.search.specs.Sheet.{decimal, turn_text}
use Rattle.names.specs.Names.{tab, same, cut, name_ok, lane_of, name_at}

-- ---- written

-- r
abbrev pub slot_letter : ℕ
slot_letter = 114

-- 0
abbrev pub score_text : List ℕ
score_text = 48 ∷ []

-- the six columns, with the tabs between them
unfoldable pub row_text : List (List ℕ) → ℕ → Segment → List ℕ
row_text names slot s =
    name_at names s.source ++ (tab ∷ (decimal s.start ++ (tab ∷ (decimal s.end ++ (tab ∷ ((slot_letter ∷ decimal slot)
    ++ (tab ∷ (score_text ++ (tab ∷ turn_text s.reverse)))))))))

-- ---- read

abbrev pub digit : ℕ → Bool
digit x = within 48 57 x

-- the number of these digits, behind those of n
unfoldable pub value_from : ℕ → List ℕ → ℕ
value_from n [] = n
value_from n (x ∷ s) = value_from (10 * n + (x - 48)) s

abbrev pub value_of : List ℕ → ℕ
value_of s = value_from 0 s

-- it has one digit or begins with another than 0
abbrev pub no_leading_zero : List ℕ → Bool
no_leading_zero [] = false
no_leading_zero (x ∷ []) = true
no_leading_zero (x ∷ y ∷ s) = not (eqb x 48)

-- 2^64
abbrev pub too_large : ℕ
too_large = 18446744073709551616

unfoldable pub is_number : List ℕ → Bool
is_number s = no_leading_zero s && all digit s && ltb (value_of s) too_large

-- "r and the slot number"
abbrev pub is_slot : List ℕ → Bool
is_slot [] = false
is_slot (x ∷ s) = eqb x slot_letter && is_number s

-- "strand": + forward, - reverse
abbrev pub is_turn : List ℕ → Bool
is_turn s = same s (turn_text false) || same s (turn_text true)

-- a line's column of this number, from 0
abbrev pub column : ℕ → List ℕ → List ℕ
column n line = get_or (cut tab line) n []

-- 35 where not: the line has this form
unfoldable pub is_row : List ℕ → Bool
is_row line =
    eqb (length (cut tab line)) 6 && name_ok (column 0 line) && is_number (column 1 line) && is_number (column 2 line) && is_slot (column 3 line)
    && same (column 4 line) score_text && is_turn (column 5 line)

-- what such a line holds
unfoldable pub slot_of : List ℕ → ℕ
slot_of line = value_of (drop 1 (column 3 line))

unfoldable pub segment_of : List (List ℕ) → List ℕ → Segment
segment_of names line =
    record {
      source = lane_of names (column 0 line);
      start = value_of (column 1 line);
      end = value_of (column 2 line);
      reverse = same (column 5 line) (turn_text true);
    }
