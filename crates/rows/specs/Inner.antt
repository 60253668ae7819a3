-- What the functions that read a line promise each other; nothing here is part of a public promise.
use Rattle.std.specs.Prelude.{ℕ, ◌≡◌, Bool, true, false, ◌&&◌, Option, List, ltb, MatchOption}
use Rattle.ground.specs.Lists.{all}
use Rattle.search.specs.Sheet.{turn_text}
use Rattle.names.specs.Names.{same}
use Rattle.rows.specs.declared.Row.{Row}
use Rattle.rows.specs.Rows.{digit, value_of, too_large, is_row, column, slot_of}

-- digits that make a number below 2^64
abbrev pub fits : List ℕ → Bool
fits s = all digit s && ltb (value_of s) too_large

-- what a good line holds
pub record RowHeld (line : List ℕ) (r : Row) : Type 0 where
  pub name : r.name.now ≡ column 0 line
  pub start : r.start ≡ value_of (column 1 line)
  pub end : r.end ≡ value_of (column 2 line)
  pub slot : r.slot ≡ slot_of line
  pub reverse : r.reverse ≡ same (column 5 line) (turn_text true)

-- a row where the line has its form
abbrev pub RowRead : List ℕ → Option Row → Type 0
RowRead line o = MatchOption o (is_row line ≡ false) (λ r. (is_row line ≡ true) × RowHeld line r)
