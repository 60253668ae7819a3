-- What the functions that read a text promise each other; nothing here is part of a public promise.
use Rattle.std.specs.Prelude.{ℕ, ◌+◌, ◌*◌, ◌≤◌, ◌<◌, ◌≡◌, true, false, Result, Ok, Err, List, [], ◌∷◌, ◌++◌, eqb, length, drop, get_or}
use Rattle.ground.specs.Lists.{pick, all}
use Rattle.evaluate.specs.Segments.{Route}
use Rattle.evaluate.specs.Words.{segment_words, route_words}
use Rattle.names.specs.Names.{lines_of, ended}
use Rattle.rows.specs.Rows.{is_row, slot_of, segment_of}
use Rattle.texts.specs.declared.TextRefusal.{TextRefusal}
use Rattle.texts.specs.declared.TextRefusal.TheVariants.{Form, UnknownName}
use Rattle.texts.specs.declared.Scan.{Scan}
use Rattle.texts.specs.declared.Line.{Line}
use Rattle.texts.specs.declared.Place.{Place}
use Rattle.texts.specs.Bed.{text_ok, all_known, routes_in, held, gathered}

-- 35: a line is not in the form; 36: a name is not in the table
abbrev pub refusal_number : TextRefusal → ℕ
refusal_number Form = 35
refusal_number UnknownName = 36

-- the number of its words
pub record Counted (ns : List (List ℕ)) (text : List ℕ) (r : Scan) : Type 0 where
  pub words : (f : ℕ) → length (held ns f text) ≡ 2 + r.routes + 4 * r.lines
  pub routes : length (routes_in ns (lines_of text)) ≡ r.routes

-- what a text says as a whole: 35, 36, or the number of its words
abbrev pub Scanned : List (List ℕ) → List ℕ → Result Scan TextRefusal → Type 0
Scanned ns text (Ok r) = (text_ok text ≡ true) × (all_known ns text ≡ true) × Counted ns text r
Scanned ns text (Err Form) = text_ok text ≡ false
Scanned ns text (Err UnknownName) = (text_ok text ≡ true) × (all_known ns text ≡ false)

-- ---- line by line

-- from a place on, where a line begins or the text ends, the lines have the form of rows
pub record Lined (text : List ℕ) (at : ℕ) : Type 0 where
  pub inside : at ≤ length text
  pub ends : ended (drop at text) ≡ true
  pub rows : all is_row (lines_of (drop at text)) ≡ true

-- the line at a place
pub record LineAt (ns : List (List ℕ)) (text : List ℕ) (at : ℕ) (r : Line) : Type 0 where
  pub line : List ℕ
  pub lines : lines_of (drop at text) ≡ line ∷ lines_of (drop r.next text)
  pub segment : r.segment ≡ segment_of ns line
  pub slot : r.slot ≡ slot_of line
  pub further : at < r.next
  pub rest : Lined text r.next

-- ---- the words

-- of a line of this slot: in the route at hand, or in a new one
abbrev pub place_for : ℕ → ℕ → ℕ → ℕ → ℕ → Place
place_for to head count routes slot =
    pick (eqb slot routes) (record { to = to + 1; head = to; count = 1; routes = routes + 1 }) (record { to = to; head = head; count = count + 1; routes = routes })

-- the words of what is added to the route at hand, and of the routes behind it
abbrev pub words_from : List Route → List ℕ
words_from [] = []
words_from (r ∷ rs) = segment_words r ++ route_words rs

-- a text of the form, and a room for the words that it holds; the count of its routes stands there already
pub record Holding (ns : List (List ℕ)) (text : List ℕ) (routes : ℕ) (room : List ℕ) : Type 0 where
  pub good : text_ok text ≡ true
  pub fits : 2 + length (words_from (gathered ns 0 (lines_of text))) ≤ length room
  pub short : 2 + length (words_from (gathered ns 0 (lines_of text))) ≤ 65536
  pub count : get_or room 1 0 ≡ routes
  pub few : routes ≤ 65536
