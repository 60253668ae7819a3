-- What the inner functions promise each other; nothing here is part of a public promise.
use Rattle.image.specs.Header.{refusal_number as panel_number}
use Rattle.std.specs.Prelude.{ℕ, ◌*◌, ◌≤◌, ◌<◌, ◌≡◌, Result, Ok, Err, List, length, drop}
use Rattle.evaluate.specs.declared.Segment.{Segment}
use Rattle.evaluate.specs.declared.Refusal.{Refusal}
use Rattle.evaluate.specs.Properties.{Each}
use Rattle.evaluate.specs.Refusals.{no_refusal, at}
use Rattle.evaluate.specs.Segments.{Assignment as Given}
use Rattle.evaluate.specs.Check.{over}
use Rattle.words.specs.Inner.{Parsed, routes_of}
use Rattle.names.specs.Names.{lines_of}
use Rattle.assignment.specs.Refusals.{number_of as assignment_number, place_of as assignment_place}
use Rattle.texts.specs.Inner.{refusal_number}
use Rattle.texts.specs.Bed.{routes_in}
use Rattle.bed.specs.declared.BedRefusal.{BedRefusal}
use Rattle.bed.specs.declared.BedRefusal.TheVariants.{Panel, Table, Text, Room, Assignment}
use Rattle.bed.specs.declared.BedReply.{BedReply}
use Rattle.bed.specs.Answers.{unrefused, reply_of, room_refusal}

-- a refusal's number
abbrev pub number_of : BedRefusal → ℕ
number_of (Panel e) = panel_number e
number_of Table = 34
number_of (Text e) = refusal_number e
number_of Room = 37
number_of (Assignment e) = assignment_number e

-- and its place
abbrev pub place_of : BedRefusal → ℕ
place_of (Panel e) = 0
place_of Table = 0
place_of (Text e) = 0
place_of Room = 0
place_of (Assignment e) = assignment_place e

-- the reply to how much was written, or to a refusal
abbrev pub answer_of : Result ℕ BedRefusal → BedReply
answer_of (Ok n) = record { refusal = 0; place = 0; length = n }
answer_of (Err e) = record { refusal = number_of e; place = place_of e; length = 0 }

-- a segment of one of so many lanes
abbrev pub OnLane : ℕ → Segment → Type 0
OnLane lanes s = s.source < lanes

-- a length that is that of a text of so many lines
pub record Long (text : List ℕ) (n r : ℕ) : Type 0 where
  pub is : r ≡ length text
  pub small : r ≤ 133 * n

-- routes to be written
pub record Ready (ws : List ℕ) (routes lanes : ℕ) : Type 0 where
  pub parsed : Parsed ws routes 2
  pub named : Each (Each (OnLane lanes)) (routes_of routes (drop 2 ws))
  pub short : length ws ≤ 65536

-- 37
unfoldable pub last_refusal : List ℕ → ℕ → Refusal
last_refusal text room = at (room_refusal (length text) room) 0 no_refusal

-- the answer that goes with a refusal, and what it leaves of out
pub record Replied (refusal : Refusal) (text xs ys : List ℕ) (r : BedReply) : Type 0 where
  pub answer : r ≡ reply_of refusal text
  pub room : ys ≡ over (unrefused refusal text) xs

-- the assignment that a text holds
abbrev pub held_in : List ℕ → ℕ → List ℕ → Given
held_in names family text = record { family = family; routes = routes_in (lines_of names) (lines_of text) }
