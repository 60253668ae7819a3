-- What the spelling call's inner functions promise each other.
use Rattle.std.specs.Prelude.{ℕ, ◌+◌, ◌-◌, ◌*◌, ◌≤◌, ◌<◌, ◌≡◌, List, [], ◌∷◌, ◌++◌, length, drop, get_or}
use Rattle.storage.specs.Bytes.{part}
use Rattle.image.specs.declared.Header.{Header}
use Rattle.image.specs.Panel.{Panel, panel_of}
use Rattle.evaluate.specs.declared.Segment.{Segment}
use Rattle.evaluate.specs.declared.Refusal.{Refusal}
use Rattle.evaluate.specs.Segments.{Route}
use Rattle.evaluate.specs.Legal.{SoundSpans}
use Rattle.evaluate.specs.Check.{over}
use Rattle.words.specs.Inner.{segments_of, assignment_of, Formed}
use Rattle.letters.specs.Letters.{oriented}
use Rattle.letters.specs.Inner.{Lettered}
use Rattle.spell.specs.Spelling.{crop_number, spelled_by}
use Rattle.spell.specs.declared.SpellReply.{SpellReply}

-- the letters of a route
abbrev pub size_of : Segment → ℕ
size_of s = s.end - s.start

unfoldable pub sizes : Route → ℕ
sizes [] = 0
sizes (s ∷ r) = size_of s + sizes r

-- the route of a slot stands at this word
pub record SlotAt (ws : List ℕ) (slot at : ℕ) : Type 0 where
  pub room : at + 1 + 4 * get_or ws at 0 ≤ length ws
  pub is : segments_of (get_or ws at 0) (drop (at + 1) ws) ≡ get_or (assignment_of ws).routes slot []

-- 41 and 37 by the segments' sizes
unfoldable pub crop_by : List ℕ → ℕ → ℕ → ℕ → ℕ → ℕ
crop_by ws slot from to room = crop_number (get_or ws 1 0) (sizes (get_or (assignment_of ws).routes slot [])) slot from to room

-- a segment's letters, by a table of where the lanes' letters begin
unfoldable pub letters_by : List ℕ → List ℕ → Segment → List ℕ
letters_by bases d s = oriented s.reverse (part d (get_or bases s.source 0 + s.start) (size_of s))

unfoldable pub route_by : List ℕ → List ℕ → Route → List ℕ
route_by bases d [] = []
route_by bases d (s ∷ r) = letters_by bases d s ++ route_by bases d r

pub record Inside (bases d : List ℕ) (s : Segment) : Type 0 where
  pub lane : s.source < 4096
  pub order : s.start ≤ s.end
  pub room : get_or bases s.source 0 + s.end ≤ length d

-- words that the check passes, of a panel whose letters are accepted
pub record Passed (s : List ℕ) (h : Header) (d ws : List ℕ) : Type 0 where
  pub lettered : Lettered s h d
  pub formed : Formed ws
  pub spans : SoundSpans (panel_of s) (assignment_of ws)

-- the answer that goes with a refusal, and what it leaves of out
pub record Replied (refusal : Refusal) (p : Panel) (d ws : List ℕ) (slot from to : ℕ) (xs ys : List ℕ) (r : SpellReply) : Type 0 where
  pub answer : r ≡ record { refusal = refusal.number; place = refusal.place; letters = length (spelled_by refusal p d ws slot from to) }
  pub room : ys ≡ over (spelled_by refusal p d ws slot from to) xs
