-- What the assignment check's inner functions promise each other: the words read in place, and the normal form from a place on.
use Rattle.std.specs.Prelude.{ℕ, zero, suc, ◌+◌, ◌*◌, ◌≤◌, ◌<◌, ◌≡◌, Bool, true, false, List, [], ◌∷◌, map, eqb, length, drop, get_or}
use Rattle.std.proofs.lemmas.List.Edits.{sets}
use Rattle.ground.specs.Lists.{each}
use Rattle.evaluate.specs.declared.Segment.{Segment}
use Rattle.words.specs.declared.Cursor.{Cursor}
use Rattle.evaluate.specs.Segments.{Route, Assignment, normalize, normal_form}
use Rattle.evaluate.specs.Words.{Read, malformed, got, decode, segment_words, route_words, encode}

-- ---- words that are known to be well formed, read in place

-- the segment that the words begin with
unfoldable pub segment_of : List ℕ → Segment
segment_of ws = record { source = get_or ws 0 0; start = get_or ws 1 0; end = get_or ws 2 0; reverse = eqb (get_or ws 3 0) 1 }

-- the n segments that they begin with
unfoldable pub segments_of : ℕ → List ℕ → Route
segments_of n ws = each segment_of 4 n ws

-- the n routes that they begin with
unfoldable pub routes_of : ℕ → List ℕ → List Route
routes_of zero ws = []
routes_of (suc n) ws = segments_of (get_or ws 0 0) (drop 1 ws) ∷ routes_of n (drop (1 + 4 * get_or ws 0 0) ws)

abbrev pub assignment_of : List ℕ → Assignment
assignment_of ws = record { family = get_or ws 0 0; routes = routes_of (get_or ws 1 0) (drop 2 ws) }

-- n routes use up the words
unfoldable pub UsedUp : ℕ → List ℕ → Type 0
UsedUp zero ws = ws ≡ []
UsedUp (suc n) ws = (1 + 4 * get_or ws 0 0 ≤ length ws) × UsedUp n (drop (1 + 4 * get_or ws 0 0) ws)

-- the words from a place on are those of so many routes
pub record Parsed (ws : List ℕ) (left at : ℕ) : Type 0 where
  pub inside : at ≤ length ws
  pub all : UsedUp left (drop at ws)

-- a route of so many segments stands at a word
pub record RouteAt (ws : List ℕ) (at left : ℕ) : Type 0 where
  pub count : left ≡ get_or ws at 0
  pub inside : at + 1 + 4 * left ≤ length ws

abbrev pub formed : {X : Type 0} → Read X → Bool
formed malformed = false
formed (got x ws) = true

-- the words are those of an assignment
pub record Formed (ws : List ℕ) : Type 0 where
  pub long : 2 ≤ length ws
  pub said : decode ws ≡ got (assignment_of ws) []
  pub parsed : Parsed ws (get_or ws 1 0) 2

-- ---- the normal form from a place on

-- of the segments that stand there
unfoldable pub normal_of : List ℕ → ℕ → ℕ → Route
normal_of ws at left = normalize (segments_of left (drop at ws))

-- the segment at hand and the normal form of those that follow
unfoldable pub normal_from : List ℕ → Cursor → Route
normal_from ws c = c.segment ∷ normal_of ws c.at c.left

-- the first segment of a normal form has been joined from the segments at a place
pub record Reached (ws : List ℕ) (at left : ℕ) (c : Cursor) : Type 0 where
  pub fewer : c.left < left
  pub further : at + 4 ≤ c.at
  pub same : c.at + 4 * c.left ≡ at + 4 * left
  pub normal : normal_of ws at left ≡ normal_from ws c

-- ---- the normal form put into a room

-- a route's words
abbrev pub route_head : Route → List ℕ
route_head r = length r ∷ segment_words r

-- the normal form of the route at a place has been put from `to` on
pub record RoutePut (ws : List ℕ) (to at left : ℕ) (xs ys : List ℕ) (next : ℕ) : Type 0 where
  pub words : ys ≡ sets xs to (route_head (normal_of ws at left))
  pub after : next ≡ to + 1 + 4 * length (normal_of ws at left)
  pub few : next ≤ at + 4 * left

-- the words of the normal forms of n routes
unfoldable pub normal_routes : List ℕ → ℕ → ℕ → List ℕ
normal_routes ws n at = route_words (map normalize (routes_of n (drop at ws)))

-- the normal forms of all routes have been put from the third word on
pub record RoutesPut (ws : List ℕ) (n : ℕ) (xs ys : List ℕ) (next : ℕ) : Type 0 where
  pub words : ys ≡ sets xs 2 (normal_routes ws n 2)
  pub after : next ≡ 2 + length (normal_routes ws n 2)
  pub few : next ≤ length ws

-- the normal form of the whole assignment
pub record NormalPut (ws xs ys : List ℕ) (count : ℕ) : Type 0 where
  pub words : ys ≡ sets xs 0 (encode (normal_form (assignment_of ws)))
  pub long : count ≡ length (encode (normal_form (assignment_of ws)))
  pub few : count ≤ length ws
