-- Segments, routes and assignments, sound spans, normal form, and shared bases (01, "Legal assignments").
use Rattle.std.specs.Prelude.{ℕ, ◌≤◌, ◌<◌, min, max, ◌≡◌, Bool, true, false, not, ◌&&◌, List, [], ◌∷◌, ◌++◌, map, leb, ltb, eqb, length}
use Rattle.ground.specs.Lists.{pick, all}
use Rattle.storage.specs.Records.{same_turn}
use Rattle.image.specs.Panel.{Panel, lane_at, paths_at}
use Rattle.evaluate.specs.declared.Segment.{Segment}

-- a route: its segments in order
abbrev pub Route : Type 0
Route = List Segment

-- "An assignment names a family and one route for each of its paths."
pub record Assignment : Type 0 where
  pub family : ℕ
  pub routes : List Route

-- "Entry is start, exit is end; swapped for reverse."
abbrev pub entry : Segment → ℕ
entry s = pick s.reverse s.end s.start

abbrev pub exit : Segment → ℕ
exit s = pick s.reverse s.start s.end

-- the lists one behind the other
abbrev pub flat : {A : Type 0} → List (List A) → List A
flat [] = []
flat (l ∷ ls) = l ++ flat ls

-- ---- sound spans: "every segment as given has start < end within its lane"

pub record SoundSpan (p : Panel) (s : Segment) : Type 0 where
  pub lane : s.source < length p.lanes
  pub some : s.start < s.end
  pub inside : s.end ≤ (lane_at p s.source).len

-- the same as a test
abbrev pub sound_span : Panel → Segment → Bool
sound_span p s = ltb s.source (length p.lanes) && ltb s.start s.end && leb s.end (lane_at p s.source).len

-- ---- normal form: "neighbours of one lane and orientation with exit equal to entry are joined"

abbrev pub joinable : Segment → Segment → Bool
joinable s t = eqb s.source t.source && same_turn s.reverse t.reverse && eqb (exit s) (entry t)

abbrev pub joined : Segment → Segment → Segment
joined s t = record { source = s.source; start = min s.start t.start; end = max s.end t.end; reverse = s.reverse }

-- the segment at hand, and those that follow it
unfoldable pub joining : Segment → Route → Route
joining s [] = s ∷ []
joining s (t ∷ r) = pick (joinable s t) (joining (joined s t) r) (s ∷ joining t r)

abbrev pub normalize : Route → Route
normalize [] = []
normalize (s ∷ r) = joining s r

abbrev pub normal_form : Assignment → Assignment
normal_form a = record { family = a.family; routes = map normalize a.routes }

-- no two neighbours are left to join
abbrev pub Unjoined : Segment → Segment → Type 0
Unjoined s t = joinable s t ≡ false

-- ---- shared bases

-- base number x of lane number l lies in the segment
pub record Holds (s : Segment) (l x : ℕ) : Type 0 where
  pub lane : s.source ≡ l
  pub from : s.start ≤ x
  pub below : x < s.end

-- "share a base": some base of some lane lies in both
pub record Share (s t : Segment) : Type 0 where
  pub lane : ℕ
  pub base : ℕ
  pub left : Holds s lane base
  pub right : Holds t lane base

-- the same as a test, for spans that are not empty: on one lane, each starts before the other ends
abbrev pub overlap : Segment → Segment → Bool
overlap s t = eqb s.source t.source && ltb s.start t.end && ltb t.start s.end

-- it shares no base with any of these
abbrev pub clear : Segment → List Segment → Bool
clear s l = all (λ t. not (overlap s t)) l

-- no two of these share one
unfoldable pub apart : List Segment → Bool
apart [] = true
apart (s ∷ l) = clear s l && apart l

-- ---- natives: "the native assignment (each path whole)"

abbrev pub whole : Panel → ℕ → Route
whole p lane = record { source = lane; start = 0; end = (lane_at p lane).len; reverse = false } ∷ []

abbrev pub native_of : Panel → ℕ → Assignment
native_of p f = record { family = f; routes = map (whole p) (paths_at p f) }
