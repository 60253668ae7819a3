-- What the functions that check the routes of a text promise each other; nothing here is part of a public promise.
use Rattle.std.specs.Prelude.{ℕ, suc, ◌≡◌, Bool, true, ◌&&◌, Option, Some, None, is_some, Result, MatchResult, List, [], ◌∷◌, map, eqb, drop, get_or}
use Rattle.ground.specs.Lists.{pick, all}
use Rattle.image.specs.Panel.{Panel}
use Rattle.evaluate.specs.declared.Segment.{Segment}
use Rattle.evaluate.specs.Refusals.{unless, or_else}
use Rattle.evaluate.specs.Segments.{Route, sound_span, joining}
use Rattle.evaluate.specs.Check.{enters, leaves, joint_refusal, joints_refusal, route_refusal}
use Rattle.names.specs.Names.{lines_of}
use Rattle.rows.specs.Rows.{slot_of}
use Rattle.texts.specs.Bed.{slots_from, gathered}
use Rattle.texts.specs.Inner.{Lined}
use Rattle.routes.specs.declared.RouteRefusal.{RouteRefusal}
use Rattle.routes.specs.Refusals.{number_of, refusal_of}
use Rattle.bed_routes.specs.declared.Seen.{Seen}

-- ---- segment by segment

-- whether the route enters its lane, where the segment at hand is whole
abbrev pub entered_by : ℕ → Seen → Bool
entered_by target w = pick (is_some w.before) w.entered (enters target (w.segment ∷ []))

-- the refusal of the joint before a segment, where there is one
abbrev pub joint_by : Panel → Option Segment → Segment → ℕ
joint_by p None t = 0
joint_by p (Some s) t = joint_refusal p s t

-- the first refusal up to the joint before the segment at hand, where that is whole
abbrev pub joints_by : Panel → Seen → ℕ
joints_by p w = or_else (refusal_of w.joints) (joint_by p w.before w.segment)

-- the segment before, where there is one, and a route
abbrev pub behind_of : Option Segment → Route → Route
behind_of None n = n
behind_of (Some s) n = s ∷ n

-- a normal form from the segment at hand on, behind the one before it
abbrev pub behind : Seen → Route → Route
behind w n = behind_of w.before n

-- the refusal of a route of which so much has been seen, n its normal form from the segment at hand on
abbrev pub normal_verdict : Panel → ℕ → Seen → Route → ℕ
normal_verdict p target w n = unless (pick (is_some w.before) w.entered (enters target n) && leaves p target n) 27 (or_else (refusal_of w.joints) (joints_refusal p (behind w n)))

-- and r the segments as given that follow
unfoldable pub verdict : Panel → ℕ → Seen → Route → ℕ
verdict p target w r = unless (w.sound && all (sound_span p) r) 26 (normal_verdict p target w (joining w.segment r))

-- a route's first segment has been seen
pub record Begun (p : Panel) (s : Segment) (w : Seen) : Type 0 where
  pub same : (target : ℕ) (r : Route) → route_refusal p target (s ∷ r) ≡ verdict p target w r

-- one segment more has been seen
pub record Onward (p : Panel) (target : ℕ) (w : Seen) (t : Segment) (v : Seen) : Type 0 where
  pub same : (r : Route) → verdict p target w (t ∷ r) ≡ verdict p target v r

-- ---- route by route

-- whether the first line, where there is one, begins route number k
abbrev pub opening : ℕ → List (List ℕ) → Bool
opening k [] = true
opening k (l ∷ ls) = eqb (slot_of l) k

-- from a place on, the lines of a text are those of route number k and the later ones
pub record Ahead (text : List ℕ) (k at : ℕ) : Type 0 where
  pub lined : Lined text at
  pub slots : slots_from k (map slot_of (lines_of (drop at text))) ≡ true
  pub opens : opening k (lines_of (drop at text)) ≡ true

-- the routes that begin there
unfoldable pub routes_from : List (List ℕ) → List ℕ → ℕ → ℕ → List Route
routes_from ns text k at = drop 1 (gathered ns k (lines_of (drop at text)))

-- the first of them is not refused, and the next one begins at a place
pub record Passed (p : Panel) (target : ℕ) (ns : List (List ℕ)) (text : List ℕ) (k at next : ℕ) : Type 0 where
  pub none : 0 ≡ route_refusal p target (get_or (routes_from ns text k at) 0 [])
  pub rest : drop 1 (routes_from ns text k at) ≡ routes_from ns text (suc k) next
  pub ahead : Ahead text (suc k) next

-- the first of them has been checked
abbrev pub Judged : Panel → ℕ → List (List ℕ) → List ℕ → ℕ → ℕ → Result ℕ RouteRefusal → Type 0
Judged p target ns text k at r = MatchResult r (λ next. Passed p target ns text k at next) (λ e. number_of e ≡ route_refusal p target (get_or (routes_from ns text k at) 0 []))
