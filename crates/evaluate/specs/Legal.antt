-- Legal assignments, as 01's section of that name states them.
use Rattle.std.specs.Prelude.{ℕ, ◌<◌, ◌≡◌, false, length}
use Rattle.storage.specs.declared.Port.{Port}
use Rattle.image.specs.Panel.{Panel, lane_at, paths_at}
use Rattle.evaluate.specs.declared.Segment.{Segment}
use Rattle.evaluate.specs.Properties.{Each, Pairs, Neighbours, First, Last, Matched}
use Rattle.evaluate.specs.Segments.{Route, Assignment, entry, exit, SoundSpan, Unjoined, Share, flat}
use Rattle.graph.specs.Lookups.{PortAt}

-- "each route enters its target lane forward at 0"
pub record Enters (target : ℕ) (s : Segment) : Type 0 where
  pub lane : s.source ≡ target
  pub forward : s.reverse ≡ false
  pub at_start : entry s ≡ 0

-- "and leaves it forward at the lane's end"
pub record Leaves (p : Panel) (target : ℕ) (s : Segment) : Type 0 where
  pub lane : s.source ≡ target
  pub forward : s.reverse ≡ false
  pub at_end : exit s ≡ (lane_at p target).len

-- "at each joint the left exit has a port in the left orientation and the right entry one in the right, with equal words"
pub record Joint (p : Panel) (s t : Segment) : Type 0 where
  pub left : Port
  pub leaves : PortAt p s.source (exit s) s.reverse left
  pub right : Port
  pub enters : PortAt p t.source (entry t) t.reverse right
  pub words : left.word ≡ right.word

-- one route of a legal assignment, in normal form
pub record LegalRoute (p : Panel) (target : ℕ) (r : Route) : Type 0 where
  pub spans : Each (SoundSpan p) r
  pub normal : Neighbours Unjoined r
  pub enters : First (Enters target) r
  pub leaves : Last (Leaves p target) r
  pub joints : Neighbours (Joint p) r

-- two segments have no base in common
abbrev pub Apart : Segment → Segment → Type 0
Apart s t = Share s t → ⊥

-- a legal assignment: a family, one route for each of its paths, and "no two segments of the whole assignment share a base"
pub record Legal (p : Panel) (a : Assignment) : Type 0 where
  pub family : a.family < length p.families
  pub routes : Matched (LegalRoute p) (paths_at p a.family) a.routes
  pub apart : Pairs Apart (flat a.routes)

-- "Spans are sound when every segment as given has start < end within its lane."
abbrev pub SoundSpans : Panel → Assignment → Type 0
SoundSpans p a = Each (SoundSpan p) (flat a.routes)
