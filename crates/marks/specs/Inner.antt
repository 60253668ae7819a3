-- What the counters ask of one assignment, in the words of search/specs/Counters.
use Rattle.std.specs.Prelude.{◌≡◌, ℕ}
use Rattle.image.specs.Panel.{Panel, lane_at}
use Rattle.evaluate.specs.declared.Segment.{Segment}
use Rattle.evaluate.specs.Segments.{Assignment}
use Rattle.search.specs.Counters.{switches_of, mixes_lanes, mixes_identities}
use Rattle.marks.specs.declared.Marks.{Marks}

abbrev pub lane_of : Segment → ℕ
lane_of s = s.source

abbrev pub identity_of : Panel → Segment → ℕ
identity_of p s = (lane_at p s.source).identity

unfoldable pub marks_of : Panel → Assignment → Marks
marks_of p a = record { switches = switches_of a; lanes = mixes_lanes a; identities = mixes_identities p a }

-- what a call may answer of a segment is its value by f
abbrev pub Tells : (Segment → ℕ → Type 0) → (Segment → ℕ) → Type 0
Tells answers f = (s : Segment) (r : ℕ) → answers s r → r ≡ f s
