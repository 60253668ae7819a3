-- The earlier segments, chained by lane: a table of the last place of each chain, and for each place the one before it, 0 where there is none.
-- Two more tables have the lowest start and the highest end of each chain: a segment outside them is clear of the chain.
use Rattle.std.specs.Prelude.{ℕ, zero, suc, ◌+◌, ◌*◌, ◌-◌, ◌/◌, ◌%◌, ◌≤◌, ◌≡◌, Bool, true, ◌&&◌, List, [], ◌∷◌, ◌++◌, leb, eqb, length, drop, get_or}
use Rattle.ground.specs.Lists.{pick, all}
use Rattle.evaluate.specs.declared.Segment.{Segment}
use Rattle.evaluate.specs.Properties.{Each}
use Rattle.evaluate.specs.Segments.{clear, apart}
use Rattle.words.specs.Inner.{segment_of, segments_of}

unfoldable pub bucket : Segment → ℕ
bucket s = s.source % 4096

-- the segments of a chain, n at most
unfoldable pub chain : List ℕ → List ℕ → ℕ → ℕ → List Segment
chain ws links zero e = []
chain ws links (suc n) e = pick (eqb e 0) [] (segment_of (drop e ws) ∷ chain ws links n (get_or links (e / 4) 0))

-- each place comes before the next: so many are enough
unfoldable pub chain_of : List ℕ → List ℕ → ℕ → List Segment
chain_of ws links e = chain ws links e e

-- a chain goes down, by four words at least
unfoldable pub Descends : List ℕ → Type 0
Descends links = (j : ℕ) → get_or links j 0 ≤ 4 * j - 1

-- a segment lies between two numbers
pub record Between (low top : ℕ) (t : Segment) : Type 0 where
  pub from : low ≤ t.start
  pub until : t.end ≤ top

-- each of these does
unfoldable pub Within : ℕ → ℕ → List Segment → Type 0
Within low top l = Each (Between low top) l

-- a segment lies behind or before all that is between two numbers
unfoldable pub outside : Segment → ℕ → ℕ → Bool
outside s low top = pick (leb top s.start) true (leb s.end low)

-- the chains of what stands before a place, and the numbers that each lies between
pub record Linked (ws heads links lows tops : List ℕ) (at : ℕ) : Type 0 where
  pub lanes : length heads ≡ 4096
  pub places : length links ≡ 16384
  pub down : Descends links
  pub before : (b : ℕ) → get_or heads b 0 ≤ at - 4
  pub low_lanes : length lows ≡ 4096
  pub top_lanes : length tops ≡ 4096
  pub within : (b : ℕ) → Within (get_or lows b 0) (get_or tops b 0) (chain_of ws links (get_or heads b 0))

-- a segment is clear of the earlier ones of its chain
unfoldable pub clear_seen : List ℕ → List ℕ → List ℕ → Segment → Bool
clear_seen ws heads links u = clear u (chain_of ws links (get_or heads (bucket u) 0))

-- these are clear of the earlier ones and of each other
unfoldable pub all_off : List ℕ → List ℕ → List ℕ → List Segment → Bool
all_off ws heads links l = all (clear_seen ws heads links) l && apart l

-- the segment at a place has been chained, if it is clear
pub record LinkedOne (ws : List ℕ) (at : ℕ) (heads links heads' links' lows' tops' : List ℕ) (r : Bool) : Type 0 where
  pub linked : Linked ws heads' links' lows' tops' (at + 4)
  pub same : (rest : List Segment) → (r && all_off ws heads' links' rest) ≡ all_off ws heads links (segment_of (drop at ws) ∷ rest)

-- the segments of a route
pub record LinkedRoute (ws : List ℕ) (at left : ℕ) (heads links heads' links' lows' tops' : List ℕ) (r : Bool) : Type 0 where
  pub linked : Linked ws heads' links' lows' tops' (at + 4 * left)
  pub same : (rest : List Segment) → (r && all_off ws heads' links' rest) ≡ all_off ws heads links (segments_of left (drop at ws) ++ rest)
