-- The frames of a lent room, and the walk's stack as a function of the room and the depth; nothing here is part of a public promise.
use Rattle.std.specs.Prelude.{ℕ, zero, suc, ◌+◌, ◌*◌, ◌<◌, ◌≡◌, Bool, true, false, not, List, [], ◌∷◌, ◌++◌, eqb, get_or}
use Rattle.std.proofs.lemmas.List.Edits.{sets}
use Rattle.evaluate.specs.declared.Segment.{Segment}
use Rattle.evaluate.specs.Segments.{Route, overlap}
use Rattle.evaluate.specs.Words.{bit}
use Rattle.search.specs.Walk.{Place, Frame}
use Rattle.search.specs.Rooms.{frame_width}
use Rattle.frames.specs.declared.Stored.{Stored}

-- ---- one frame in the room

-- its ten words, in their order
abbrev pub stored_words : Stored → List ℕ
stored_words f =
    f.slot ∷ f.source ∷ f.cut ∷ bit f.reverse ∷ bit f.terminal ∷ f.next ∷ f.hub_next ∷ f.hub_end ∷ f.start ∷ f.end ∷ []

unfoldable pub put : List ℕ → ℕ → Stored → List ℕ
put xs i f = sets xs (i * frame_width) (stored_words f)

unfoldable pub stored_at : List ℕ → ℕ → Stored
stored_at xs i =
    record {
      slot = get_or xs (i * frame_width) 0;
      source = get_or xs (i * frame_width + 1) 0;
      cut = get_or xs (i * frame_width + 2) 0;
      reverse = eqb (get_or xs (i * frame_width + 3) 0) 1;
      terminal = eqb (get_or xs (i * frame_width + 4) 0) 1;
      next = get_or xs (i * frame_width + 5) 0;
      hub_next = get_or xs (i * frame_width + 6) 0;
      hub_end = get_or xs (i * frame_width + 7) 0;
      start = get_or xs (i * frame_width + 8) 0;
      end = get_or xs (i * frame_width + 9) 0;
    }

-- ---- the path

-- the routes done and the route so far
pub record Path : Type 0 where
  pub routes : List Route
  pub route : Route

abbrev pub no_path : Path
no_path = record { routes = []; route = [] }

-- the piece that leads from a frame to the one above it: on the lane and in the orientation of the lower
abbrev pub piece_from : Stored → Stored → Segment
piece_from f g = record { source = f.source; start = g.start; end = g.end; reverse = f.reverse }

-- a piece more: the route goes on, or the piece closes it
abbrev pub longer : Bool → Path → Segment → Path
longer true a s = record { routes = a.routes; route = a.route ++ (s ∷ []) }
longer false a s = record { routes = a.routes ++ ((a.route ++ (s ∷ [])) ∷ []); route = [] }

-- a frame of the same slot goes on with the route
abbrev pub path_to : Path → Stored → Stored → Path
path_to a f g = longer (eqb f.slot g.slot) a (piece_from f g)

-- the path that leads to frame i of the room
unfoldable pub path_at : List ℕ → ℕ → Path
path_at xs zero = no_path
path_at xs (suc i) = path_to (path_at xs i) (stored_at xs i) (stored_at xs (suc i))

-- its pieces
unfoldable pub piece_at : List ℕ → ℕ → Segment
piece_at xs i = piece_from (stored_at xs i) (stored_at xs (suc i))

unfoldable pub pieces : List ℕ → ℕ → List Segment
pieces xs zero = []
pieces xs (suc i) = pieces xs i ++ (piece_at xs i ∷ [])

abbrev pub no_segment : Segment
no_segment = record { source = 0; start = 0; end = 0; reverse = false }

unfoldable pub apart_from : Segment → Segment → Bool
apart_from s t = not (overlap s t)

-- ---- the stack

abbrev pub place_with : Path → Stored → Place
place_with a f = record { slot = f.slot; source = f.source; cut = f.cut; reverse = f.reverse; routes = a.routes; route = a.route }

abbrev pub frame_with : Path → Stored → Frame
frame_with a f = record { place = place_with a f; terminal = f.terminal; next = f.next; hub_next = f.hub_next; hub_end = f.hub_end }

unfoldable pub frame_of : List ℕ → ℕ → Frame
frame_of xs i = frame_with (path_at xs i) (stored_at xs i)

-- the first d frames of the room, the top first
unfoldable pub stack_of : List ℕ → ℕ → List Frame
stack_of xs zero = []
stack_of xs (suc d) = frame_of xs d ∷ stack_of xs d

-- the room's first d frames are as they were stored: the flags are 0 or 1, and no piece leads to the root
pub record Linked (xs : List ℕ) (d : ℕ) : Type 0 where
  pub turned : (i : ℕ) → i < d → get_or xs (i * frame_width + 3) 0 ≡ bit (stored_at xs i).reverse
  pub waiting : (i : ℕ) → i < d → get_or xs (i * frame_width + 4) 0 ≡ bit (stored_at xs i).terminal
  pub root_start : 0 < d → (stored_at xs 0).start ≡ 0
  pub root_end : 0 < d → (stored_at xs 0).end ≡ 0

-- a frame that leads as the other did: the same slot, lane and orientation, and the same piece leads to it
pub record Alike (f g : Stored) : Type 0 where
  pub slot : f.slot ≡ g.slot
  pub source : f.source ≡ g.source
  pub reverse : f.reverse ≡ g.reverse
  pub start : f.start ≡ g.start
  pub end : f.end ≡ g.end
