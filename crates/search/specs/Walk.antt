-- Places, frames and one unit of the walk (01, "The walk").
use Rattle.std.specs.Prelude.{ℕ, suc, ◌-◌, min, max, Bool, true, false, not, ◌&&◌, ◌||◌, List, [], ◌∷◌, ◌++◌, leb, ltb, eqb, length, get_or}
use Rattle.ground.specs.Lists.{pick, count}
use Rattle.storage.specs.Records.{cut_as, cut_of, no_port}
use Rattle.storage.specs.declared.Port.{Port}
use Rattle.image.specs.Panel.{Panel, lane_at}
use Rattle.evaluate.specs.declared.Segment.{Segment}
use Rattle.evaluate.specs.Segments.{Route, flat, clear}
use Rattle.storage.specs.Records.{same_turn}
use Rattle.graph.specs.Lookups.{bucket_lo, bucket_hi}

-- ---- places and frames

-- where the path has come to: the slot, the lane, the cut and the orientation, with the routes done and the route so far
pub record Place : Type 0 where
  pub slot : ℕ
  pub source : ℕ
  pub cut : ℕ
  pub reverse : Bool
  pub routes : List Route
  pub route : Route

-- a place with what is still to be tried there: the terminal, the next port's number + 1, and the open hub's next member and end (0, 0: none open)
pub record Frame : Type 0 where
  pub place : Place
  pub terminal : Bool
  pub next : ℕ
  pub hub_next : ℕ
  pub hub_end : ℕ

-- the ports of the place's lane
abbrev pub ports_here : Panel → Place → List Port
ports_here p a = (lane_at p a.source).ports

-- the first port "whose cut by the frame's orientation lies past the frame's cut", its number + 1: by how many lie not past it, or before it
abbrev pub first_port : Panel → Place → Bool → ℕ
first_port p a false = suc (count (λ q. leb (cut_as p.k false q.anchor) a.cut) (ports_here p a))
first_port p a true = count (λ q. ltb (cut_as p.k true q.anchor) a.cut) (ports_here p a)

-- the frame of a place that is come to
unfoldable pub enter : Panel → Place → Frame
enter p a = record { place = a; terminal = true; next = first_port p a a.reverse; hub_next = 0; hub_end = 0 }

-- a slot's beginning: its lane, cut 0, forward
abbrev pub begins : ℕ → ℕ → List Route → Place
begins slot lane done = record { slot = slot; source = lane; cut = 0; reverse = false; routes = done; route = [] }

-- the piece from the place's cut to another
abbrev pub piece_to : Place → ℕ → Segment
piece_to a to = record { source = a.source; start = min a.cut to; end = max a.cut to; reverse = a.reverse }

-- the pieces of the path so far
abbrev pub on_path : Place → List Segment
on_path a = flat a.routes ++ a.route

-- ---- one unit on a frame

-- what a unit does: it passes over, goes down to a child, or gives what is to be evaluated
pub data Task (N X : Type 0) : Type 0 where
  pass : Task N X
  down : N → Task N X
  give : X → Task N X

abbrev pub Doing : Type 0
Doing = Task Place (List Route)

-- it leaves the frame, or does a task, with the frame as it is then
pub data Act : Type 0 where
  leave : Act
  doing : Doing → Frame → Act

abbrev pub moved : Frame → ℕ → ℕ → ℕ → Frame
moved f next lo hi = record { place = f.place; terminal = false; next = next; hub_next = lo; hub_end = hi }

-- terminal: "if on the target lane, forward, cut below its length and the closing piece overlaps nothing on the path"
abbrev pub closes : Panel → List ℕ → Place → Bool
closes p paths a =
    eqb a.source (get_or paths a.slot 0) && not a.reverse && ltb a.cut (lane_at p a.source).len
    && clear (piece_to a (lane_at p a.source).len) (on_path a)

-- the routes with this one closed
abbrev pub closed : Panel → Place → List Route
closed p a = a.routes ++ ((a.route ++ (piece_to a (lane_at p a.source).len ∷ [])) ∷ [])

-- "evaluate (last slot) or descend to the next slot's lane"
unfoldable pub terminal_task : Panel → List ℕ → Place → Doing
terminal_task p paths a =
    pick (closes p paths a)
    (pick (eqb (suc a.slot) (length paths)) (give (closed p a)) (down (begins (suc a.slot) (get_or paths (suc a.slot) 0) (closed p a))))
    pass

-- a hub member that "is the outgoing port itself"
abbrev pub same_place : ℕ → Port → Port → Bool
same_place k q out = eqb q.source out.source && eqb (cut_of q k) (cut_of out k) && same_turn q.reverse out.reverse

-- "the piece up to the outgoing cut"
abbrev pub reach : Panel → Place → Port → Segment
reach p a out = piece_to a (cut_of out p.k)

-- "the member's lane, cut and orientation"
abbrev pub switched : Panel → Place → Port → Port → Place
switched p a out q =
    record { slot = a.slot; source = q.source; cut = cut_of q p.k; reverse = q.reverse; routes = a.routes; route = a.route ++ (reach p a out ∷ []) }

-- "passed over if it is the outgoing port itself or the piece up to the outgoing cut overlaps; else descend"
unfoldable pub member_task : Panel → Place → Port → Port → Doing
member_task p a out q = pick (same_place p.k q out || not (clear (reach p a out) (on_path a))) pass (down (switched p a out q))

-- "rising when forward, falling when reverse"
abbrev pub onward : Bool → ℕ → ℕ
onward false n = suc n
onward true n = n - 1

-- the port whose bucket is open: the one behind the next
abbrev pub behind : Bool → ℕ → ℕ
behind false next = next - 2
behind true next = next

abbrev pub outgoing : Panel → Frame → Port
outgoing p f = get_or (ports_here p f.place) (behind f.place.reverse f.next) no_port

abbrev pub hub_open : Frame → Bool
hub_open f = ltb 0 f.hub_end

abbrev pub next_port : Panel → Frame → Port
next_port p f = get_or (ports_here p f.place) (f.next - 1) no_port

-- "no port remains"
abbrev pub spent : Panel → Frame → Bool
spent p f = eqb f.next 0 || ltb (length (ports_here p f.place)) f.next

-- "one of the other orientation is passed over, else its bucket opens"
abbrev pub opening : Panel → Frame → Port → Frame
opening p f q =
    pick (same_turn q.reverse f.place.reverse)
    (moved f (onward f.place.reverse f.next) (bucket_lo p q.word) (bucket_hi p q.word))
    (moved f (onward f.place.reverse f.next) 0 0)

-- the next port, or leaving the frame
unfoldable pub port_unit : Panel → Frame → Act
port_unit p f = pick (spent p f) leave (doing pass (opening p f (next_port p f)))

-- a hub member, or closing a used-up hub
unfoldable pub hub_unit : Panel → Frame → Act
hub_unit p f =
    pick (ltb f.hub_next f.hub_end)
    (doing (member_task p f.place (outgoing p f) (get_or p.hub f.hub_next no_port)) (moved f f.next (suc f.hub_next) f.hub_end))
    (doing pass (moved f f.next 0 0))

-- "A unit on the top frame is one of": the terminal first, then the hub, then the ports
unfoldable pub unit_of : Panel → List ℕ → Frame → Act
unit_of p paths f =
    pick f.terminal (doing (terminal_task p paths f.place) (moved f f.next f.hub_next f.hub_end))
    (pick (hub_open f) (hub_unit p f) (port_unit p f))

-- whether the unit takes a hub member
abbrev pub takes_member : Frame → Bool
takes_member f = not f.terminal && hub_open f && ltb f.hub_next f.hub_end
