-- One unit on a stored frame, against the walk's unit; nothing here is part of a public promise.
use Rattle.std.specs.Prelude.{ℕ, suc, ◌+◌, ◌-◌, ◌*◌, ◌≤◌, ◌<◌, ◌⊎◌, ◌≡◌, Bool, true, false, not, ◌&&◌, List, ◌++◌, leb, ltb, eqb, length, get_or}
use Rattle.ground.specs.Lists.{pick}
use Rattle.storage.specs.Records.{no_port, cut_of, same_turn}
use Rattle.storage.specs.declared.Port.{Port}
use Rattle.storage.specs.declared.Members.{Members}
use Rattle.storage.specs.Orders.{bucket_of}
use Rattle.image.specs.declared.Header.{Header}
use Rattle.image.specs.declared.Lane.{Lane}
use Rattle.image.specs.declared.Family.{Family}
use Rattle.image.specs.Image.{counts, ports_of}
use Rattle.image.specs.Inner.{Started, Stands, Groups}
use Rattle.image.specs.Panel.{Panel, panel_of, paths_at}
use Rattle.panel.specs.Inner.{Accepted}
use Rattle.evaluate.specs.declared.Segment.{Segment}
use Rattle.evaluate.specs.Segments.{clear, flat}
use Rattle.search.specs.Walk.{Place, Frame, Doing, pass, down, give, Act, leave, doing, first_port, begins, piece_to, on_path, member_task, reach, outgoing, behind, onward, hub_open, unit_of, takes_member}
use Rattle.search.specs.Rooms.{frame_width}
use Rattle.frames.specs.declared.Stored.{Stored}
use Rattle.frames.specs.Inner.{Path, no_path, longer, path_to, path_at, place_with, frame_with, stored_at, put, Alike}
use Rattle.landings.specs.declared.Landing.{Landing}
use Rattle.advance.specs.declared.Action.{Action}
use Rattle.advance.specs.declared.Action.TheVariants.{Leave, Pass, Down, Give}
use Rattle.advance.specs.declared.Turn.{Turn}

-- ---- stored frames

-- the place of a frame, with no path
abbrev pub bare : Stored → Place
bare f = place_with no_path f

abbrev pub moved_to : Stored → ℕ → ℕ → ℕ → Stored
moved_to f next lo hi =
    record { slot = f.slot; source = f.source; cut = f.cut; reverse = f.reverse; terminal = false; next = next; hub_next = lo; hub_end = hi; start = f.start; end = f.end }

abbrev pub child_of : ℕ → Landing → Segment → Stored
child_of slot to s =
    record { slot = slot; source = to.source; cut = to.cut; reverse = to.reverse; terminal = true; next = 0; hub_next = 0; hub_end = 0; start = s.start; end = s.end }

unfoldable pub entered : Panel → Stored → Stored
entered p f =
    record {
      slot = f.slot;
      source = f.source;
      cut = f.cut;
      reverse = f.reverse;
      terminal = f.terminal;
      next = first_port p (bare f) f.reverse;
      hub_next = f.hub_next;
      hub_end = f.hub_end;
      start = f.start;
      end = f.end;
    }

abbrev pub leaving : Stored → Turn
leaving f = record { action = Leave; frame = f; taken = 0; clear = true }

-- what every frame on the stack of a family of n paths keeps to: its lane and slot are there, its next port is one of the lane's, one before or
-- one behind, an open hub's port is the one behind the next, and while the terminal is pending no hub is open
pub record Sound (s : List ℕ) (h : Header) (n : ℕ) (f : Stored) : Type 0 where
  pub lane : f.source < h.lanes
  pub slot : f.slot < n
  pub ports : f.next ≤ get_or (counts h s) f.source 0 + 1
  pub hub : f.hub_end ≤ h.ports
  pub opened : 0 < f.hub_end → behind f.reverse f.next < get_or (counts h s) f.source 0
  pub second : 0 < f.hub_end → f.reverse ≡ false → 2 ≤ f.next
  pub waiting : f.terminal ≡ true → f.hub_end ≡ 0

-- a child that is yet to be entered
pub record Child (s : List ℕ) (h : Header) (n : ℕ) (f : Stored) : Type 0 where
  pub lane : f.source < h.lanes
  pub slot : f.slot < n
  pub waiting : f.terminal ≡ true
  pub no_next : f.next ≡ 0
  pub no_hub : f.hub_next ≡ 0
  pub closed : f.hub_end ≡ 0

-- the flag says whether the piece to the open hub's port is clear of the path
pub record Flagged (p : Panel) (f : Frame) (flag : Bool) : Type 0 where
  pub told : hub_open f ≡ true → flag ≡ clear (reach p f.place (outgoing p f)) (on_path f.place)

-- ---- the tasks

-- what an action is to the walk, on the path a and the frame f
abbrev pub task_of : Path → Stored → Action → Doing
task_of a f Leave = pass
task_of a f Pass = pass
task_of a f (Down c) = down (place_with (path_to a f c) c)
task_of a f (Give s) = give (longer false a s).routes

abbrev pub act_of : Path → Stored → Action → Stored → Act
act_of a f Leave g = leave
act_of a f Pass g = doing pass (frame_with a g)
act_of a f (Down c) g = doing (task_of a f (Down c)) (frame_with a g)
act_of a f (Give s) g = doing (task_of a f (Give s)) (frame_with a g)

abbrev pub closes_by : ℕ → ℕ → Stored → List Segment → Bool
closes_by target len f l = eqb f.source target && not f.reverse && ltb f.cut len && clear (piece_to (bare f) len) l

-- an action that does not leave the frame
abbrev pub stays : Action → Bool
stays Leave = false
stays Pass = true
stays (Down c) = true
stays (Give s) = true

-- the closed route: given on the last slot, else the next slot is begun
abbrev pub closing_task : List ℕ → Path → Stored → ℕ → Doing
closing_task paths a f len =
    pick (eqb (suc f.slot) (length paths)) (give (longer false a (piece_to (bare f) len)).routes)
    (down (begins (suc f.slot) (get_or paths (suc f.slot) 0) (longer false a (piece_to (bare f) len)).routes))

pub record Ends (s : List ℕ) (h : Header) (family : Family) (f : Stored) (len : ℕ) (r : Action) : Type 0 where
  pub task : (a : Path) → task_of a f r ≡ closing_task (paths_at (panel_of s) family.number) a f len
  pub going : stays r ≡ true
  pub child : (c : Stored) → r ≡ Down c → Child s h family.count c
  pub slots : (c : Stored) → r ≡ Down c → (a : Path) → length a.routes ≡ f.slot → length (path_to a f c).routes ≡ c.slot

pub record Meets (s : List ℕ) (h : Header) (family : Family) (f : Stored) (flag : Bool) (r : Action) : Type 0 where
  pub task : (a : Path) → flag ≡ clear (reach (panel_of s) (place_with a f) (outgoing (panel_of s) (frame_with a f))) (on_path (place_with a f))
      → task_of a f r ≡ member_task (panel_of s) (place_with a f) (outgoing (panel_of s) (frame_with a f)) (get_or (panel_of s).hub f.hub_next no_port)
  pub going : stays r ≡ true
  pub child : (c : Stored) → r ≡ Down c → Child s h family.count c
  pub slots : (c : Stored) → r ≡ Down c → (a : Path) → length a.routes ≡ f.slot → length (path_to a f c).routes ≡ c.slot
  pub kept : (c : Stored) → r ≡ Down c → flag ≡ true

-- ---- the unit

-- the frame f at top, on its lane, in its family
pub record On (s : List ℕ) (h : Header) (family : Family) (l : Lane) (xs : List ℕ) (top : ℕ) (f : Stored) : Type 0 where
  pub accepted : Accepted s h
  pub groups : Groups s h family
  pub stands : Stands s h l
  pub here : l.number ≡ f.source
  pub sound : Sound s h family.count f
  pub room : (top + 1) * frame_width ≤ length xs

-- a unit on the frame f whose path is a
pub record Turned (s : List ℕ) (h : Header) (family : Family) (a : Path) (f : Stored) (t : Turn) : Type 0 where
  pub act : act_of a f t.action t.frame ≡ unit_of (panel_of s) (paths_at (panel_of s) family.number) (frame_with a f)
  pub taken : t.taken ≡ pick (takes_member (frame_with a f)) 1 0
  pub alike : Alike t.frame f
  pub sound : Sound s h family.count t.frame
  pub child : (c : Stored) → t.action ≡ Down c → Child s h family.count c
  pub slots : (c : Stored) → t.action ≡ Down c → (a : Path) → length a.routes ≡ f.slot → length (path_to a f c).routes ≡ c.slot
  pub flagged : Flagged (panel_of s) (frame_with a t.frame) t.clear
  pub kept : (c : Stored) → t.action ≡ Down c → t.clear ≡ true
  pub left : t.action ≡ Leave → t.clear ≡ true

pub record Ready (s : List ℕ) (h : Header) (starts : List ℕ) (family : Family) (xs : List ℕ) (top : ℕ) (flag : Bool) : Type 0 where
  pub accepted : Accepted s h
  pub started : Started s h starts
  pub groups : Groups s h family
  pub sound : Sound s h family.count (stored_at xs top)
  pub flagged : Flagged (panel_of s) (frame_with (path_at xs top) (stored_at xs top)) flag
  pub room : (top + 1) * frame_width ≤ length xs

pub record Moved (s : List ℕ) (h : Header) (family : Family) (xs ys : List ℕ) (top : ℕ) (t : Turn) : Type 0 where
  pub turned : Turned s h family (path_at xs top) (stored_at xs top) t
  pub room : ys ≡ put xs top t.frame

-- ---- a frame whose ports ahead are all blocked

-- the port of the open hub is of the frame's orientation, and not behind its cut
abbrev pub leads_on : ℕ → Stored → Port → Bool
leads_on k f q = same_turn q.reverse f.reverse && pick f.reverse (leb (cut_of q k) f.cut) (leb f.cut (cut_of q k))

-- the piece to each port ahead of the frame f, of its orientation, is not clear of the path a
pub record Blocked (s : List ℕ) (h : Header) (l : Lane) (a : Path) (f : Stored) : Type 0 where
  pub told : (i : ℕ) → i < l.count → (f.reverse ≡ false → f.next ≤ i + 1) → (f.reverse ≡ true → i + 1 ≤ f.next) → same_turn (get_or (ports_of h s l.number) i no_port).reverse f.reverse ≡ true
      → clear (piece_to (bare f) (cut_of (get_or (ports_of h s l.number) i no_port) h.k)) (flat a.routes ++ a.route) ≡ false

-- the frame r is f past its next port, which opens its bucket or is of the other orientation
pub record Past (s : List ℕ) (h : Header) (l : Lane) (f r : Stored) : Type 0 where
  pub how : ((same_turn (get_or (ports_of h s l.number) (f.next - 1) no_port).reverse f.reverse ≡ true)
      × ((m : Members) × ((m ≡ bucket_of (get_or (ports_of h s l.number) (f.next - 1) no_port).word (panel_of s).hub) × (r ≡ moved_to f (onward f.reverse f.next) m.lo m.hi))))
      ⊎ ((same_turn (get_or (ports_of h s l.number) (f.next - 1) no_port).reverse f.reverse ≡ false) × (r ≡ moved_to f (onward f.reverse f.next) 0 0))
