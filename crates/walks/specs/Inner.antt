-- The walk over frames in a room, from any state on; nothing here is part of a public promise.
use Rattle.std.specs.Prelude.{ℕ, ◌+◌, ◌-◌, ◌*◌, ◌≤◌, ◌<◌, ◌≡◌, Bool, true, false, List, [], ◌∷◌, ◌++◌, length, take, drop, get_or, replicate}
use Rattle.ground.specs.Lists.{sum}
use Rattle.image.specs.declared.Header.{Header}
use Rattle.image.specs.declared.Lane.{Lane}
use Rattle.image.specs.Image.{path_counts}
use Rattle.image.specs.Panel.{Panel, panel_of, paths_at}
use Rattle.evaluate.specs.declared.Segment.{Segment}
use Rattle.evaluate.specs.Segments.{Assignment}
use Rattle.search.specs.declared.SearchBudget.{SearchBudget}
use Rattle.search.specs.declared.Tally.{Tally}
use Rattle.search.specs.declared.Stop.{Stop}
use Rattle.search.specs.declared.Stop.TheVariants.{Exhausted, Work, Evaluation, Frontier}
use Rattle.search.specs.Walk.{Place, Frame}
use Rattle.search.specs.Run.{Walk, Walked, Phase, going, Ending, exhausted, on_work, on_evaluation, on_frontier, begin, done_with, run}
use Rattle.search.specs.Rooms.{frame_width, stack_words, pending_words}
use Rattle.frames.specs.declared.Stored.{Stored}
use Rattle.frames.specs.Inner.{no_segment, longer, path_at, stored_at, frame_of, stack_of, Linked}
use Rattle.advance.specs.Inner.{child_of, entered, Sound, Flagged, Blocked}
use Rattle.walks.specs.declared.Standing.{Standing}
use Rattle.walks.specs.declared.Halt.{Halt}
use Rattle.walks.specs.declared.Halt.TheVariants.{Stopped, Due}
use Rattle.walks.specs.declared.Pause.{Pause}

-- ---- counters

abbrev pub spent_of : Tally → ℕ → Tally
spent_of t taken =
    record { work = t.work + 1; evaluations = t.evaluations; natives = t.natives; donors = t.donors + taken; non_native = t.non_native; mixed = t.mixed; mixed_identity = t.mixed_identity; switches = t.switches; families = t.families }

abbrev pub handed_of : Tally → Tally
handed_of t =
    record { work = t.work; evaluations = t.evaluations + 1; natives = t.natives; donors = t.donors; non_native = t.non_native; mixed = t.mixed; mixed_identity = t.mixed_identity; switches = t.switches; families = t.families }

abbrev pub done_of : Tally → Tally
done_of t =
    record { work = t.work; evaluations = t.evaluations; natives = t.natives; donors = t.donors; non_native = t.non_native; mixed = t.mixed; mixed_identity = t.mixed_identity; switches = t.switches; families = t.families + 1 }

-- so many members at once
abbrev pub took_of : Tally → ℕ → Tally
took_of t m =
    record { work = t.work + m; evaluations = t.evaluations; natives = t.natives; donors = t.donors + m; non_native = t.non_native; mixed = t.mixed; mixed_identity = t.mixed_identity; switches = t.switches; families = t.families }

-- so many units more
abbrev pub worked_of : Tally → ℕ → Tally
worked_of t n =
    record { work = t.work + n; evaluations = t.evaluations; natives = t.natives; donors = t.donors; non_native = t.non_native; mixed = t.mixed; mixed_identity = t.mixed_identity; switches = t.switches; families = t.families }

-- ---- what is left to walk

-- a walk with these counters and this stack, that has handed nothing over yet
abbrev pub walk_of : Tally → List Frame → Walk
walk_of t stack = record { work = t.work; evaluations = t.evaluations; natives = t.natives; donors = t.donors; families = t.families; stack = stack; out = [] }

-- the family's stack is gone on with, or the family is done
abbrev pub gone : Panel → Walk → List Frame → Phase
gone p w [] = begin p (done_with w)
gone p w (f ∷ rest) = going w

-- what the walk comes to from here
unfoldable pub to_go : Panel → SearchBudget → Tally → List ℕ → ℕ → Walked
to_go p b t xs d = run p b (b.max_work - t.work) (gone p (walk_of t (stack_of xs d)) (stack_of xs d))

-- a walk that has evaluated the natives of the first n families
abbrev pub seed_walk : ℕ → Walk
seed_walk n = record { work = n; evaluations = n; natives = n; donors = 0; families = 0; stack = []; out = [] }

-- the same with an assignment handed over before
abbrev pub handing : Assignment → Walk → Walk
handing a w =
    record { work = w.work; evaluations = w.evaluations; natives = w.natives; donors = w.donors; families = w.families; stack = w.stack; out = a ∷ w.out }

abbrev pub before : Assignment → Walked → Walked
before a r = record { ending = r.ending; walk = handing a r.walk }

abbrev pub ending_of : Stop → Place → Ending
ending_of Exhausted a = exhausted
ending_of Work a = on_work
ending_of Evaluation a = on_evaluation
ending_of Frontier a = on_frontier a

-- the assignment that the path to the frame at top and a closing piece complete
abbrev pub assigned : ℕ → List ℕ → ℕ → Segment → Assignment
assigned family xs top s = record { family = family; routes = (longer false (path_at xs top) s).routes }

-- what a pause says of the walk: how it ended, or what is handed over and what is left
abbrev pub halted_as : Panel → SearchBudget → List ℕ → Standing → Halt → Walked
halted_as p b xs at (Stopped s) = record { ending = ending_of s (frame_of xs at.depth).place; walk = walk_of at.tally (stack_of xs at.depth) }
halted_as p b xs at (Due s) = before (assigned at.tally.families xs (at.depth - 1) s) (to_go p b at.tally xs at.depth)

-- the root of a family, entered
abbrev pub root_of : Panel → ℕ → Stored
root_of p n = entered p (child_of 0 (record { source = get_or (paths_at p n) 0 0; cut = 0; reverse = false }) no_segment)

-- ---- what a walk keeps to

-- d frames of a family of n paths in the room
pub record Held (s : List ℕ) (h : Header) (b : SearchBudget) (n : ℕ) (xs : List ℕ) (t : Tally) (d : ℕ) (flag : Bool) : Type 0 where
  pub deep : d ≤ b.max_frontier
  pub small : b.max_frontier ≤ 1024
  pub room : (b.max_frontier + 1) * frame_width ≤ length xs
  pub sound : (i : ℕ) → i < d → Sound s h n (stored_at xs i)
  pub slots : (i : ℕ) → i < d → length (frame_of xs i).place.routes ≡ (frame_of xs i).place.slot
  pub settled : (i : ℕ) → i + 1 < d → Flagged (panel_of s) (frame_of xs i) true
  pub flagged : 0 < d → Flagged (panel_of s) (frame_of xs (d - 1)) flag
  pub linked : Linked xs d
  pub worked : t.work ≤ b.max_work
  pub taken : t.donors ≤ t.work

-- a walk that can go on: a frame on the stack, of the family that the counters name
pub record Walking (s : List ℕ) (h : Header) (b : SearchBudget) (xs : List ℕ) (t : Tally) (d start : ℕ) (flag : Bool) : Type 0 where
  pub held : Held s h b (get_or (path_counts h s) t.families 0) xs t d flag
  pub some : 0 < d
  pub left : t.families < h.families
  pub begins : start ≡ sum (take t.families (path_counts h s))

-- what stays of the room
pub record Kept (b : SearchBudget) (xs ys : List ℕ) : Type 0 where
  pub long : length ys ≡ length xs
  pub rest : drop ((b.max_frontier + 1) * frame_width) ys ≡ drop ((b.max_frontier + 1) * frame_width) xs

-- the words of the stack and of the child that is pending
abbrev pub used_by : Stop → ℕ → ℕ
used_by Exhausted d = d
used_by Work d = d
used_by Evaluation d = d
used_by Frontier d = d + 1

pub record Paused (s : List ℕ) (h : Header) (b : SearchBudget) (xs ys : List ℕ) (from : Standing) (r : Pause) : Type 0 where
  pub outcome : to_go (panel_of s) b from.tally xs from.depth ≡ halted_as (panel_of s) b ys r.at r.halt
  pub kept : Kept b xs ys
  pub again : (p : Segment) → r.halt ≡ Due p → Walking s h b ys r.at.tally r.at.depth r.at.start r.at.clear
  pub more : (p : Segment) → r.halt ≡ Due p → from.tally.work < r.at.tally.work
  pub words : (e : Stop) → r.halt ≡ Stopped e
      → take (used_by e r.at.depth * frame_width) ys ≡ stack_words (stack_of ys r.at.depth) ++ pending_words (ending_of e (frame_of ys r.at.depth).place)
  pub deep : r.at.depth ≤ b.max_frontier

-- ---- ports passed over

-- a frame on the stack, and work and evaluations left
pub record Under (s : List ℕ) (h : Header) (b : SearchBudget) (xs : List ℕ) (t : Tally) (d : ℕ) (flag : Bool) : Type 0 where
  pub held : Held s h b (get_or (path_counts h s) t.families 0) xs t d flag
  pub some : 0 < d
  pub family : t.families < h.families
  pub work : t.work < b.max_work
  pub evaluations : t.evaluations < b.max_evaluations

-- the top is the frame f, on its lane, and its ports ahead are all blocked
pub record Stuck (s : List ℕ) (h : Header) (b : SearchBudget) (xs : List ℕ) (t : Tally) (d : ℕ) (l : Lane) (f : Stored) : Type 0 where
  pub under : Under s h b xs t d false
  pub top : f ≡ stored_at xs (d - 1)
  pub here : l.number ≡ f.source
  pub begun : f.terminal ≡ false
  pub blocked : Blocked s h l (path_at xs (d - 1)) f

-- a port is left, and work for it and for closing a hub
pub record Further (b : SearchBudget) (l : Lane) (f : Stored) (t : Tally) : Type 0 where
  pub work : t.work + 3 ≤ b.max_work
  pub some : 0 < f.next
  pub few : f.next ≤ l.count

-- some units later: what is left is the same, and a unit is left
pub record Passed (s : List ℕ) (h : Header) (b : SearchBudget) (xs ys : List ℕ) (t r : Tally) (d : ℕ) (flag : Bool) : Type 0 where
  pub total : to_go (panel_of s) b t xs d ≡ to_go (panel_of s) b r ys d
  pub held : Held s h b (get_or (path_counts h s) t.families 0) ys r d flag
  pub kept : Kept b xs ys
  pub under : r.work < b.max_work
  pub more : t.work ≤ r.work
  pub same : r.evaluations ≡ t.evaluations
  pub families : r.families ≡ t.families

-- ---- a walk that stopped

abbrev pub pending_at : Stop → Bool
pending_at Exhausted = false
pending_at Work = false
pending_at Evaluation = false
pending_at Frontier = true

-- a room with zeros from one place up to another
abbrev pub zeroed : ℕ → ℕ → List ℕ → List ℕ
zeroed from to xs = take from xs ++ (replicate (to - from) 0 ++ drop to xs)
