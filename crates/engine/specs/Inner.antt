-- The plain engine's steps over the image; nothing here is part of a public promise. What is left to do at a frame is `remaining`, the
-- enumeration's, since the walk's units are proved to do it.
use Rattle.std.specs.Prelude.{ℕ, ◌+◌, ◌-◌, ◌*◌, ◌≤◌, ◌<◌, ◌≡◌, Bool, true, false, ◌||◌, List, [], ◌∷◌, ◌++◌, map, leb, eqb, length, get_or}
use Rattle.std.proofs.Math.Seq.{slice}
use Rattle.ground.specs.Lists.{pick}
use Rattle.image.specs.declared.Header.{Header}
use Rattle.image.specs.declared.Family.{Family}
use Rattle.image.specs.declared.Lane.{Lane}
use Rattle.image.specs.Inner.{Started, Groups}
use Rattle.image.specs.Panel.{Panel, panel_of, paths_at}
use Rattle.panel.specs.Inner.{Accepted}
use Rattle.evaluate.specs.declared.Segment.{Segment}
use Rattle.evaluate.specs.Check.{over}
use Rattle.evaluate.specs.Segments.{Route, Assignment, flat}
use Rattle.evaluate.specs.Words.{encode}
use Rattle.search.specs.Answers.{written}
use Rattle.search.specs.Rooms.{frame_width}
use Rattle.search.specs.Walk.{Place, Doing, outgoing}
use Rattle.frames.specs.declared.Stored.{Stored}
use Rattle.frames.specs.Inner.{path_at, stored_at, place_with, frame_with, frame_of, put, no_segment, Alike}
use Rattle.landings.specs.Inner.{Known}
use Rattle.advance.specs.declared.Action.{Action}
use Rattle.advance.specs.declared.Action.TheVariants.{Down}
use Rattle.advance.specs.Inner.{On, Child, task_of, child_of, moved_to}
use Rattle.walks.specs.Inner.{assigned}
use Rattle.enumeration.proofs.Sim.{Good, remaining}
use Rattle.listing.specs.declared.Listing.{Listing}
use Rattle.listing.specs.Inner.{lists_from, filled_with, none_listed}
use Rattle.engine.specs.declared.Here.{Here}
use Rattle.engine.specs.declared.Told.{Told}
use Rattle.engine.specs.declared.PlainReply.{PlainReply}
use Rattle.engine.specs.Answer.{refused_plain, wrote}
use Rattle.plain.specs.Steps.{depth, Mark, Marks, task_marks, hub_marks, listed, goes_too_deep, place_marks, plain_marks, plain_list}

-- a record of the path for each place, and one more
abbrev pub path_words : ℕ
path_words = 650

-- the words of an assignment of 64 pieces at most
abbrev pub slot_words : ℕ
slot_words = 322

-- ---- what is told

-- nothing more is to be done: a place lay too deep, or all that is left is to list and nothing more fits
abbrev pub is_over : Told → Bool
is_over l = pick l.deep true (pick l.looks false l.listing.full)

-- at the outset of the sweep that looks, and of the one that lists
abbrev pub looking : Told
looking = record { listing = record { skip = 0; full = true; written = 0; words = 0 }; looks = true; deep = false }

abbrev pub listing_from : ℕ → Told
listing_from from = record { listing = none_listed from; looks = false; deep = false }

abbrev pub assignment_of : ℕ → List Route → Assignment
assignment_of number rs = record { family = number; routes = rs }

unfoldable pub words_of : ℕ → Marks → List (List ℕ)
words_of number marks = map (λ rs. encode (assignment_of number rs)) (listed marks)

-- these were handed over, one after the other: what was to be listed of them and all later ones is what was written of them and what is still to be listed
pub record Gathered (ws : List (List ℕ)) (xs ys : List ℕ) (l r : Listing) : Type 0 where
  pub room : (todo : List (List ℕ)) → filled_with xs l (lists_from xs l (ws ++ todo)) ≡ filled_with ys r (lists_from ys r todo)
  pub written : (todo : List (List ℕ)) → l.written + length (lists_from xs l (ws ++ todo)) ≡ r.written + length (lists_from ys r todo)
  pub words : (todo : List (List ℕ)) → l.words + length (flat (lists_from xs l (ws ++ todo))) ≡ r.words + length (flat (lists_from ys r todo))
  pub long : length ys ≡ length xs
  pub within : r.words ≤ length ys
  pub few : r.written ≤ r.words

-- of these marks, what was listed before and after, and whether a place lay too deep; where it is not looked for, there is none
pub record Tells {X : Type 0} (words : List (Mark X) → List (List ℕ)) (marks : List (Mark X)) (out out' : List ℕ) (l r : Told) : Type 0 where
  pub lists : r.deep ≡ false → Gathered (words marks) out out' l.listing r.listing
  pub deep : (l.looks ≡ false → goes_too_deep marks ≡ false) → r.deep ≡ (l.deep || goes_too_deep marks)
  pub stays : r.deep ≡ false → l.deep ≡ false
  pub looks : r.looks ≡ l.looks

-- ---- what a step asks and leaves

-- one place further down the path
abbrev pub below : Here → Here
below here = record { h = here.h; family = here.family; top = here.top + 1; left = here.left - 1 }

-- a place may be put on the path
pub record Standing (s starts memo path slot out : List ℕ) (here : Here) (l : Told) : Type 0 where
  pub accepted : Accepted s here.h
  pub started : Started s here.h starts
  pub known : Known s here.h memo
  pub groups : Groups s here.h here.family
  pub room : (here.top + here.left + 1) * frame_width ≤ length path
  pub few : here.top + here.left ≤ depth
  pub scratch : slot_words ≤ length slot
  pub within : l.listing.words ≤ length out
  pub written : l.listing.written ≤ l.listing.words

-- these marks were told, and the path below stays
pub record Stepped (s : List ℕ) (here : Here) (path slot out : List ℕ) (l : Told) (marks : Marks) (memo path' slot' out' : List ℕ) (r : Told) : Type 0 where
  pub tells : Tells (words_of here.family.number) marks out out' l r
  pub within : r.listing.words ≤ length out'
  pub written : r.listing.written ≤ r.listing.words
  pub long_out : length out' ≡ length out
  pub stays : (i : ℕ) → i < here.top → stored_at path' i ≡ stored_at path i
  pub known : Known s here.h memo
  pub long_path : length path' ≡ length path
  pub long_slot : length slot' ≡ length slot

-- an action of the frame on top
pub record Acts (s : List ℕ) (here : Here) (action : Action) : Type 0 where
  pub child : (c : Stored) → action ≡ Down c → Child s here.h here.family.count c

-- the frame in hand on the place on top
pub record InHand (s : List ℕ) (here : Here) (l : Lane) (path : List ℕ) (g : Stored) : Type 0 where
  pub on : On s here.h here.family l path here.top g
  pub alike : Alike g (stored_at path here.top)
  pub begun : g.terminal ≡ false
  pub good : Good (panel_of s) (frame_with (path_at path here.top) g)

-- ---- what the steps tell, in the words of the definition

abbrev pub paths : List ℕ → Here → List ℕ
paths s here = paths_at (panel_of s) here.family.number

-- the step at the next place
abbrev pub next : List ℕ → Here → Place → Marks
next s here = place_marks (panel_of s) (paths s here) (here.left - 1)

-- the place that a child put on the path comes to
abbrev pub come_to : List ℕ → ℕ → Stored → Place
come_to path top c = (frame_of (put path top c) top).place

abbrev pub place_tells : List ℕ → Here → List ℕ → Stored → Marks
place_tells s here path c = place_marks (panel_of s) (paths s here) here.left (come_to path here.top c)

abbrev pub act_tells : List ℕ → Here → List ℕ → Action → Marks
act_tells s here path action = task_marks (next s here) (task_of (path_at path here.top) (stored_at path here.top) action)

-- the hub's members from the next to the end
abbrev pub hub_tells : List ℕ → Here → List ℕ → Stored → Marks
hub_tells s here path g =
    hub_marks (panel_of s) (next s here) (place_with (path_at path here.top) g) (outgoing (panel_of s) (frame_with (path_at path here.top) g)) (slice g.hub_next g.hub_end (panel_of s).hub)

-- what the tasks tell, one after the other
abbrev pub through_marks : (Place → Marks) → List Doing → Marks
through_marks g [] = []
through_marks g (t ∷ ts) = task_marks g t ++ through_marks g ts

-- the tasks that remain at the frame
abbrev pub ports_tell : List ℕ → Here → List ℕ → Stored → Marks
ports_tell s here path g = through_marks (next s here) (remaining (panel_of s) (paths s here) (frame_with (path_at path here.top) g))

-- the frame with its hub open, or shut where the piece up to its port is not clear of the path
abbrev pub in_reach : Stored → Bool → Stored
in_reach f clear = pick clear f (moved_to f f.next 0 0)

-- a port remains that is to be tried
abbrev pub has_port : Told → ℕ → ℕ → Bool
has_port l next count = pick (is_over l) false (pick (eqb next 0) false (leb next count))

-- one was handed over: the assignment that the path and a closing piece complete
pub record Given (family : ℕ) (path slot out : List ℕ) (top : ℕ) (s : Segment) (l : Told) (slot' out' : List ℕ) (r : Told) : Type 0 where
  pub lists : Gathered (encode (assigned family path top s) ∷ []) out out' l.listing r.listing
  pub deep : r.deep ≡ l.deep
  pub looks : r.looks ≡ l.looks
  pub long_slot : length slot' ≡ length slot

-- ---- family by family

-- the root of a family
pub record Rooted (s : List ℕ) (h : Header) (family : Family) (r : Stored) : Type 0 where
  pub child : Child s h family.count r
  pub is : r ≡ child_of 0 (record { source = get_or (paths_at (panel_of s) family.number) 0 0; cut = 0; reverse = false }) no_segment

-- room for a path of 64 places and its words
pub record Ample (path slot out : List ℕ) (l : Told) : Type 0 where
  pub pieces : path_words ≤ length path
  pub scratch : slot_words ≤ length slot
  pub within : l.listing.words ≤ length out
  pub written : l.listing.written ≤ l.listing.words

-- these marks were told
abbrev pub Swept : List ℕ → Told → List (Mark Assignment) → List ℕ → Told → Type 0
Swept out l marks out' r = Tells (λ ms. map encode (listed ms)) marks out out' l r

-- an answer over an accepted panel
pub record Replied (p : Panel) (from : ℕ) (out out' : List ℕ) (r : PlainReply) : Type 0 where
  pub reply : r ≡ pick (goes_too_deep (plain_marks p)) (refused_plain (record { number = 42; place = 0 })) (wrote (written from (length out) (plain_list p)))
  pub room : out' ≡ pick (goes_too_deep (plain_marks p)) out (over (flat (written from (length out) (plain_list p))) out)
