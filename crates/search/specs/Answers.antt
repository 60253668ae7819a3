-- What the public calls answer, and the lent rooms at exit, from the inputs and the rooms at entry (01, "The walk", "Refusal numbers", "Room left behind").
use Rattle.std.specs.Prelude.{ℕ, ◌-◌, Bool, true, false, List, [], ◌∷◌, map, leb, eqb, length, drop, replicate, Float}
use Rattle.ground.specs.Lists.{pick}
use Rattle.image.specs.Panel.{Panel, panel_of}
use Rattle.evaluate.specs.declared.Refusal.{Refusal}
use Rattle.evaluate.specs.Refusals.{no_refusal, at}
use Rattle.graph.specs.Check.{panel_refusal}
use Rattle.evaluate.specs.Segments.{Assignment, flat}
use Rattle.evaluate.specs.Words.{bit, encode}
use Rattle.search.specs.declared.SearchBudget.{SearchBudget}
use Rattle.search.specs.declared.SearchReply.{SearchReply}
use Rattle.search.specs.declared.ListReply.{ListReply}
use Rattle.search.specs.Budget.{zero_score, budget_refusal}
use Rattle.search.specs.Run.{Walked, Ending, exhausted, on_work, on_evaluation, on_frontier, walk}
use Rattle.search.specs.Counters.{stop_of, status_of, status_number}
use Rattle.search.specs.Search.{Searched, fresh, search, evaluation_refusal, status_after}
use Rattle.search.specs.Rooms.{frames_needed, kept_needed, scores_needed, slot_width, frames_left, kept_left, kept_scores_left, rooms_refusal, list_rooms_refusal, left_in}

-- 1 where a child is pending
abbrev pub is_pending : Ending → Bool
is_pending exhausted = false
is_pending on_work = false
is_pending on_evaluation = false
is_pending (on_frontier a) = true

-- ---- the search

-- the lent rooms
pub record Rooms : Type 0 where
  pub frames : List ℕ
  pub kept : List ℕ
  pub scores : List Float

-- "1 to 8, then its others by number": 11, 12, 13, then 14 and 15
unfoldable pub search_refusal : List ℕ → SearchBudget → List Float → Rooms → Refusal
search_refusal s b xs rooms =
    at (panel_refusal s) 0
    (at (budget_refusal b) 0
    (at (rooms_refusal (panel_of s) b (length rooms.frames) (length rooms.kept) (length rooms.scores)) 0
    (evaluation_refusal (panel_of s) b xs fresh)))

-- a refusal's answer: its number and place, all else 0
abbrev pub refused_search : Refusal → SearchReply
refused_search r =
    record {
      refusal = r.number;
      place = r.place;
      status = 0;
      work = 0;
      evaluations = 0;
      natives = 0;
      donors = 0;
      non_native = 0;
      mixed = 0;
      mixed_identity = 0;
      switches = 0;
      families = 0;
      optima = 0;
      discarded = 0;
      frames = 0;
      pending = 0;
    }

-- the answer of a search that was not refused
unfoldable pub reply_of : Searched → SearchReply
reply_of r =
    record {
      refusal = 0;
      place = 0;
      status = status_number (status_after r);
      work = r.state.tally.work;
      evaluations = r.state.tally.evaluations;
      natives = r.state.tally.natives;
      donors = r.state.tally.donors;
      non_native = r.state.tally.non_native;
      mixed = r.state.tally.mixed;
      mixed_identity = r.state.tally.mixed_identity;
      switches = r.state.tally.switches;
      families = r.state.tally.families;
      optima = length r.state.kept.tied;
      discarded = bit r.state.kept.discarded;
      frames = length r.state.stack;
      pending = bit (is_pending r.ending);
    }

-- the panel's bytes, the budget, the scores, the rooms at entry
unfoldable pub search_answer : List ℕ → SearchBudget → List Float → Rooms → SearchReply
search_answer s b xs rooms =
    pick (eqb (search_refusal s b xs rooms).number 0) (reply_of (search (panel_of s) b xs)) (refused_search (search_refusal s b xs rooms))

-- the rooms at exit, by the refusal's number and the search
unfoldable pub rooms_after : Panel → SearchBudget → ℕ → Searched → Rooms → Rooms
rooms_after p b number r rooms =
    record {
      frames = left_in number (frames_left b r.ending r.state.stack) (replicate (frames_needed b) 0) rooms.frames;
      kept = left_in number (kept_left p b r.state.kept) (replicate (kept_needed p b) 0) rooms.kept;
      scores = left_in number (kept_scores_left b r.state.kept) (replicate (scores_needed b) zero_score) rooms.scores;
    }

unfoldable pub search_rooms : List ℕ → SearchBudget → List Float → Rooms → Rooms
search_rooms s b xs rooms = rooms_after (panel_of s) b (search_refusal s b xs rooms).number (search (panel_of s) b xs) rooms

-- ---- the listing: "the same walk without scores, nothing discarded"

pub record ListRooms : Type 0 where
  pub frames : List ℕ
  pub slot : List ℕ
  pub out : List ℕ

unfoldable pub list_refusal : List ℕ → SearchBudget → ListRooms → Refusal
list_refusal s b rooms =
    at (panel_refusal s) 0
    (at (budget_refusal b) 0
    (at (list_rooms_refusal (panel_of s) b (length rooms.frames) (length rooms.slot)) 0 no_refusal))

-- "until one doesn't fit": those that fit one behind the other into the room
unfoldable pub fitting : ℕ → List (List ℕ) → List (List ℕ)
fitting room [] = []
fitting room (ws ∷ l) = pick (leb (length ws) room) (ws ∷ fitting (room - length ws) l) []

-- "with numbers from + 1 on"
unfoldable pub written : ℕ → ℕ → List Assignment → List (List ℕ)
written from room out = fitting room (map encode (drop from out))

abbrev pub refused_list : Refusal → ListReply
refused_list r = record { refusal = r.number; place = r.place; status = 0; written = 0; words = 0; evaluations = 0 }

-- "status, how many it wrote, their words, and how many the walk makes"
unfoldable pub list_reply_of : Walked → List (List ℕ) → ListReply
list_reply_of r l =
    record {
      refusal = 0;
      place = 0;
      status = status_number (status_of (stop_of r.ending) false);
      written = length l;
      words = length (flat l);
      evaluations = r.walk.evaluations;
    }

-- the panel's bytes, the budget, how many to skip, the rooms at entry
unfoldable pub list_answer : List ℕ → SearchBudget → ℕ → ListRooms → ListReply
list_answer s b from rooms =
    pick (eqb (list_refusal s b rooms).number 0)
    (list_reply_of (walk (panel_of s) b) (written from (length rooms.out) (walk (panel_of s) b).walk.out))
    (refused_list (list_refusal s b rooms))

-- "The rest of out stays"; the slot "ends zero"
unfoldable pub listed_in : Panel → SearchBudget → ℕ → ℕ → Walked → ListRooms → ListRooms
listed_in p b number from r rooms =
    record {
      frames = left_in number (frames_left b r.ending r.walk.stack) [] rooms.frames;
      slot = left_in number (replicate (slot_width p b) 0) [] rooms.slot;
      out = left_in number (flat (written from (length rooms.out) r.walk.out)) [] rooms.out;
    }

unfoldable pub list_rooms : List ℕ → SearchBudget → ℕ → ListRooms → ListRooms
list_rooms s b from rooms = listed_in (panel_of s) b (list_refusal s b rooms).number from (walk (panel_of s) b) rooms
