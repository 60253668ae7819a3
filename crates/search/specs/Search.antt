-- The search: the walk with its scores, from any state with no child pending (01, "The walk").
use Rattle.std.specs.Prelude.{suc, List, [], drop, Float}
use Rattle.image.specs.Panel.{Panel}
use Rattle.evaluate.specs.declared.Refusal.{Refusal}
use Rattle.search.specs.declared.SearchBudget.{SearchBudget}
use Rattle.search.specs.declared.Tally.{Tally}
use Rattle.search.specs.declared.Status.{Status}
use Rattle.search.specs.Walk.{Frame}
use Rattle.search.specs.Run.{Walk, Walked, Ending, walk_from}
use Rattle.search.specs.Counters.{tally_of, no_tally, stop_of, status_of}
use Rattle.search.specs.Keep.{Kept, nothing, Evaluated, score_of, same_evaluated, keep_all, evaluated, scores_refusal}

-- where a search stands: its counters, its frames (the top first), and what it keeps
pub record State : Type 0 where
  pub tally : Tally
  pub stack : List Frame
  pub kept : Kept Evaluated

-- where the first run starts
abbrev pub fresh : State
fresh = record { tally = no_tally; stack = []; kept = nothing }

-- the walk from a state, before it has handed over anything
abbrev pub walk_of : State → Walk
walk_of st =
    record {
      work = st.tally.work;
      evaluations = st.tally.evaluations;
      natives = st.tally.natives;
      donors = st.tally.donors;
      families = st.tally.families;
      stack = st.stack;
      out = [];
    }

unfoldable pub walked : Panel → SearchBudget → State → Walked
walked p b st = walk_from p b [] (walk_of st)

-- the scores that are still to come
abbrev pub scores_to_come : State → List Float → List Float
scores_to_come st xs = drop st.tally.evaluations xs

-- 14 and 15
unfoldable pub evaluation_refusal : Panel → SearchBudget → List Float → State → Refusal
evaluation_refusal p b xs st = scores_refusal (suc st.tally.evaluations) (walked p b st).walk.out (scores_to_come st xs)

-- how it ended, and where it then stands
pub record Searched : Type 0 where
  pub ending : Ending
  pub state : State

unfoldable pub kept_of : SearchBudget → List Float → State → Walk → Kept Evaluated
kept_of b xs st w = keep_all score_of same_evaluated b.max_optima b.tie_width st.kept (evaluated w.out (scores_to_come st xs))

unfoldable pub searched_as : Panel → SearchBudget → List Float → State → Walked → Searched
searched_as p b xs st r =
    record {
      ending = r.ending;
      state = record { tally = tally_of p st.tally r.walk; stack = r.walk.stack; kept = kept_of b xs st r.walk };
    }

unfoldable pub search_from : Panel → SearchBudget → List Float → State → Searched
search_from p b xs st = searched_as p b xs st (walked p b st)

-- the first run
unfoldable pub search : Panel → SearchBudget → List Float → Searched
search p b xs = search_from p b xs fresh

abbrev pub status_after : Searched → Status
status_after r = status_of (stop_of r.ending) r.state.kept.discarded
