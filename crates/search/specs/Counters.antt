-- The nine counters, and the five statuses (01, "The walk", "The program").
use Rattle.std.specs.Prelude.{ℕ, ◌+◌, ◌-◌, max, Bool, true, false, not, List, [], ◌∷◌, ltb, eqb, length}
use Rattle.ground.specs.Lists.{any, count}
use Rattle.image.specs.Panel.{Panel, lane_at}
use Rattle.evaluate.specs.declared.Segment.{Segment}
use Rattle.evaluate.specs.Segments.{Route, Assignment, flat}
use Rattle.search.specs.declared.Tally.{Tally}
use Rattle.search.specs.declared.Stop.{Stop}
use Rattle.search.specs.declared.Stop.TheVariants.{Exhausted, Work, Evaluation, Frontier}
use Rattle.search.specs.declared.Status.{Status}
use Rattle.search.specs.declared.Status.TheVariants.{Certified, SupportIncomplete, WorkExhausted, EvaluationExhausted, FrontierExhausted}
use Rattle.search.specs.Run.{Walk, Ending, exhausted, on_work, on_evaluation, on_frontier}

-- "switches (segments less routes)"
abbrev pub switches_of : Assignment → ℕ
switches_of a = length (flat a.routes) - length a.routes

-- "assignments with a switch"
abbrev pub has_switch : Assignment → Bool
has_switch a = ltb 0 (switches_of a)

-- a route over two values of f
abbrev pub varies : (Segment → ℕ) → Route → Bool
varies f [] = false
varies f (s ∷ r) = any (λ t. not (eqb (f t) (f s))) r

-- "with a route over two lanes"
abbrev pub mixes_lanes : Assignment → Bool
mixes_lanes a = any (varies (λ s. s.source)) a.routes

-- "with a route over two identities"
abbrev pub mixes_identities : Panel → Assignment → Bool
mixes_identities p a = any (varies (λ s. (lane_at p s.source).identity)) a.routes

-- "most switches"
unfoldable pub most_switches : List Assignment → ℕ
most_switches [] = 0
most_switches (a ∷ l) = max (switches_of a) (most_switches l)

-- the counters of a walk that started from these: work, natives, donors and families are the walk's own, the others are counted over what it handed over
unfoldable pub tally_of : Panel → Tally → Walk → Tally
tally_of p t w =
    record {
      work = w.work;
      evaluations = w.evaluations;
      natives = w.natives;
      donors = w.donors;
      non_native = t.non_native + count has_switch w.out;
      mixed = t.mixed + count mixes_lanes w.out;
      mixed_identity = t.mixed_identity + count (mixes_identities p) w.out;
      switches = max t.switches (most_switches w.out);
      families = w.families;
    }

abbrev pub no_tally : Tally
no_tally = record { work = 0; evaluations = 0; natives = 0; donors = 0; non_native = 0; mixed = 0; mixed_identity = 0; switches = 0; families = 0 }

-- ---- how it ended

-- which budget stopped it
abbrev pub stop_of : Ending → Stop
stop_of exhausted = Exhausted
stop_of on_work = Work
stop_of on_evaluation = Evaluation
stop_of (on_frontier a) = Frontier

-- the status: exhausted with or without an assignment discarded, or the budget
abbrev pub status_of : Stop → Bool → Status
status_of Exhausted true = SupportIncomplete
status_of Exhausted false = Certified
status_of Work discarded = WorkExhausted
status_of Evaluation discarded = EvaluationExhausted
status_of Frontier discarded = FrontierExhausted

-- its number in the answers
abbrev pub status_number : Status → ℕ
status_number Certified = 1
status_number SupportIncomplete = 2
status_number WorkExhausted = 3
status_number EvaluationExhausted = 4
status_number FrontierExhausted = 5
