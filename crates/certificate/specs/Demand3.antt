-- Demand 3, statement by statement: what stands behind the sentence (Sentence.antt). Each is a type; its proof stands elsewhere. The words are
-- those of Terms, and behind them 01's.
use Rattle.std.specs.Prelude.{ℕ, ◌≡◌, ◌↔◌, List, [], ◌∷◌, length, Float}
use Rattle.image.specs.Panel.{panel_of}
use Rattle.evaluate.specs.Segments.{Assignment, normal_form, flat}
use Rattle.evaluate.specs.Legal.{Legal, SoundSpans}
use Rattle.evaluate.specs.Check.{check_answer, over}
use Rattle.search.specs.declared.SearchBudget.{SearchBudget}
use Rattle.search.specs.declared.Status.TheVariants.{Certified}
use Rattle.search.specs.Run.{Unbudgeted, Suffices}
use Rattle.search.specs.Counters.{status_number}
use Rattle.search.specs.Keep.{Evaluated}
use Rattle.search.specs.Answers.{Rooms, ListRooms, search_answer, list_answer, list_rooms, written}
use Rattle.certificate.specs.Terms.{PanelAccepted, Within, Admitted, Exhausted, handed_over, kept_by, Scores, NativesThenLegal, Least, Ties, Complete, assignment_of}

-- The check accepts an assignment exactly when its spans are sound and its normal form is legal.
abbrev pub CheckIsLegality : Type 0
CheckIsLegality =
    (s ws : List ℕ) (room : ℕ) (a : Assignment) → PanelAccepted s → Within ws room a
    → ((check_answer s ws room).refusal ≡ 0) ↔ (SoundSpans (panel_of s) a × Legal (panel_of s) (normal_form a))

-- The walk without budgets ends, on every accepted panel.
abbrev pub WalkEnds : Type 0
WalkEnds = (s : List ℕ) → PanelAccepted s → Unbudgeted (panel_of s)

-- It hands over one native per family, in order, and after them each legal assignment exactly once, family by family.
abbrev pub WholeWalk : Type 0
WholeWalk = (s : List ℕ) → PanelAccepted s → (u : Unbudgeted (panel_of s)) → NativesThenLegal (panel_of s) u.final.out

-- The search reports exhaustion exactly when its three budgets suffice.
abbrev pub ExhaustedWhenEnough : Type 0
ExhaustedWhenEnough =
    (s : List ℕ) (b : SearchBudget) (xs : List Float) (rooms : Rooms) → Admitted s b xs rooms
    → (u : Unbudgeted (panel_of s)) → Exhausted (search_answer s b xs rooms) ↔ Suffices (panel_of s) b u

-- When it reports exhaustion, it has evaluated one native per family and after them each legal assignment exactly once.
abbrev pub AllEvaluated : Type 0
AllEvaluated =
    (s : List ℕ) (b : SearchBudget) (xs : List Float) (rooms : Rooms) → Admitted s b xs rooms
    → Exhausted (search_answer s b xs rooms) → NativesThenLegal (panel_of s) (handed_over s b)

-- Then each legal assignment has a score.
abbrev pub AllScored : Type 0
AllScored =
    (s : List ℕ) (b : SearchBudget) (xs : List Float) (rooms : Rooms) → Admitted s b xs rooms
    → Exhausted (search_answer s b xs rooms) → (a : Assignment) → Legal (panel_of s) a → (x : Float) × Scores s b xs a x

-- Then the incumbent is a legal assignment, and no legal assignment scores below it.
abbrev pub IncumbentIsLeast : Type 0
IncumbentIsLeast =
    (s : List ℕ) (b : SearchBudget) (xs : List Float) (rooms : Rooms) → Admitted s b xs rooms
    → Exhausted (search_answer s b xs rooms) → (i : Evaluated) × ((kept_by s b xs).best ≡ i ∷ []) × Least s b xs i

-- If besides nothing was discarded, the tied list holds exactly the legal assignments within the tie width of the incumbent, each once,
-- in the order in which they were first handed over.
abbrev pub TiedAre : List ℕ → SearchBudget → List Float → Evaluated → Type 0
TiedAre s b xs i = Complete assignment_of (handed_over s b) (Ties s b xs i) (kept_by s b xs).tied

abbrev pub TiedAreAll : Type 0
TiedAreAll =
    (s : List ℕ) (b : SearchBudget) (xs : List Float) (rooms : Rooms) → Admitted s b xs rooms
    → (search_answer s b xs rooms).status ≡ status_number Certified → (i : Evaluated) → (kept_by s b xs).best ≡ i ∷ [] → TiedAre s b xs i

-- The listing makes the search's evaluations, one for each assignment handed over, and writes the words of those from number from + 1 on,
-- in order, as many as fit.
pub record SameEvaluations (s : List ℕ) (b : SearchBudget) (xs : List Float) (rooms : Rooms) (from : ℕ) (lent : ListRooms) : Type 0 where
  pub many : (list_answer s b from lent).evaluations ≡ (search_answer s b xs rooms).evaluations
  pub numbered : (list_answer s b from lent).evaluations ≡ length (handed_over s b)
  pub wrote : (list_answer s b from lent).written ≡ length (written from (length lent.out) (handed_over s b))
  pub words : (list_rooms s b from lent).out ≡ over (flat (written from (length lent.out) (handed_over s b))) lent.out

abbrev pub ListsTheSame : Type 0
ListsTheSame =
    (s : List ℕ) (b : SearchBudget) (xs : List Float) (rooms : Rooms) (from : ℕ) (lent : ListRooms)
    → (search_answer s b xs rooms).refusal ≡ 0 → (list_answer s b from lent).refusal ≡ 0 → SameEvaluations s b xs rooms from lent

-- All of it.
pub record Demand3 : Type 0 where
  pub check : CheckIsLegality
  pub ends : WalkEnds
  pub whole : WholeWalk
  pub exhausted : ExhaustedWhenEnough
  pub evaluated : AllEvaluated
  pub scored : AllScored
  pub least : IncumbentIsLeast
  pub tied : TiedAreAll
  pub listing : ListsTheSame
