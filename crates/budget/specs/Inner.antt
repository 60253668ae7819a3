-- Refusals 11 to 13, and 13 from the width of a slot: what the contracts of this crate are written in.
use Rattle.std.specs.Prelude.{ℕ, ◌+◌, ◌*◌, ◌≤◌, ◌&&◌, leb, Result, Ok, Err}
use Rattle.evaluate.specs.Refusals.{unless}
use Rattle.search.specs.declared.SearchBudget.{SearchBudget}
use Rattle.search.specs.Budget.{most_frontier, most_optima}
use Rattle.search.specs.Rooms.{frames_needed, scores_needed}
use Rattle.budget.specs.declared.BudgetRefusal.{BudgetRefusal}
use Rattle.budget.specs.declared.BudgetRefusal.TheVariants.{Unsound, OverBound, ShortRoom}

-- a refusal's number
abbrev pub number_of : BudgetRefusal → ℕ
number_of Unsound = 11
number_of OverBound = 12
number_of ShortRoom = 13

-- the refusal's number, or 0
abbrev pub refusal_of : {A : Type 0} → Result A BudgetRefusal → ℕ
refusal_of (Ok a) = 0
refusal_of (Err e) = number_of e

-- refusal 12 has passed
pub record Bounded (b : SearchBudget) : Type 0 where
  pub frontier : b.max_frontier ≤ most_frontier
  pub optima : b.max_optima ≤ most_optima

-- a width that no panel exceeds
abbrev pub most_width : ℕ
most_width = 0x100_0000

-- 13, for slots of v words
unfoldable pub rooms_by : SearchBudget → ℕ → ℕ → ℕ → ℕ → ℕ
rooms_by b v frames kept scores = unless (leb (frames_needed b) frames && leb ((b.max_optima + 2) * v) kept && leb (scores_needed b) scores) 13 0

unfoldable pub list_rooms_by : SearchBudget → ℕ → ℕ → ℕ → ℕ
list_rooms_by b v frames slot = unless (leb (frames_needed b) frames && leb v slot) 13 0
