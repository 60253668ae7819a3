-- The budgets and their bounds: refusals 11 and 12 (01, "Refusal numbers", "Panel image"); budgets that are no smaller (02, items 4 and 13).
use Rattle.std.specs.Prelude.{ℕ, ◌≤◌, Bool, false, ◌&&◌, leb, ltb, pos, Float}
use Rattle.std.specs.Float.Ieee as Ieee
use Rattle.std.specs.Float.{fin}
use Rattle.std.specs.Float.Ieee.Scale.{finite}
use Rattle.evaluate.specs.Refusals.{unless}
use Rattle.search.specs.declared.SearchBudget.{SearchBudget}

-- Bounds: "max_frontier and max_optima to 1,024"
abbrev pub most_frontier : ℕ
most_frontier = 1024

abbrev pub most_optima : ℕ
most_optima = 1024

-- 0.0
abbrev pub zero_score : Float
zero_score = fin false 0 (pos 0)

-- "the tie width is not finite or below 0 (-0.0 passes)"
unfoldable pub width_ok : Float → Bool
width_ok w = finite w && Ieee.le zero_score w

-- 11: "a whole budget is 0", or the tie width
unfoldable pub budget_ok : SearchBudget → Bool
budget_ok b = ltb 0 b.max_work && ltb 0 b.max_evaluations && ltb 0 b.max_frontier && ltb 0 b.max_optima && width_ok b.tie_width

-- 12: "max_frontier or max_optima over its bound"
unfoldable pub budget_in_bounds : SearchBudget → Bool
budget_in_bounds b = leb b.max_frontier most_frontier && leb b.max_optima most_optima

unfoldable pub budget_refusal : SearchBudget → ℕ
budget_refusal b = unless (budget_ok b) 11 (unless (budget_in_bounds b) 12 0)

-- of the budgets that stop a walk none is smaller in c than in b
pub record WalkNoSmaller (b c : SearchBudget) : Type 0 where
  pub work : b.max_work ≤ c.max_work
  pub evaluations : b.max_evaluations ≤ c.max_evaluations
  pub frontier : b.max_frontier ≤ c.max_frontier
