-- What the program prints, from the search's answer; nothing here is part of a public promise.
use Rattle.std.specs.Prelude.{ℕ, List, [], ◌∷◌, eqb, Float}
use Rattle.ground.specs.Lists.{pick}
use Rattle.image.specs.Panel.{panel_of}
use Rattle.evaluate.specs.Segments.{Assignment}
use Rattle.search.specs.declared.SearchBudget.{SearchBudget}
use Rattle.search.specs.Keep.{Evaluated}
use Rattle.search.specs.Search.{search}
use Rattle.search.specs.Answers.{search_refusal}
use Rattle.search.specs.Sheet.{sheet, refusal_line}
use Rattle.search.specs.Job.{program_rooms}

-- the incumbent's assignment; without an incumbent one of no routes, whose lines are none
abbrev pub incumbent_of : List Evaluated → Assignment
incumbent_of [] = record { family = 0; routes = [] }
incumbent_of (e ∷ l) = e.assignment

-- what is printed of a panel's bytes, a budget and scores
unfoldable pub answer_text : List ℕ → SearchBudget → List Float → List ℕ
answer_text s b xs =
    pick (eqb (search_refusal s b xs program_rooms).number 0) (sheet (panel_of s) (search (panel_of s) b xs)) (refusal_line (search_refusal s b xs program_rooms))
