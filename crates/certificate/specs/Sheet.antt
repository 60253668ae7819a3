-- What a printed sheet certifies, over f, the users' scoring function. Below, job is the job's bytes, and text what the walk program puts out. The
-- sheet shows routes; which family's they are, and their score, it does not show.
use Rattle.std.specs.Prelude.{ℕ, ◌<◌, ◌≡◌, ◌⊎◌, List, [], ◌∷◌, ◌++◌, length, Float}
use Prim.Native.String.{String}
use Rattle.ground.specs.Texts.{bytes_of}
use Rattle.image.specs.Panel.{Panel, panel_of}
use Rattle.evaluate.specs.Segments.{Assignment}
use Rattle.search.specs.declared.Status.{Status}
use Rattle.search.specs.Run.{Walk, walk, Unbudgeted, Suffices}
use Rattle.search.specs.Counters.{tally_of, no_tally}
use Rattle.search.specs.Sheet.{line, field, status_text, status_bytes, tally_lines, optima_text, foreign_text, foreign, routes_lines}
use Rattle.search.specs.Job.{panel_in, budget_in, scores_in}
use Rattle.certificate.specs.Terms.{NativesThenLegal, Complete}
use Rattle.certificate.specs.Sentence.{ScoredBy, Tied, Best}

-- what is printed begins so
pub record Begins (words : String) (text : List ℕ) : Type 0 where
  pub rest : List ℕ
  pub is : text ≡ bytes_of words ++ rest

-- the two first lines that certify the optimum, with the support complete, and with it incomplete
abbrev pub certified_line : String
certified_line = "status domain-exhausted-optimum-and-correlated-support-certified\n"

abbrev pub incomplete_line : String
incomplete_line = "status domain-exhausted-optimum-certified-support-incomplete\n"

-- the job's panel, the walk under its budget, and what that hands over for evaluation
abbrev pub panel_for : List ℕ → Panel
panel_for job = panel_of (panel_in job)

abbrev pub walk_for : List ℕ → Walk
walk_for job = (walk (panel_for job) (budget_in job)).walk

abbrev pub handed_for : List ℕ → List Assignment
handed_for job = (walk_for job).out

-- what a sheet shows of the best
pub record Shows (f : Assignment → Float) (job text : List ℕ) : Type 0 where
  pub incumbent : Assignment
  pub tied : List Assignment
  pub best : Best f (panel_for job) (budget_in job).tie_width incumbent tied
  -- where the first line says that the support is certified, all that are tied are there
  pub complete : Begins certified_line text → Complete (λ a. a) (handed_for job) (Tied f (panel_for job) (budget_in job).tie_width incumbent) tied
  -- the lines: the status, the walk's counters, how many are tied, and of the incumbent its foreign bases and, route by route, its segments
  pub status : Status
  pub lines : text ≡ line (status_text ∷ status_bytes status ∷ [])
      ++ (tally_lines (tally_of (panel_for job) no_tally (walk_for job))
      ++ (field optima_text (length tied) ++ (field foreign_text (foreign (panel_for job) incumbent) ++ routes_lines 0 incumbent.routes)))

-- what a sheet tells that certifies
pub record Tells (job text : List ℕ) : Type 0 where
  -- the walk without budgets ends, and the job's three budgets suffice against it
  pub ends : Unbudgeted (panel_for job)
  pub enough : (u : Unbudgeted (panel_for job)) → Suffices (panel_for job) (budget_in job) u
  -- one native per family and after them each legal assignment exactly once were handed over
  pub evaluated : NativesThenLegal (panel_for job) (handed_for job)
  -- and where the job's panel has a family, the text shows the best of them, by every scoring function with which the job's scores agree
  pub shows : 0 < length (panel_for job).families → (f : Assignment → Float) → ScoredBy f (handed_for job) (scores_in job) → Shows f job text

-- THE SHEET'S SENTENCE, of a text whose first line certifies
abbrev pub SheetCertifies : List ℕ → List ℕ → Type 0
SheetCertifies job text = Begins certified_line text ⊎ Begins incomplete_line text → Tells job text
