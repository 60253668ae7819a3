-- The walk program's job, and what it prints (01, "The program").
use Rattle.std.specs.Prelude.{ℕ, ◌+◌, ◌*◌, Bool, ◌&&◌, ◌||◌, List, map, leb, eqb, length, drop, replicate, Float}
use Rattle.std.specs.Float.Ieee as Ieee
use Rattle.std.specs.Float.{binary64}
use Rattle.ground.specs.Lists.{pick, each}
use Rattle.storage.specs.Bytes.{number, part}
use Rattle.image.specs.Panel.{panel_of}
use Rattle.evaluate.specs.declared.Refusal.{Refusal}
use Rattle.search.specs.declared.SearchBudget.{SearchBudget}
use Rattle.search.specs.Budget.{zero_score}
use Rattle.search.specs.Search.{search}
use Rattle.search.specs.Rooms.{frame_width, width_for}
use Rattle.search.specs.Answers.{Rooms, search_refusal}
use Rattle.search.specs.Sheet.{sheet, refusal_line}

-- "at most 24,576 bytes and 1,024 scores"
abbrev pub most_job : ℕ
most_job = 24576

abbrev pub most_scores : ℕ
most_scores = 1024

-- "three u64 (panel bytes, budget words 0 or 5, scores)"
abbrev pub panel_bytes : List ℕ → ℕ
panel_bytes s = number s

abbrev pub budget_words : List ℕ → ℕ
budget_words s = number (drop 8 s)

abbrev pub score_count : List ℕ → ℕ
score_count s = number (drop 16 s)

-- 16: "job not as below"
unfoldable pub job_ok : List ℕ → Bool
job_ok s =
    leb 24 (length s) && leb (length s) most_job && (eqb (budget_words s) 0 || eqb (budget_words s) 5) && leb (score_count s) most_scores
    && eqb (length s) (24 + panel_bytes s + 8 * budget_words s + 8 * score_count s)

abbrev pub panel_in : List ℕ → List ℕ
panel_in s = part s 24 (panel_bytes s)

-- a double by its bits
abbrev pub double_of : ℕ → Float
double_of bits = Ieee.of_bits binary64 bits

-- "No budget words: 100000, 1000, 32, 8, 0.0."
abbrev pub default_budget : SearchBudget
default_budget = record { max_work = 100000; max_evaluations = 1000; max_frontier = 32; max_optima = 8; tie_width = zero_score }

-- "budget (work, evaluations, frontier, optima, tie width as bits)"
abbrev pub budget_from : List ℕ → SearchBudget
budget_from s =
    record {
      max_work = number s;
      max_evaluations = number (drop 8 s);
      max_frontier = number (drop 16 s);
      max_optima = number (drop 24 s);
      tie_width = double_of (number (drop 32 s));
    }

unfoldable pub budget_in : List ℕ → SearchBudget
budget_in s = pick (eqb (budget_words s) 0) default_budget (budget_from (drop (24 + panel_bytes s) s))

-- "scores as bits"
unfoldable pub scores_in : List ℕ → List Float
scores_in s = map double_of (each number 8 (score_count s) (drop (24 + panel_bytes s + 8 * budget_words s) s))

-- "Its rooms are those for max_frontier 32, max_optima 16, P 8."
abbrev pub program_frontier : ℕ
program_frontier = 32

abbrev pub program_optima : ℕ
program_optima = 16

abbrev pub program_paths : ℕ
program_paths = 8

unfoldable pub program_rooms : Rooms
program_rooms =
    record {
      frames = replicate ((program_frontier + 1) * frame_width) 0;
      kept = replicate ((program_optima + 2) * width_for program_paths program_frontier) 0;
      scores = replicate (program_optima + 1) zero_score;
    }

-- "16 goes first"
unfoldable pub job_refusal : List ℕ → Refusal
job_refusal s = pick (job_ok s) (search_refusal (panel_in s) (budget_in s) (scores_in s) program_rooms) (record { number = 16; place = 0 })

-- what is printed
unfoldable pub printed : List ℕ → List ℕ
printed s =
    pick (eqb (job_refusal s).number 0) (sheet (panel_of (panel_in s)) (search (panel_of (panel_in s)) (budget_in s) (scores_in s))) (refusal_line (job_refusal s))
