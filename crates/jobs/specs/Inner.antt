-- What the job's readers promise each other; nothing here is part of a public promise.
use Rattle.std.specs.Prelude.{ℕ, ◌+◌, ◌*◌, ◌≤◌, ◌≡◌, List, true, length, drop}
use Rattle.jobs.specs.declared.Job.{Job}
use Rattle.search.specs.Job.{job_ok, panel_in, budget_in, panel_bytes, budget_words, score_count}

-- the parts of a job that 16 does not meet
pub record Parts (s : List ℕ) (j : Job) : Type 0 where
  pub ok : job_ok s ≡ true
  pub panel : j.panel.now ≡ panel_in s
  pub budget : j.budget ≡ budget_in s
  pub scores : j.scores.now ≡ drop (24 + panel_bytes s + 8 * budget_words s) s
  pub long : length j.scores.now ≡ 8 * score_count s
  pub few : score_count s ≤ 1024
