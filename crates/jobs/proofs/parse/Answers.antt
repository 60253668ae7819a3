use Rattle.std.proofs.Common.{◌≡◌, ◌≤◌, true, false, length, sym, ap, ◌∙◌, rules, tests, arith}
use Rattle.jobs.proofs.Laws.{added, not_long, job_added, job_few, panel_is, budget_is, scores_are, scores_long}
use Rattle.jobs.proofs.parse.Goals as goal

pub returns-then-not-contains : goal.returns-then-not-contains
returns-then-not-contains c = not_long c.args.job.now (λ h. grind (arith, tests))

pub returns-then-not-adds_up : goal.returns-then-not-adds_up
returns-then-not-adds_up c =
    let lo : 24 ≤ length c.args.job.now = search rules in
    let hi : length c.args.job.now ≤ 24576 = search rules in
    let a : added c.args.job.now ≡ false = rw (← c.word_at-panel.ensures, ← c.word_at-words.ensures, ← c.word_at-scores.ensures) (sym c.adds_up.ensures ∙ c.if-not-adds_up.true) in
    job_added c.args.job.now lo hi ∙ a

pub returns : goal.returns
returns c =
    let s = c.args.job.now in
    let lo : 24 ≤ length s = search rules in
    let hi : length s ≤ 24576 = search rules in
    let a : added s ≡ true = rw (← c.word_at-panel.ensures, ← c.word_at-words.ensures, ← c.word_at-scores.ensures) (sym c.adds_up.ensures ∙ c.if-not-adds_up.false) in
    record {
      ok = job_added s lo hi ∙ a;
      panel = panel_is s _ c.word_at-panel.ensures;
      budget = c.budget_of.ensures ∙ budget_is s _ _ c.word_at-panel.ensures c.word_at-words.ensures;
      scores = scores_are s _ _ c.word_at-panel.ensures c.word_at-words.ensures;
      long = ap length (scores_are s _ _ c.word_at-panel.ensures c.word_at-words.ensures) ∙ scores_long s a;
      few = job_few s a;
    }
