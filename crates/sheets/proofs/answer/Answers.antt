use Rattle.std.proofs.Common.{arith, ◌≤◌, ◌/◌, length}
use Rattle.std.proofs.lemmas.List.{length-take-le}
use Rattle.sheets.proofs.Laws.{job_put, parts_put}
use Rattle.sheets.proofs.answer.Goals as goal

pub returns-in_default : goal.returns-in_default
returns-in_default c = job_put c.args.job.now c.in_default.ensures c.put_refusal.ensures

pub returns : goal.returns
returns c =
    let few : length c.in-Some.parts.scores.now / 8 ≤ 1024 = omega (arith, c.in-Some.ensures.long, c.in-Some.ensures.few) in
    parts_put c.args.job.now c.in-Some.parts c.in-Some.ensures c.read_scores.new.scores _ _ (length-take-le _ _ few) c.read_scores.auto.scores c.read_scores.ensures c.answer_panel.ensures
