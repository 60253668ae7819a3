use Rattle.std.proofs.lemmas.Result.{err_from_is_err_and}
use Rattle.searching.proofs.Running.{ended_stop, ended_refused, under_next}
use Rattle.searching.proofs.run.Goals as goal

pub returns-in-Stopped : goal.returns-in-Stopped
returns-in-Stopped c = ended_stop c.loop-stop.invariant.0 c.go_on-pause.ensures.paused _ c.in-Stopped.is

pub returns-in_err-score-in-Due : goal.returns-in_err-score-in-Due
returns-in_err-score-in-Due c =
    let p = err_from_is_err_and c.from_residual.result c.from_residual.ensures.1 in
    rw (p.1, p.2) (ended_refused c.loop-stop.invariant.0 c.go_on-pause.ensures.paused _ c.in-Due.is _ c.in_err-score-in-Due.ensures.refused)

pub loop-stop-preserved : goal.loop-stop-preserved
loop-stop-preserved c =
    let s = c.in_ok-score-in-Due.ensures in
    (under_next c.loop-stop.invariant.0 c.go_on-pause.ensures.paused _ c.in-Due.is s.refused s.score c.enter_path-account.ensures, c.go_on-pause.ensures.known)
