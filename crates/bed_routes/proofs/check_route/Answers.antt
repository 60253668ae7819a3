use Rattle.std.proofs.lemmas.Result.{err_from_is_err_and}
use Rattle.bed_routes.proofs.Laws.{walking_start, walking_again, walking_other, walking_ends, walked_on, walked_refused}
use Rattle.bed_routes.proofs.check_route.Goals as goal
use Rattle.bed_routes.proofs.check_route.Goals.{else-loop-place-test, then-loop-place-test+then-l-slot}

pub loop-place-init : goal.loop-place-init
loop-place-init c = search walking_start

pub loop-place-preserved : goal.loop-place-preserved
loop-place-preserved c = search walking_again

pub returns-in_err-judged : goal.returns-in_err-judged
returns-in_err-judged c =
    let i = c.loop-place.invariant in
    let p = err_from_is_err_and c.from_residual.result c.from_residual.ensures.1 in
    rw (p.1, p.2)
    (walked_refused
    (elim c.loop-place-test.branch [ else-loop-place-test w ↦ walking_ends i w.loop-place-test.false | then-loop-place-test+then-l-slot w ↦ walking_other i _ w.line_at-l.ensures w.if-l-slot.true ])
    c.in_err-judged.ensures)

pub returns : goal.returns
returns c =
    let i = c.loop-place.invariant in
    walked_on
    (elim c.loop-place-test.branch [ else-loop-place-test w ↦ walking_ends i w.loop-place-test.false | then-loop-place-test+then-l-slot w ↦ walking_other i _ w.line_at-l.ensures w.if-l-slot.true ])
    c.in_ok-judged.ensures
