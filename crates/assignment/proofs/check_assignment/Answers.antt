use Rattle.assignment.proofs.Laws.{check_answered, check_written, check_refused, check_untouched}
use Rattle.graph.proofs.Laws.{accepted_told}
use Rattle.assignment.proofs.check_assignment.Goals as goal

pub check_room-requires : goal.check_room-requires
check_room-requires c = accepted_told _ _ c.in-Ok.ensures

pub returns-in-Ok : goal.returns-in-Ok
returns-in-Ok c = record { value = search check_answered; out_after = search check_written }

pub returns-in-Err : goal.returns-in-Err
returns-in-Err c = record { value = check_refused _ _ _ _ _ c.number.ensures _ c.check_panel.ensures c.in-Err.is; out_after = check_untouched _ _ _ _ _ c.number.ensures _ c.check_panel.ensures c.in-Err.is }
