use Rattle.graph.proofs.Laws.{accepted_told}
use Rattle.bed.proofs.Answers.{write-answer, write-out, write_told, write_refused, write_untouched, write_stopped}
use Rattle.bed.proofs.write_bed.Goals as goal

pub write_panel-requires : goal.write_panel-requires
write_panel-requires c = accepted_told _ _ c.in-Ok.ensures

pub returns-in-Ok : goal.returns-in-Ok
returns-in-Ok c = record { value = search write-answer; out_after = search write-out; write_holds = search write_told }

pub returns-in-Err : goal.returns-in-Err
returns-in-Err c = record { value = search write_refused; out_after = search write_untouched; write_holds = search write_stopped }
