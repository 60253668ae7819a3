use Rattle.graph.proofs.Laws.{accepted_told}
use Rattle.bed.proofs.Answers.{read_answer_is, read_out_is, read_told, read_refused, read_untouched, read_stopped}
use Rattle.bed.proofs.read_bed.Goals as goal

pub read_panel-requires : goal.read_panel-requires
read_panel-requires c = accepted_told _ _ c.in-Ok.ensures

pub returns-in-Ok : goal.returns-in-Ok
returns-in-Ok c = record { value = search read_answer_is; out_after = search read_out_is; read_holds = search read_told }

pub returns-in-Err : goal.returns-in-Err
returns-in-Err c = record { value = search read_refused; out_after = search read_untouched; read_holds = search read_stopped }
