use Rattle.listing.proofs.Answer.{list-answer, list_refused, list-rooms, list_untouched}
use Rattle.graph.proofs.Laws.{accepted_told}
use Rattle.listing.proofs.list.Goals as goal

pub list_panel-requires : goal.list_panel-requires
list_panel-requires c = accepted_told _ _ c.in-Ok.ensures

pub returns-in-Ok : goal.returns-in-Ok
returns-in-Ok c = record { value = search list-answer; rooms_after = search list-rooms }

pub returns-in-Err : goal.returns-in-Err
returns-in-Err c = record { value = search list_refused; rooms_after = search list_untouched }
