use Rattle.searching.proofs.Answer.{panel_answer, panel_rooms, search-answer, search-rooms}
use Rattle.graph.proofs.Laws.{accepted_told}
use Rattle.searching.proofs.search.Goals as goal

pub search_panel-requires : goal.search_panel-requires
search_panel-requires c = accepted_told _ _ c.in-Ok.ensures

pub returns-in-Ok : goal.returns-in-Ok
returns-in-Ok c = record { value = search-answer _ _ _ _ _ c.check_panel.ensures _ c.in-Ok.is _ c.search_panel.ensures.value; rooms_after = search-rooms _ _ _ _ _ c.check_panel.ensures _ c.in-Ok.is _ c.search_panel.ensures.rooms_after }

pub returns-in-Err : goal.returns-in-Err
returns-in-Err c = record { value = panel_answer _ _ _ _ _ c.check_panel.ensures _ _ c.number.ensures c.in-Err.is _ c.refused.ensures; rooms_after = panel_rooms _ _ _ _ _ c.check_panel.ensures _ _ c.number.ensures c.in-Err.is }
