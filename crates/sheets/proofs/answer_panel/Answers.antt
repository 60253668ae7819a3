use Rattle.sheets.proofs.Laws.{panel_put}
use Rattle.graph.proofs.Laws.{accepted_told}
use Rattle.sheets.proofs.answer_panel.Goals as goal

pub answer_search-requires : goal.answer_search-requires
answer_search-requires c = accepted_told _ _ c.in-Ok.ensures

pub returns-in-Err : goal.returns-in-Err
returns-in-Err c = search panel_put
