use Rattle.listing.proofs.Answer.{panel_refused, panel_told}
use Rattle.listing.proofs.list_panel.Goals as goal

pub returns-in-Ok : goal.returns-in-Ok
returns-in-Ok c = panel_told c.in-Ok.ensures c.list_in.ensures

pub returns-in-Err : goal.returns-in-Err
returns-in-Err c = panel_refused c.in-Err.ensures c.number.ensures c.refused.ensures
