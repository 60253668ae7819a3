use Rattle.graph.proofs.Laws.{accepted_told}
use Rattle.engine.proofs.Promise.{plain_holds}
use Rattle.engine.proofs.Sweeping.{list-answer, list-room, list_refused, list_untouched}
use Rattle.engine.proofs.list.Goals as goal

pub list_in-requires : goal.list_in-requires
list_in-requires c = accepted_told _ _ c.in-Ok.ensures

pub returns-in-Ok : goal.returns-in-Ok
returns-in-Ok c = let h = c.check_panel.ensures in let o = c.in-Ok.is in let r = c.list_in.ensures in let e = list-answer _ _ _ _ _ _ _ h o r in let f = list-room _ _ _ _ _ _ _ h o r in record { value = e; out_after = f; plain_holds = plain_holds _ _ _ _ _ e f }

pub returns-in-Err : goal.returns-in-Err
returns-in-Err c = let g = c.args in let h = c.check_panel.ensures in let o = c.in-Err.is in let e = list_refused _ g.from g.out.now _ _ c.number.ensures _ h o _ c.refused.ensures in let f = list_untouched _ g.from g.out.now _ _ c.number.ensures _ h o in record { value = e; out_after = f; plain_holds = plain_holds _ _ _ _ _ e f }
