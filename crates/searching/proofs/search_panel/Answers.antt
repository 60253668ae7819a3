use Rattle.searching.proofs.Answer.{long_answer, long_rooms, short_answer, short_rooms}
use Rattle.searching.proofs.search_panel.Goals as goal

pub returns-in-Ok : goal.returns-in-Ok
returns-in-Ok c = record { value = long_answer _ _ _ _ _ _ c.in-Ok.ensures _ c.search_in.ensures.value; rooms_after = long_rooms _ _ _ _ _ _ c.in-Ok.ensures _ c.search_in.ensures.rooms_after }

pub returns-in-Err : goal.returns-in-Err
returns-in-Err c = record { value = short_answer _ _ _ _ _ _ c.in-Err.ensures c.number.ensures _ c.refused.ensures; rooms_after = short_rooms _ _ _ _ _ _ c.in-Err.ensures }
