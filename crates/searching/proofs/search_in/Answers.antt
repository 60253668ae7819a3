use Rattle.landings.proofs.Laws.{known_none}
use Rattle.searching.proofs.Answer.{found_answer, found_rooms, onward_start, unfound_answer, unfound_rooms}
use Rattle.searching.proofs.search_in.Goals as goal

pub search_families-found-requires : goal.search_families-found-requires
search_families-found-requires c = record { accepted = (c.requires.0, c.lane_starts-starts.ensures, known_none _ _ _ c.no_memo-memo.ensures); framable = c.requires.2; onward = onward_start c.requires.1 c.requires.2.some c.begin.ensures _ c.none_yet.ensures }

pub returns-in-Ok : goal.returns-in-Ok
returns-in-Ok c = record { value = found_answer c.requires.1 c.requires.2 c.begin.ensures c.in-Ok.ensures _ c.reply.ensures; rooms_after = found_rooms c.requires.1 c.requires.2 c.begin.ensures c.in-Ok.ensures _ c.leave_frames.ensures }

pub returns-in-Err : goal.returns-in-Err
returns-in-Err c = record { value = unfound_answer c.requires.1 c.requires.2 c.begin.ensures c.in-Err.ensures c.number.ensures _ c.refused.ensures; rooms_after = unfound_rooms c.requires.1 c.requires.2 c.begin.ensures c.in-Err.ensures _ c.leave_frames-in-Err.ensures c.begin-in-Err.ensures }
