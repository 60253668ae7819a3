use Rattle.routes.proofs.Laws.{lane_len_none, lane_len_is}
use Rattle.routes.proofs.lane_len.Goals as goal

pub returns-then-lane-h : goal.returns-then-lane-h
returns-then-lane-h c = search lane_len_is

pub returns-else-lane-h : goal.returns-else-lane-h
returns-else-lane-h c = search lane_len_none
