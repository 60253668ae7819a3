use borrow.Author.Rules.{rules}
use Rattle.image.proofs.Laws.{lane_index, lane_before_is, lane_index_fits}
use Rattle.image.proofs.is_lane_port_before.Goals as goal

pub overflow_add-l : goal.overflow_add-l
overflow_add-l c = search lane_index_fits

pub is_before-requires : goal.is_before-requires
is_before-requires c = search (rules, lane_index)

pub returns : goal.returns
returns c = search lane_before_is
