use borrow.Author.Rules.{rules}
use Rattle.image.proofs.Laws.{lane_index, lane_index_fits, lane_same_is}
use Rattle.image.proofs.is_lane_port.Goals as goal

pub overflow_add-l : goal.overflow_add-l
overflow_add-l c = search lane_index_fits

pub offset-there-requires : goal.offset-there-requires
offset-there-requires c = search (rules, lane_index)

pub returns : goal.returns
returns c = search lane_same_is
