use Rattle.image.proofs.Laws.{lane_index, lane_index_fits, lane_port_is}
use borrow.Author.Rules.{rules}
use Rattle.image.proofs.lane_port.Goals as goal

pub overflow_add-l : goal.overflow_add-l
overflow_add-l c = search lane_index_fits

pub record_at-requires : goal.record_at-requires
record_at-requires c = search (rules, lane_index)

pub returns : goal.returns
returns c = search lane_port_is
