use borrow.Author.Rules.{rules}
use Rattle.image.proofs.Laws.{lane_next_fits, lane_next_index, lane_pair_is}
use Rattle.image.proofs.is_lane_port_below.Goals as goal

pub overflow_add-l : goal.overflow_add-l
overflow_add-l c = search lane_next_fits

pub is_place_before_next-requires : goal.is_place_before_next-requires
is_place_before_next-requires c = search (rules, lane_next_index)

pub returns : goal.returns
returns c = search lane_pair_is
