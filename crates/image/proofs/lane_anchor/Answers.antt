use borrow.Author.Rules.{rules}
use Rattle.image.proofs.Laws.{lane_index, lane_index_fits, lane_anchor_is}
use Rattle.image.proofs.lane_anchor.Goals as goal

pub overflow_add-l : goal.overflow_add-l
overflow_add-l c = search lane_index_fits

pub anchor_of-requires : goal.anchor_of-requires
anchor_of-requires c = search (rules, lane_index)

pub returns : goal.returns
returns c = search lane_anchor_is
