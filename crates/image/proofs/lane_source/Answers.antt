use borrow.Author.Rules.{rules}
use Rattle.image.proofs.Laws.{lane_index_fits, lane_source_is, lane_index}
use Rattle.image.proofs.lane_source.Goals as goal

pub overflow_add-l : goal.overflow_add-l
overflow_add-l c = search lane_index_fits

pub source_of-requires : goal.source_of-requires
source_of-requires c = search (rules, lane_index)

pub returns : goal.returns
returns c = search lane_source_is
