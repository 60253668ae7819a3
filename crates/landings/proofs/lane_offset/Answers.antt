use borrow.Author.Rules.{rules}
use Rattle.image.proofs.Laws.{lane_index_fits, lane_index, lane_ports_stand}
use Rattle.landings.proofs.Laws.{lane_here}
use Rattle.landings.proofs.lane_offset.Goals as goal

pub overflow_add-l : goal.overflow_add-l
overflow_add-l c = search lane_index_fits

pub offset-requires : goal.offset-requires
offset-requires c = search (rules, lane_ports_stand, lane_index)

pub returns : goal.returns
returns c = search lane_here
