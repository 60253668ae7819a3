use Rattle.writer.proofs.Laws.{roomy_after, piece_closes, piece_same}
use Rattle.writer.proofs.add_piece.Goals as goal

pub add_route-requires : goal.add_route-requires
add_route-requires c = search roomy_after

pub returns-then-below-above : goal.returns-then-below-above
returns-then-below-above c = search piece_same

pub returns-else-below-above : goal.returns-else-below-above
returns-else-below-above c = search piece_closes
