use Rattle.image.proofs.Laws.{started, counts_length, starting_start, starting_next, starting_fits}
use Rattle.image.proofs.lane_starts.Goals as goal

pub loop-lane-init : goal.loop-lane-init
loop-lane-init c = search starting_start

pub overflow_add-at : goal.overflow_add-at
overflow_add-at c = search (starting_fits, counts_length)

pub loop-lane-preserved : goal.loop-lane-preserved
loop-lane-preserved c = search (starting_next, counts_length)

pub returns : goal.returns
returns c = search started
