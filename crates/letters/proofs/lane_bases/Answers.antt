use Rattle.image.proofs.Laws.{starting_start, starting_next}
use Rattle.letters.proofs.Laws.{lengths_length, base_fits, based}
use Rattle.letters.proofs.lane_bases.Goals as goal

pub loop-lane-init : goal.loop-lane-init
loop-lane-init c = search starting_start

pub overflow_add-at : goal.overflow_add-at
overflow_add-at c = search base_fits

pub loop-lane-preserved : goal.loop-lane-preserved
loop-lane-preserved c = search (starting_next, lengths_length)

pub returns : goal.returns
returns c = search based
