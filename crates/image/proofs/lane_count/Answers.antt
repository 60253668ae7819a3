use Rattle.image.proofs.Laws.{count_is}
use Rattle.image.proofs.lane_count.Goals as goal

pub returns : goal.returns
returns c = search count_is
