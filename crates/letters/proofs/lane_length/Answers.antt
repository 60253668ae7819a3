use Rattle.letters.proofs.Laws.{lane_length_is}
use Rattle.letters.proofs.lane_length.Goals as goal

pub returns : goal.returns
returns c = search lane_length_is
