use Rattle.image.specs.Image.{counts}
use Rattle.image.proofs.Laws.{Starting}
use Rattle.image.proofs.lane_starts.Given as goal

abbrev pub invariant-loop-lane : goal.invariant-loop-lane
invariant-loop-lane l = Starting (counts l.h l.image) l.h.lanes l.starts l.at l.lane
