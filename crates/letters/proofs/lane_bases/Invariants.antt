use Rattle.image.proofs.Laws.{Starting}
use Rattle.letters.specs.Letters.{lengths}
use Rattle.image.specs.Panel.{panel_of}
use Rattle.letters.proofs.lane_bases.Given as goal

abbrev pub invariant-loop-lane : goal.invariant-loop-lane
invariant-loop-lane l = Starting (lengths (panel_of l.image)) l.lane-end l.bases l.at l.lane
