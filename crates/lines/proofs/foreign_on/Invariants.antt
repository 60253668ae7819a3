use Rattle.lines.proofs.Laws.{Adding}
use Rattle.image.specs.Image.{paths_of}
use Rattle.lines.proofs.foreign_on.Given as goal

abbrev pub invariant-loop-slot : goal.invariant-loop-slot
invariant-loop-slot l = Adding (paths_of l.h l.image l.f.number) l.words l.routes l.place l.slot l.sum
