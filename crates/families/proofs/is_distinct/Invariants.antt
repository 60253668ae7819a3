use lib.Dec.{eqb}
use Rattle.image.specs.Image.{paths_of}
use Rattle.ground.proofs.ListLaws.{DistinctFrom}
use Rattle.families.proofs.is_distinct.Given as goal

abbrev pub invariant-loop-i : goal.invariant-loop-i
invariant-loop-i l = DistinctFrom eqb (paths_of l.h l.image l.f.number) l.i-end l.i
