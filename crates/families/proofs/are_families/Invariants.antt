use mathlib.Core.Path.{◌≡◌}
use Rattle.ground.proofs.ListLaws.{AllFrom}
use Rattle.image.specs.Image.{path_counts, families}
use lib.ListN.{take}
use Rattle.ground.specs.Lists.{sum}
use Rattle.families.specs.Families.{no_twice}
use Rattle.families.proofs.are_families.Given as goal

abbrev pub invariant-loop-i : goal.invariant-loop-i
invariant-loop-i l = AllFrom no_twice (families l.h l.image) l.i-end l.i × (l.start ≡ sum (take l.i (path_counts l.h l.image)))
