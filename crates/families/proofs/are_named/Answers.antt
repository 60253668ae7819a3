use Rattle.std.proofs.Common.{rules, tests}
use Rattle.ground.proofs.Ranges.{all_of_range}
use Rattle.image.specs.Image.{paths}
use Rattle.image.proofs.Laws.{paths_length}
use Rattle.families.specs.Families.{names}
use Rattle.families.proofs.are_named.Goals as goal

pub returns : goal.returns
unfolding names
returns c = all_of_range 0 (names c.args.h) (paths c.args.h c.args.image.now) c.args.h.paths (search paths_length) c.all.result c.all.ensures.ran (λ i b q k. search (rules, tests))
