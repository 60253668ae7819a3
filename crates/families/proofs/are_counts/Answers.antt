use Rattle.std.proofs.Common.{rules, tests}
use Rattle.ground.proofs.Ranges.{all_of_range}
use Rattle.image.specs.Image.{path_counts}
use Rattle.image.proofs.Laws.{path_counts_length}
use Rattle.families.specs.Families.{count_ok}
use Rattle.families.proofs.are_counts.Goals as goal

pub returns : goal.returns
unfolding count_ok
returns c = all_of_range 0 count_ok (path_counts c.args.h c.args.image.now) c.args.h.families (search path_counts_length) c.all.result c.all.ensures.ran (λ i b q k. search (rules, tests))
