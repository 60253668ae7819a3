use Rattle.std.proofs.Common.{rules}
use Rattle.image.specs.Image.{path_counts}
use Rattle.image.proofs.Laws.{path_counts_length}
use Rattle.families.proofs.is_total.Goals as goal

pub returns : goal.returns
returns c = c.adds_up.ensures (path_counts c.args.h c.args.image.now) (search path_counts_length) (λ i x lt k. search rules)
