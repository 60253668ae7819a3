use Rattle.std.proofs.Common.{rules}
use Rattle.image.specs.Image.{counts}
use Rattle.image.proofs.Laws.{counts_length}
use Rattle.panel.proofs.is_total.Goals as goal

pub returns : goal.returns
returns c = c.adds_up.ensures (counts c.args.h c.args.image.now) (search counts_length) (λ i x lt k. search rules)
