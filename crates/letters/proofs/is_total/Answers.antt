use Rattle.std.proofs.Common.{rules}
use Rattle.image.specs.Panel.{panel_of}
use Rattle.letters.specs.Letters.{lengths}
use Rattle.letters.proofs.Laws.{lengths_length}
use Rattle.letters.proofs.is_total.Goals as goal

pub returns : goal.returns
returns c = c.adds_up.ensures (lengths (panel_of c.args.image.now)) (search lengths_length) (λ i x lt k. search rules)
