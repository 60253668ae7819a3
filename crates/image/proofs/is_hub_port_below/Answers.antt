use borrow.Author.Rules.{rules}
use Rattle.image.specs.Image.{hub}
use Rattle.image.proofs.is_hub_port_below.Goals as goal

pub returns : goal.returns
unfolding hub
returns c = search rules
