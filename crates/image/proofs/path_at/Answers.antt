use Rattle.image.specs.Image.{paths}
use borrow.Author.Rules.{rules}
use Rattle.image.proofs.path_at.Goals as goal

pub returns : goal.returns
unfolding paths
returns c = search rules
