use Rattle.image.specs.Image.{path_counts}
use borrow.Author.Rules.{rules}
use Rattle.image.proofs.path_count.Goals as goal

pub returns : goal.returns
unfolding path_counts
returns c = search rules
