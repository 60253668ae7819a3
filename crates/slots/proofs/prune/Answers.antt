use Rattle.slots.proofs.Unused.{pruned, pruned_fits, pruned_scores}
use Rattle.slots.proofs.prune.Goals as goal

pub blank-requires : goal.blank-requires
blank-requires c = (search pruned_fits, search pruned_scores)

pub returns : goal.returns
returns c = search pruned
