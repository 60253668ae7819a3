use Rattle.kept.proofs.Steps.{tidy_prune, tidy_prune_scores, replaced_with}
use Rattle.kept.proofs.replace.Goals as goal

pub prune-count-requires : goal.prune-count-requires
prune-count-requires c = rw c.unwrap_or-held.ensures (search tidy_prune, search tidy_prune_scores)

pub returns : goal.returns
returns c = replaced_with c.unwrap_or-held.ensures c.requires c.prune-count.ensures c.copy_slot.ensures
