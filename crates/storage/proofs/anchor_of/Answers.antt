use Rattle.storage.proofs.Laws.{anchor_is}
use Rattle.storage.proofs.anchor_of.Goals as goal

pub returns : goal.returns
returns c = search anchor_is
