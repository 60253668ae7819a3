use Rattle.storage.proofs.Laws.{source_is}
use Rattle.storage.proofs.source_of.Goals as goal

pub returns : goal.returns
returns c = search source_is
