use Rattle.storage.proofs.Laws.{source_read}
use Rattle.storage.proofs.source_at.Goals as goal

pub returns : goal.returns
returns c = search source_read
