use Rattle.storage.proofs.Laws.{anchor_read}
use Rattle.storage.proofs.anchor_at.Goals as goal

pub returns : goal.returns
returns c = search anchor_read
