use Rattle.storage.proofs.Laws.{reverse_read}
use Rattle.storage.proofs.reverse_at.Goals as goal

pub returns : goal.returns
returns c = search reverse_read
