use Rattle.image.proofs.Laws.{entry_read}
use Rattle.image.proofs.entry_at.Goals as goal

pub returns : goal.returns
returns c = search entry_read
