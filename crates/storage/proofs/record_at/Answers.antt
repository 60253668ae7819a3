use Rattle.storage.proofs.Laws.{record_is}
use Rattle.storage.proofs.record_at.Goals as goal

pub returns : goal.returns
returns c = search record_is
