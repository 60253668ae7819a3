use Rattle.storage.proofs.Laws.{before_is}
use Rattle.storage.proofs.is_before.Goals as goal

pub returns : goal.returns
returns c = search before_is
