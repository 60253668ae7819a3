use Rattle.storage.proofs.Laws.{port_read}
use Rattle.storage.proofs.port_at.Goals as goal

pub returns : goal.returns
returns c = search port_read
