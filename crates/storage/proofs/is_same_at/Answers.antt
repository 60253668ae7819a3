use Rattle.storage.proofs.OrderLaws.{same_told}
use Rattle.storage.proofs.is_same_at.Goals as goal

pub returns : goal.returns
returns c = search same_told
