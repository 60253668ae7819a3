use Rattle.kept.proofs.Steps.{recorded}
use Rattle.kept.proofs.offer.Goals as goal

pub returns : goal.returns
returns c = search recorded
