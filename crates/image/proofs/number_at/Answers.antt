use Rattle.image.proofs.Laws.{number_is}
use Rattle.image.proofs.number_at.Goals as goal

pub returns : goal.returns
returns c = search number_is
