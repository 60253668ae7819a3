use Rattle.landings.proofs.Laws.{hub_here}
use Rattle.landings.proofs.hub_offset.Goals as goal

pub returns : goal.returns
returns c = search hub_here
