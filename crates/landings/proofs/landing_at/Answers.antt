use Rattle.landings.proofs.Laws.{landing_told}
use Rattle.landings.proofs.landing_at.Goals as goal

pub returns : goal.returns
returns c = search landing_told
