use Rattle.lines.proofs.Laws.{tally_put}
use Rattle.lines.proofs.put_tally.Goals as goal

pub returns : goal.returns
returns c = search tally_put
