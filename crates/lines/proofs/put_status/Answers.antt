use Rattle.lines.proofs.Laws.{status_put}
use Rattle.lines.proofs.put_status.Goals as goal

pub returns : goal.returns
returns c = search status_put
