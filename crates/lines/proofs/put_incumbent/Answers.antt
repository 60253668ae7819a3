use Rattle.lines.proofs.Laws.{incumbent_put}
use Rattle.lines.proofs.put_incumbent.Goals as goal

pub returns : goal.returns
returns c = search incumbent_put
