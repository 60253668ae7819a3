use Rattle.lines.proofs.Laws.{segment-put}
use Rattle.lines.proofs.put_segment.Goals as goal

pub returns : goal.returns
returns c = search segment-put
