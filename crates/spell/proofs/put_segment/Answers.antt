use Rattle.spell.proofs.Laws.{segment-put}
use Rattle.spell.proofs.put_segment.Goals as goal

pub returns : goal.returns
returns c = search segment-put
