use Rattle.lines.proofs.Laws.{slot_put}
use Rattle.lines.proofs.put_slot.Goals as goal

pub returns : goal.returns
returns c = search slot_put
