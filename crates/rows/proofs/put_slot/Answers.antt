use Rattle.rows.proofs.Laws.{slot_put}
use Rattle.rows.proofs.put_slot.Goals as goal

pub returns : goal.returns
returns c = search slot_put
