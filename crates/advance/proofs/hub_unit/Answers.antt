use Rattle.advance.proofs.Laws.{hub_close, hub_member}
use Rattle.advance.proofs.hub_unit.Goals as goal

pub returns-then-f : goal.returns-then-f
returns-then-f c = search hub_member

pub returns-else-f : goal.returns-else-f
returns-else-f c = search hub_close
