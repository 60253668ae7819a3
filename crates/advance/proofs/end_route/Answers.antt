use Rattle.advance.proofs.Laws.{ends_down, ends_give}
use Rattle.advance.proofs.end_route.Goals as goal

pub returns-then-slot-family : goal.returns-then-slot-family
returns-then-slot-family c = search ends_give

pub returns-else-slot-family : goal.returns-else-slot-family
returns-else-slot-family c = search ends_down
