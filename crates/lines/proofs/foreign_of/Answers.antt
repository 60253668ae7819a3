use Rattle.lines.proofs.Laws.{foreign_none, foreign_some}
use Rattle.lines.proofs.foreign_of.Goals as goal

pub returns-then-s-target : goal.returns-then-s-target
returns-then-s-target c = search foreign_none

pub returns-else-s-target : goal.returns-else-s-target
returns-else-s-target c = search foreign_some
