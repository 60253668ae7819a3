use Rattle.lines.proofs.Laws.{foreign_no_family, foreign_told}
use Rattle.lines.proofs.foreign.Goals as goal

pub returns-then-number-h : goal.returns-then-number-h
returns-then-number-h c = search foreign_told

pub returns-else-number-h : goal.returns-else-number-h
returns-else-number-h c = search foreign_no_family
