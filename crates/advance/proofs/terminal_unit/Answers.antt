use Rattle.advance.proofs.Laws.{term_ends, term_pass}
use Rattle.advance.proofs.terminal_unit.Goals as goal

pub returns-then-closes : goal.returns-then-closes
returns-then-closes c = search term_ends

pub returns-else-closes : goal.returns-else-closes
returns-else-closes c = search term_pass
