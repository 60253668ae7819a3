use Rattle.lines.proofs.Laws.{turn_back, turn_on}
use Rattle.lines.proofs.put_turn.Goals as goal

pub returns-then-reverse : goal.returns-then-reverse
returns-then-reverse c = search turn_back

pub returns-else-reverse : goal.returns-else-reverse
returns-else-reverse c = search turn_on
