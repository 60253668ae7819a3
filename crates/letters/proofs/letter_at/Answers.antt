use Rattle.letters.proofs.Laws.{letter_forward, letter_reverse}
use Rattle.letters.proofs.letter_at.Goals as goal

pub returns-then-reverse : goal.returns-then-reverse
returns-then-reverse c = search letter_reverse

pub returns-else-reverse : goal.returns-else-reverse
returns-else-reverse c = search letter_forward
