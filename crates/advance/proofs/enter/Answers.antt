use Rattle.advance.proofs.Laws.{enter_fits, enter_reverse, enter_forward}
use Rattle.advance.proofs.enter.Goals as goal

pub overflow_add-next : goal.overflow_add-next
overflow_add-next c = search enter_fits

pub returns-then-f : goal.returns-then-f
returns-then-f c = search enter_reverse

pub returns-else-f : goal.returns-else-f
returns-else-f c = search enter_forward
