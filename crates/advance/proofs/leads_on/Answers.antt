use Rattle.advance.proofs.Laws.{leads_forward, leads_not, leads_reverse}
use Rattle.advance.proofs.leads_on.Goals as goal

pub returns-then-out-f : goal.returns-then-out-f
returns-then-out-f c = search leads_not

pub returns-then-f : goal.returns-then-f
returns-then-f c = search leads_reverse

pub returns-else-f : goal.returns-else-f
returns-else-f c = search leads_forward
