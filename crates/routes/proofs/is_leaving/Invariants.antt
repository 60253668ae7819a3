use Rattle.routes.proofs.Laws.{Ending}
use Rattle.routes.proofs.is_leaving.Given as goal

abbrev pub invariant-loop-c : goal.invariant-loop-c
invariant-loop-c l = Ending l.image l.words l.target l.initial.c l.c

abbrev pub decreases-loop-c : goal.decreases-loop-c
decreases-loop-c l = l.c.left
