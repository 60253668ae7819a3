use Rattle.routes.proofs.Laws.{RoutesFrom}
use Rattle.routes.proofs.check_routes.Given as goal

abbrev pub invariant-loop-i : goal.invariant-loop-i
invariant-loop-i l = RoutesFrom l.image l.h l.f l.words l.f.count l.at l.i-counter
