use Rattle.names.specs.Names.{lines_of}
use Rattle.bed_routes.proofs.Laws.{RoutesFrom}
use Rattle.bed_routes.proofs.check_routes.Given as goal

abbrev pub invariant-loop-i : goal.invariant-loop-i
invariant-loop-i l = RoutesFrom l.image l.h l.f (lines_of l.table.names.now) l.text l.at l.i
