use Rattle.engine.proofs.Sweeping.{Sweeping}
use Rattle.engine.proofs.sweep_families.Given as goal

abbrev pub invariant-loop-n : goal.invariant-loop-n
invariant-loop-n l = Sweeping l.image l.h l.initial.path l.initial.slot l.initial.out l.initial.told l.memo l.path l.slot l.out l.n l.start l.told
