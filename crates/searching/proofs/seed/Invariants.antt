use Rattle.searching.proofs.Sowing.{Sowing}
use Rattle.searching.proofs.seed.Given as goal

abbrev pub invariant-loop-natives : goal.invariant-loop-natives
invariant-loop-natives l = Sowing l.image l.h l.b l.v l.scores l.initial.kept l.initial.kept_scores l.kept l.kept_scores l.natives l.start l.account
