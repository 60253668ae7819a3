use Rattle.listing.proofs.Sowing.{Sowing}
use Rattle.listing.proofs.seed.Given as goal

abbrev pub invariant-loop-natives : goal.invariant-loop-natives
invariant-loop-natives l = Sowing l.image l.h l.b l.v l.initial.listing l.initial.slot l.initial.out l.slot l.out l.natives l.start l.listing
