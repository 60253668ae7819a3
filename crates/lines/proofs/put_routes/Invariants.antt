use Rattle.lines.proofs.Laws.{Listing}
use Rattle.lines.proofs.put_routes.Given as goal

abbrev pub invariant-loop-slot : goal.invariant-loop-slot
invariant-loop-slot l = Listing l.words l.routes l.initial.out l.at l.place l.slot l.out l.to
