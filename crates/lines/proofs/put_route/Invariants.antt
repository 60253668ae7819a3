use Rattle.lines.proofs.Laws.{Writing}
use Rattle.lines.proofs.put_route.Given as goal

abbrev pub invariant-loop-i : goal.invariant-loop-i
invariant-loop-i l = Writing l.slot l.words l.from l.left l.initial.out l.at l.i l.out l.to
