use Rattle.lines.proofs.Laws.{Summing}
use Rattle.lines.proofs.foreign_in.Given as goal

abbrev pub invariant-loop-i : goal.invariant-loop-i
invariant-loop-i l = Summing l.target l.words l.at l.left l.i l.sum
