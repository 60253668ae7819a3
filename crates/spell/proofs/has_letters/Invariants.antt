use Rattle.spell.proofs.Laws.{Fewer}
use Rattle.spell.proofs.has_letters.Given as goal

abbrev pub invariant-loop-i : goal.invariant-loop-i
invariant-loop-i l = Fewer l.words l.at l.left l.to l.i l.more
