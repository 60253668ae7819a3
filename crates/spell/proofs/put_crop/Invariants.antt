use Rattle.spell.proofs.Laws.{Cropping}
use Rattle.spell.proofs.put_crop.Given as goal

abbrev pub invariant-loop-i : goal.invariant-loop-i
invariant-loop-i l = Cropping l.bases l.letters l.words l.initial.out l.out l.at l.left l.from l.to l.next l.lo l.hi l.i
