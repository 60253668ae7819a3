use Rattle.names.proofs.Laws.{Hashing}
use Rattle.names.proofs.hash.Given as goal

abbrev pub invariant-loop-x : goal.invariant-loop-x
invariant-loop-x l = Hashing l.s l.h l.x-index
