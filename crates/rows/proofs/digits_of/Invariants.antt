use Rattle.rows.proofs.Laws.{Spelling}
use Rattle.rows.proofs.digits_of.Given as goal

abbrev pub invariant-loop-x : goal.invariant-loop-x
invariant-loop-x l = Spelling l.s l.value l.x-index
