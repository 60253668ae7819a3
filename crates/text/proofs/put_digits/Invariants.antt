use Rattle.text.proofs.Laws.{Counting}
use Rattle.text.proofs.put_digits.Given as goal

abbrev pub invariant-loop-i : goal.invariant-loop-i
invariant-loop-i l = Counting l.x l.i l.rest l.digits
