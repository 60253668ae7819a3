use Rattle.writer.proofs.Laws.{Writing}
use Rattle.writer.proofs.put_path.Given as goal

abbrev pub invariant-loop-i : goal.invariant-loop-i
invariant-loop-i l = Writing l.family l.frames l.top l.s l.initial.slot l.slot l.p l.i
