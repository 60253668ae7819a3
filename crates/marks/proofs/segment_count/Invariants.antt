use Rattle.marks.proofs.Laws.{Counting}
use Rattle.marks.proofs.segment_count.Given as goal

abbrev pub invariant-loop : goal.invariant-loop
invariant-loop l = Counting l.words l.at l.routes l.place l.counter l.count
