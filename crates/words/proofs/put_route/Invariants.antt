use Rattle.words.proofs.Writing.{Putting}
use Rattle.words.proofs.put_route.Given as goal

abbrev pub invariant-loop-n : goal.invariant-loop-n
invariant-loop-n l = Putting l.words l.to l.at l.left l.initial.out l.out l.next l.count l.place l.n

abbrev pub decreases-loop-n : goal.decreases-loop-n
decreases-loop-n l = l.n
