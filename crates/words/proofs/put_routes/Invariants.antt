use Rattle.words.proofs.Writing.{Encoding}
use Rattle.words.proofs.put_routes.Given as goal

abbrev pub invariant-loop : goal.invariant-loop
invariant-loop l = Encoding l.words l.routes l.initial.out l.out l.to l.at l.counter
