use Rattle.overlap.proofs.ChainLaws.{AllLinked}
use Rattle.overlap.proofs.are_apart.Given as goal

abbrev pub invariant-loop : goal.invariant-loop
invariant-loop l = AllLinked l.words l.at l.routes l.heads l.links l.lows l.tops l.place l.counter
