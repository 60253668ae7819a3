use Rattle.words.proofs.Scan.{Routing, Segmenting}
use Rattle.words.proofs.is_well_formed.Given as goal

abbrev pub invariant-loop-2 : goal.invariant-loop-2
invariant-loop-2 l = Segmenting l.words l.end l.counter-2 l.segments l.counter l.at

abbrev pub invariant-loop : goal.invariant-loop
invariant-loop l = Routing l.words l.end l.counter l.at
