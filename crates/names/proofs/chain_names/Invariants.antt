use Rattle.names.proofs.Laws.{Linking}
use Rattle.names.specs.Names.{cut}
use Rattle.names.proofs.chain_names.Given as goal

abbrev pub invariant-loop-i : goal.invariant-loop-i
invariant-loop-i l = Linking (cut 10 l.names) l.heads l.links l.lanes l.i
