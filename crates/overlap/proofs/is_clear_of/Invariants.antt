use Rattle.overlap.proofs.ChainLaws.{Following}
use Rattle.overlap.proofs.is_clear_of.Given as goal

abbrev pub invariant-loop-e : goal.invariant-loop-e
invariant-loop-e l = Following l.words l.links l.s l.head l.e

abbrev pub decreases-loop-e : goal.decreases-loop-e
decreases-loop-e l = l.e
