use Rattle.overlap.proofs.ChainLaws.{Linking}
use Rattle.overlap.proofs.link_route.Given as goal

abbrev pub invariant-loop-i : goal.invariant-loop-i
invariant-loop-i l = Linking l.words l.at l.left l.initial.heads l.initial.links l.heads l.links l.lows l.tops l.i
