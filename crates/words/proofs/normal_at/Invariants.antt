use Rattle.words.proofs.Normal.{Joining}
use Rattle.words.proofs.normal_at.Given as goal

abbrev pub invariant-loop-i : goal.invariant-loop-i
invariant-loop-i l = Joining l.words l.at l.left l.segment l.i
