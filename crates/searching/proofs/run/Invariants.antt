use Rattle.searching.proofs.Running.{Under}
use Rattle.landings.specs.Inner.{Known}
use Prim.Native.Nat.{◌-◌}
use Rattle.searching.proofs.run.Given as goal

abbrev pub invariant-loop-stop : goal.invariant-loop-stop
invariant-loop-stop l = Under l.image l.h l.b l.v l.scores l.initial.frames l.initial.kept l.initial.kept_scores l.frames l.kept l.kept_scores l.at l.account × Known l.image l.h l.memo

abbrev pub decreases-loop-stop : goal.decreases-loop-stop
decreases-loop-stop l = l.b.max_work - l.at.tally.work
