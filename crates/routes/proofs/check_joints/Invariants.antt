use Rattle.routes.proofs.Laws.{JointsFrom}
use Rattle.routes.proofs.check_joints.Given as goal

abbrev pub invariant-loop-c : goal.invariant-loop-c
invariant-loop-c l = JointsFrom l.image l.words l.initial.c l.c

abbrev pub decreases-loop-c : goal.decreases-loop-c
decreases-loop-c l = l.c.left
