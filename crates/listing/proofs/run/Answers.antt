use Rattle.listing.proofs.Running.{ended_stop, under_next}
use Rattle.listing.proofs.run.Goals as goal

pub returns-in-Stopped : goal.returns-in-Stopped
returns-in-Stopped c = search ended_stop

pub loop-stop-preserved : goal.loop-stop-preserved
loop-stop-preserved c = (search under_next, c.go_on-pause.ensures.known)
