-- Each call goes down: to the next place with less depth left, and at a place from it to its ports, to a hub, to parts of it and to a member.
use Rattle.std.proofs.Common.{◌+◌, ◌-◌, ◌*◌, length}
use Rattle.image.specs.Panel.{panel_of}
use Rattle.frames.specs.Inner.{path_at, frame_with}
use Rattle.enumeration.proofs.Sim.{remaining}
use Rattle.engine.specs.Inner.{paths}
use Rattle.engine.proofs.Acting.{PortsGoing}
use Rattle.engine.proofs.+steps.Given as goal

abbrev pub decreases-act_step : goal.decreases-act_step
decreases-act_step l = l.here.left * 8388608

abbrev pub decreases-hub_step : goal.decreases-hub_step
decreases-hub_step l = l.here.left * 8388608 + (l.g.hub_end - l.g.hub_next) + 1

abbrev pub decreases-place_step : goal.decreases-place_step
decreases-place_step l = l.here.left * 8388608 + 8388607

abbrev pub decreases-ports_step : goal.decreases-ports_step
decreases-ports_step l = l.here.left * 8388608 + 8388606

abbrev pub invariant-ports_step-loop-here : goal.invariant-ports_step-loop-here
invariant-ports_step-loop-here l = PortsGoing l.image l.starts l.here l.lane l.initial.path l.initial.slot l.initial.out l.initial.g l.initial.now l.memo l.path l.slot l.out l.g l.now

abbrev pub decreases-ports_step-loop-here : goal.decreases-ports_step-loop-here
decreases-ports_step-loop-here l = length (remaining (panel_of l.image) (paths l.image l.here) (frame_with (path_at l.path l.here.top) l.g))
