use Rattle.graph.proofs.LookupLaws.{lane_found, lane_missing}
use Rattle.graph.proofs.panel_port_at_cut.Goals as goal

pub returns-then-h-lane : goal.returns-then-h-lane
returns-then-h-lane c = search lane_missing

pub returns : goal.returns
returns c = search lane_found
