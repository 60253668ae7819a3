use Rattle.panel.proofs.Laws.{lane_few, places_down, places_up}
use Rattle.image.proofs.Laws.{row_length}
use Rattle.ground.proofs.ListLaws.{cut_done, cut_start}
use Rattle.panel.proofs.places_before.Goals as goal

pub evenly-near-requires : goal.evenly-near-requires
evenly-near-requires c = search lane_few

pub loop-lo-init : goal.loop-lo-init
loop-lo-init c = search cut_start

pub loop-lo-preserved-then-is_lane_port_before : goal.loop-lo-preserved-then-is_lane_port_before
loop-lo-preserved-then-is_lane_port_before c = search places_up

pub loop-lo-preserved : goal.loop-lo-preserved
loop-lo-preserved c = search places_down

pub returns : goal.returns
returns c = search (cut_done, row_length)
