use Rattle.panel.proofs.Laws.{lane_few, listed_near, listed_told, row_rises}
use borrow.Author.Rules.{rules}
use Rattle.panel.proofs.is_listed.Goals as goal

pub evenly-near-requires : goal.evenly-near-requires
evenly-near-requires c = search lane_few

pub places_before-requires : goal.places_before-requires
places_before-requires c = search (rules, row_rises)

pub returns-then-is_lane_port_here : goal.returns-then-is_lane_port_here
returns-then-is_lane_port_here c = search listed_near

pub returns-else-is_lane_port_here : goal.returns-else-is_lane_port_here
returns-else-is_lane_port_here c = search listed_told
