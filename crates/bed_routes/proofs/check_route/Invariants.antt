use Rattle.std.proofs.Common.{◌-◌, length}
use Rattle.image.specs.Panel.{panel_of}
use Rattle.names.specs.Names.{lines_of}
use Rattle.bed_routes.proofs.Laws.{Walking}
use Rattle.bed_routes.proofs.check_route.Given as goal

abbrev pub invariant-loop-place : goal.invariant-loop-place
invariant-loop-place l = Walking (panel_of l.image) l.target (lines_of l.table.names.now) l.text l.slot l.at l.seen l.place

abbrev pub decreases-loop-place : goal.decreases-loop-place
decreases-loop-place l = length l.text - l.place
