use Rattle.names.specs.Names.{lines_of}
use Rattle.bed.proofs.Writing.{Listing}
use Rattle.bed.proofs.put_routes.Given as goal

abbrev pub invariant-loop-slot : goal.invariant-loop-slot
invariant-loop-slot l = Listing (lines_of l.table.names.now) l.table.lanes l.words l.routes l.initial.out l.place l.slot l.out l.to
