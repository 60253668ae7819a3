use Rattle.names.specs.Names.{lines_of}
use Rattle.bed.proofs.Writing.{Summing}
use Rattle.bed.proofs.text_length.Given as goal

abbrev pub invariant-loop-slot : goal.invariant-loop-slot
invariant-loop-slot l = Summing (lines_of l.table.names.now) l.table.lanes l.words l.routes l.place l.slot l.sum
