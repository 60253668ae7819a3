use Rattle.std.proofs.Common.{◌+◌, ◌-◌, ◌*◌}
use Rattle.names.specs.Names.{lines_of}
use Rattle.bed.proofs.Writing.{Writing}
use Rattle.bed.proofs.put_route.Given as goal

abbrev pub invariant-loop-i : goal.invariant-loop-i
invariant-loop-i l = Writing (lines_of l.table.names.now) l.table.lanes l.slot l.words l.from l.left l.initial.out l.at (l.from + 4 * l.i) (l.left - l.i) l.out l.to
