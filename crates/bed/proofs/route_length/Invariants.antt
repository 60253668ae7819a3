use Rattle.std.proofs.Common.{◌+◌, ◌-◌, ◌*◌}
use Rattle.names.specs.Names.{lines_of}
use Rattle.bed.proofs.Writing.{Measuring}
use Rattle.bed.proofs.route_length.Given as goal

abbrev pub invariant-loop-i : goal.invariant-loop-i
invariant-loop-i l = Measuring (lines_of l.table.names.now) l.table.lanes l.slot l.words l.from l.left (l.from + 4 * l.i) (l.left - l.i) l.sum
