use Rattle.std.proofs.Common.{◌+◌, ◌-◌, ◌*◌}
use Rattle.names.specs.Names.{lines_of}
use Rattle.bed_overlap.proofs.Blocks.{Putting}
use Rattle.bed_overlap.proofs.put_block.Given as goal

abbrev pub invariant-loop-i : goal.invariant-loop-i
invariant-loop-i l = Putting (lines_of l.table.names.now) l.text l.at l.to l.initial.room l.room (l.to + 4 * l.i) l.from (1024 - l.i)
