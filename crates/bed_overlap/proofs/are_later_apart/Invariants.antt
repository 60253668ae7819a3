use Rattle.std.proofs.Common.{◌-◌, length}
use Rattle.names.specs.Names.{lines_of}
use Rattle.bed_overlap.proofs.Meeting.{Meeting}
use Rattle.bed_overlap.proofs.are_later_apart.Given as goal

abbrev pub invariant-loop-next : goal.invariant-loop-next
invariant-loop-next l = Meeting (lines_of l.table.names.now) l.text l.at l.count l.initial.room l.room l.from

abbrev pub decreases-loop-next : goal.decreases-loop-next
decreases-loop-next l = length l.text - l.from
