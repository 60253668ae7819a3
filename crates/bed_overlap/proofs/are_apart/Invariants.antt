use Rattle.std.proofs.Common.{◌-◌, ◌≡◌, length}
use Rattle.names.specs.Names.{lines_of}
use Rattle.bed_overlap.proofs.Meeting.{Going}
use Rattle.bed_overlap.proofs.are_apart.Given as goal

abbrev pub invariant-loop-at : goal.invariant-loop-at
invariant-loop-at l = Going (lines_of l.table.names.now) l.text l.at × (length l.room ≡ 8193)

abbrev pub decreases-loop-at : goal.decreases-loop-at
decreases-loop-at l = length l.text - l.at
