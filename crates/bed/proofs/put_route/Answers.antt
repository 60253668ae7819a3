use Rattle.std.proofs.Common.{arith}
use Rattle.bed.proofs.Writing.{writing_on, writing_step, writing_ends}
use Rattle.bed.proofs.put_route.Goals as goal

pub put_row-to-requires : goal.put_row-to-requires
put_row-to-requires c = writing_on c.loop-i.invariant _ (omega arith) c.segment_at-s.ensures

pub loop-i-preserved : goal.loop-i-preserved
loop-i-preserved c = search writing_step

pub returns : goal.returns
returns c = writing_ends c.loop-i.invariant (omega arith)
