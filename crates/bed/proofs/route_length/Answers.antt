use Rattle.std.proofs.Common.{arith}
use Rattle.bed.proofs.Writing.{measuring_on, measuring_step, measuring_ends}
use Rattle.bed.proofs.route_length.Goals as goal

pub row_length-sum-requires : goal.row_length-sum-requires
row_length-sum-requires c = measuring_on c.loop-i.invariant _ (omega arith) c.segment_at-s.ensures

pub loop-i-preserved : goal.loop-i-preserved
loop-i-preserved c = search measuring_step

pub returns : goal.returns
returns c = measuring_ends c.loop-i.invariant (omega arith)
