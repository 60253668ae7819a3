use Rattle.std.proofs.Common.{length-set}
use Rattle.names.proofs.Cutting.{filling_next, filling_last, filling_ends}
use Rattle.names.proofs.cut_into.Goals as goal

pub returns-then-s-e : goal.returns-then-s-e
returns-then-s-e c = search filling_last

pub loop-k-preserved : goal.loop-k-preserved
loop-k-preserved c = (search filling_next, search length-set)

pub returns : goal.returns
returns c = search filling_ends
