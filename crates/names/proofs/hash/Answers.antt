use Rattle.std.proofs.Common.{rules}
use Rattle.names.proofs.Laws.{hashing_next, hashing_ends}
use Rattle.names.proofs.hash.Goals as goal

pub loop-x-preserved : goal.loop-x-preserved
loop-x-preserved c = search hashing_next

pub returns : goal.returns
returns c = (search hashing_ends, search rules)
