use Rattle.std.proofs.Common.{rules}
use Rattle.lines.proofs.Laws.{summing_ends, summing_fits, summing_low, summing_next, summing_start}
use Rattle.lines.proofs.foreign_in.Goals as goal

pub loop-i-init : goal.loop-i-init
loop-i-init c = search (rules, summing_start)

pub foreign_of-sum-requires : goal.foreign_of-sum-requires
foreign_of-sum-requires c = search summing_low

pub overflow_add-sum : goal.overflow_add-sum
overflow_add-sum c = search (rules, summing_fits)

pub loop-i-preserved : goal.loop-i-preserved
loop-i-preserved c = search summing_next

pub returns : goal.returns
returns c = search summing_ends
