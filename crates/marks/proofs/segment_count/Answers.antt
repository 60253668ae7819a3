use Rattle.marks.proofs.Laws.{counting_next, counting_ends, counting_route}
use Rattle.marks.proofs.segment_count.Goals as goal

pub count_at-left-requires : goal.count_at-left-requires
count_at-left-requires c = search counting_route

pub loop-preserved : goal.loop-preserved
loop-preserved c = search counting_next

pub returns : goal.returns
returns c = search counting_ends
