use Rattle.lines.proofs.Laws.{writing_ends, writing_next, writing_start}
use Rattle.lines.proofs.put_route.Goals as goal

pub loop-i-init : goal.loop-i-init
loop-i-init c = search writing_start

pub loop-i-preserved : goal.loop-i-preserved
loop-i-preserved c = search writing_next

pub returns : goal.returns
returns c = search writing_ends
