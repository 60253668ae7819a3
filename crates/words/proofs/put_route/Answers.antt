use Rattle.words.proofs.Writing.{putting_start, putting_more, putting_done}
use Rattle.words.proofs.put_route.Goals as goal

pub loop-n-init : goal.loop-n-init
loop-n-init c = search putting_start

pub loop-n-preserved : goal.loop-n-preserved
loop-n-preserved c = search putting_more

pub returns : goal.returns
returns c = search putting_done
