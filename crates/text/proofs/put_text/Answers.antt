use Rattle.text.proofs.Laws.{put_all, put_next, put_none}
use Rattle.text.proofs.put_text.Goals as goal

pub loop-x-init : goal.loop-x-init
loop-x-init c = search put_none

pub loop-x-preserved : goal.loop-x-preserved
loop-x-preserved c = search put_next

pub returns : goal.returns
returns c = search put_all
