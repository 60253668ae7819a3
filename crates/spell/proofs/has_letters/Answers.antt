use Rattle.spell.proofs.Laws.{fewer_start, fewer_more, fewer_done}
use Rattle.spell.proofs.has_letters.Goals as goal

pub loop-i-init : goal.loop-i-init
loop-i-init c = search fewer_start

pub loop-i-preserved : goal.loop-i-preserved
loop-i-preserved c = rw c.saturating_sub-more.ensures (search fewer_more)

pub returns : goal.returns
returns c = search fewer_done
