use Rattle.spell.proofs.Laws.{slots_start, slots_room, slots_more, slots_done}
use Rattle.spell.proofs.slot_at.Goals as goal

pub loop-i-init : goal.loop-i-init
loop-i-init c = search slots_start

pub count_at-requires : goal.count_at-requires
count_at-requires c = search slots_room

pub loop-i-preserved : goal.loop-i-preserved
loop-i-preserved c = search slots_more

pub returns : goal.returns
returns c = search slots_done
