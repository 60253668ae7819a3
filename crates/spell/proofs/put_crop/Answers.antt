use Rattle.spell.proofs.Laws.{cropping_start, cropping_more, cropping_done, segment_inside, piece_order, piece_few, piece_fits}
use borrow.Author.Rules.{rules}
use Rattle.spell.proofs.put_crop.Goals as goal

pub loop-i-init : goal.loop-i-init
loop-i-init c = search cropping_start

pub put_segment-requires : goal.put_segment-requires
put_segment-requires c = search (rules, segment_inside, piece_order, piece_few, piece_fits)

pub overflow_sub-next : goal.overflow_sub-next
overflow_sub-next c = search (rules, piece_order)

pub overflow_add-next : goal.overflow_add-next
overflow_add-next c = search (rules, piece_fits)

pub loop-i-preserved : goal.loop-i-preserved
loop-i-preserved c = search cropping_more

pub returns : goal.returns
returns c = search cropping_done
