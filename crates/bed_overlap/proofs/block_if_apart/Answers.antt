use Rattle.bed_overlap.proofs.Meeting.{block_told}
use Rattle.bed_overlap.proofs.block_if_apart.Goals as goal

pub returns : goal.returns
returns c = block_told c.put_block-b.ensures c.requires.1 _ c.are_later_apart.ensures c.then_some.ensures
