use Rattle.bed_overlap.proofs.Blocks.{next_told}
use Rattle.bed_overlap.proofs.next_if_apart.Goals as goal

pub returns : goal.returns
returns c = next_told c.put_block-b.ensures c.requires.1 c.requires.2 c.are_first_apart.ensures c.then_some.ensures
