use Rattle.storage.proofs.Laws.{offset_reverse, offset_forward}
use Rattle.storage.proofs.cut_offset.Goals as goal

pub returns-then-reverse : goal.returns-then-reverse
returns-then-reverse c = search offset_reverse

pub returns-else-reverse : goal.returns-else-reverse
returns-else-reverse c = search offset_forward
